use Rattle.std.proofs.Common.{ℕ, ◌+◌, ◌-◌, ◌^◌, min, Bool, if◌then◌else◌, List, Option, find, is_some, ap, ◌∙◌}
use Rattle.book_register.specs.Register.{has_key, key_of, rows_without}
use Rattle.book_register.specs.declared.entry.Entry.{Entry}
use Rattle.book_ledger.specs.Changes.{differing}
use Rattle.book_ledger.proofs.DifferenceLemmas.{differing_taken, some_place}
use Rattle.book_ledger.proofs.FoundLemmas.{found_removed}
use Rattle.book_ledger.proofs.row.take_row.Goals as goal

pub returns-clause-found : goal.returns-clause-found
returns-clause-found c = λ key.
    let old = c.args.register.now.rows in
    ap (λ (rows : List Entry). find (has_key key) rows) c.remove-place.ensures.rows
    ∙ ap (λ (o : Option ℕ). find (has_key key) (rows_without o old)) c.remove-place.ensures.place
    ∙ found_removed key c.args.row.now old c.len.ensures.sorted

pub returns-clause-rows : goal.returns-clause-rows
returns-clause-rows c =
    c.remove-place.ensures.rows
    ∙ ap (λ (o : Option ℕ). rows_without o c.args.register.now.rows) c.remove-place.ensures.place

pub returns-clause-differing : goal.returns-clause-differing
returns-clause-differing c = λ first sorted there here.
    let old = c.args.register.now.rows in
    let row = c.args.row.now in
    ap (λ (rows : List Entry). differing first rows)
    (c.remove-place.ensures.rows ∙ ap (λ (o : Option ℕ). rows_without o old) c.remove-place.ensures.place)
    ∙ differing_taken row first old sorted c.len.ensures.sorted there here

pub returns-clause-changes : goal.returns-clause-changes
returns-clause-changes c =
    let old = c.args.register.now in
    let place = ap is_some c.remove-place.ensures.place ∙ some_place (key_of c.args.row.now) old.rows in
    c.remove-place.ensures.changes
    ∙ ap (λ (t : Bool). if t then min (old.changes + 1) (2 ^ 64 - 1) else old.changes) place

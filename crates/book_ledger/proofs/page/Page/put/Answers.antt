use Rattle.std.proofs.Common.{◌≡◌, ℕ, ◌+◌, ◌-◌, ◌^◌, min, if◌then◌else◌, List, Option, None, find, is_some, sym, ap}
use Rattle.std.proofs.Common.{◌∙◌, subst}
use Rattle.std.specs.List.{position}
use Rattle.book_register.specs.Register.{RowKey, has_key, key_of, rows_without}
use Rattle.book_register.specs.declared.entry.Entry.{Entry}
use Rattle.book_ledger.specs.Changes.{differing}
use Rattle.book_ledger.specs.Lots.{AreLeft}
use Rattle.book_ledger.proofs.FoundLemmas.{none_found}
use Rattle.book_ledger.proofs.page.Page.put.Goals as goal

-- where no row stands at the key the rows are as they were before the row comes in
same_without : (key : RowKey) (rows : List Entry) → find (has_key key) rows ≡ None
    → rows_without (position (has_key key) rows) rows ≡ rows
same_without key rows none = ap (λ (o : Option ℕ). rows_without o rows) (none_found key rows none)

pub returns-clause-differing : goal.returns-clause-differing
returns-clause-differing c = λ first lacks none.
    let same = c.take.ensures.rows ∙ same_without (key_of c.args.row) c.args.self.now.rows none in
    c.put_new.ensures.differing first lacks ∙ ap (λ (rows : List Entry). differing first rows + 1) same

pub returns-clause-left : goal.returns-clause-left
returns-clause-left c = λ first lacks none most before.
    let old = c.args.self.now in
    let same = c.take.ensures.rows ∙ same_without (key_of c.args.row) old.rows none in
    c.put_new.ensures.left first lacks most
    (subst (λ (rows : List Entry). AreLeft first most rows c.take.new.self.reckoned) (sym same)
    (subst (λ (n : ℕ). AreLeft first most old.rows n) (sym (c.take.ensures.none none)) before))

pub returns-clause-changes : goal.returns-clause-changes
returns-clause-changes c = λ none.
    let old = c.args.self.now in
    let same = c.take.ensures.changes
    ∙ ap (λ (o : Option Entry). if is_some o then min (old.changes + 1) (2 ^ 64 - 1) else old.changes) none in
    c.put_new.ensures.changes ∙ ap (λ (n : ℕ). min (n + 1) (2 ^ 64 - 1)) same

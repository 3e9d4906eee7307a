use Rattle.std.proofs.Common.{List, find, length, sym, ap, ◌∙◌, subst}
use Rattle.book_register.specs.Register.{has_key, key_of}
use Rattle.book_register.specs.declared.entry.Entry.{Entry}
use Rattle.book_ledger.specs.Lots.{AreLeft}
use Rattle.book_ledger.specs.Page.{Page}
use Rattle.book_ledger.proofs.CommonLemmas.{IsUpTo, common_without, left_count, left_touched}
use Rattle.book_ledger.proofs.FoundLemmas.{none_found, without_is}
use Rattle.book_ledger.proofs.page.Page.take.Goals as goal

pub returns-in-Some-clause-none : goal.returns-in-Some-clause-none
returns-in-Some-clause-none c = λ none.
    let key = key_of c.args.row.now in
    let nowhere = none_found key c.self.inside.register.rows
    (ap (λ (p : Page). find (has_key key) p.rows) c.self.view_is ∙ none) in
    let both = sym nowhere ∙ (sym c.take_row.ensures.place ∙ c.in-Some.is) in absurd cc

pub returns-in-Some-clause-left : goal.returns-in-Some-clause-left
returns-in-Some-clause-left c = λ first sorted there here most before.
    let row = c.args.row.now in
    let old = c.self.inside.register.rows in
    let entries = c.self.inside.lots.entries in
    let place = c.in-Some.place in
    let found = ap (λ (p : Page). find (has_key (key_of row)) p.rows) c.self.view_is ∙ here in
    let at = sym c.take_row.ensures.place ∙ c.in-Some.is in
    let up = subst (λ (l : List Entry). IsUpTo place first old l)
    (sym (c.take_row.ensures.rows ∙ without_is (key_of row) old))
    (common_without row first old place sorted c.take_row.ensures.was_sorted there found at) in
    left_touched first old c.take_row.new.register.rows most place (length entries) (length c.touch.new.self.entries)
    up (ap length c.touch.ensures.entries ∙ left_count place entries)
    (subst (λ (p : Page). AreLeft first most p.rows p.reckoned) (sym c.self.view_is) before)

use Rattle.std.proofs.Common.{◌+◌, List, length, sym, ap, ◌∙◌, subst}
use Rattle.book_register.specs.declared.entry.Entry.{Entry}
use Rattle.book_ledger.specs.Changes.{differing}
use Rattle.book_ledger.specs.Lots.{AreLeft}
use Rattle.book_ledger.specs.Page.{Page}
use Rattle.book_ledger.proofs.CommonLemmas.{IsUpTo, common_inserted, left_count, left_touched}
use Rattle.book_ledger.proofs.page.Page.put_new.Goals as goal

pub returns-clause-differing : goal.returns-clause-differing
returns-clause-differing c = λ first lacks.
    c.insert_row-place.ensures.differing first lacks ∙ ap (λ (p : Page). differing first p.rows + 1) c.self.view_is

pub returns-clause-left : goal.returns-clause-left
returns-clause-left c = λ first lacks most before.
    let old = c.self.inside.register.rows in
    let entries = c.self.inside.lots.entries in
    let place = c.insert_row-place.result in
    let up = subst (λ (l : List Entry). IsUpTo place first old l) (sym c.insert_row-place.ensures.rows)
    (common_inserted c.args.row first old place lacks) in
    left_touched first old c.insert_row-place.new.register.rows most place (length entries)
    (length c.touch.new.self.entries) up (ap length c.touch.ensures.entries ∙ left_count place entries)
    (subst (λ (p : Page). AreLeft first most p.rows p.reckoned) (sym c.self.view_is) before)

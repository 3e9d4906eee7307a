use Rattle.std.proofs.Common.{IsSome, ap, subst, sym, ◌∙◌, refl}
use Rattle.std.specs.Option.{option_copied, option_map}
use Rattle.book_commodity.specs.Table.{value_of}
use Rattle.book_register.specs.Register.{Rows}
use Rattle.book_undo.specs.Book.{Book, book_of}
use Rattle.book_reports.specs.Measure.{CanBeSummed}
use Rattle.book_reports.proofs.RowLemmas.{can_be_summed, live_rows}
use Rattle.book_listings.proofs.present.PresentBook.register.Goals as goal

pub returns-clause-summed : goal.returns-clause-summed
returns-clause-summed c =
    let book = book_of c.self.inside.plain in
    let is = c.register.ensures book c.self.invariant.1 refl in
    let here = ap (λ o. option_map (λ (r : Rows). r.rows) (option_copied o)) (sym c.in-Some.is) ∙ is in
    let there = subst (λ (b : Book). IsSome (value_of c.args.account b.accounts)) (sym c.self.view_is) c.requires in
    subst CanBeSummed (sym (live_rows book c.args.account c.in-Some.register.now.rows there here))
    (can_be_summed book c.args.account c.self.invariant.0)

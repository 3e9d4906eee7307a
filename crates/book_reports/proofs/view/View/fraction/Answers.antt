use Rattle.std.proofs.Common.{sym, ap, subst, ◌∙◌}
use Rattle.std.specs.Int.{IsInRange}
use Rattle.std.specs.Option.{option_copied, option_map_or}
use Rattle.book_commodity.specs.declared.commodity.Commodity.{Commodity}
use Rattle.book_undo.specs.Book.{book_of}
use Rattle.book_reports.proofs.MeasureLemmas.{fraction_in_range}
use Rattle.book_reports.proofs.view.View.fraction.Goals as goal

pub returns-in-Some-clause-range : goal.returns-in-Some-clause-range
returns-in-Some-clause-range c =
    let there = sym c.find.ensures ∙ ap option_copied c.in-Some.is in
    subst (λ o. IsInRange 1 1_000_000_000 (option_map_or (λ (commodity : Commodity). commodity.fraction) o 1)) there
    (fraction_in_range (book_of c.self.inside.plain.now) c.args.commodity c.self.invariant.0)

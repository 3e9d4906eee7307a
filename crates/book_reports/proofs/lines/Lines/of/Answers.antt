use Rattle.std.proofs.Common.{List, subst, sym}
use Rattle.book_reports.specs.Sections.{CanBeAdded}
use Rattle.book_reports.specs.declared.lines.Line.{Line}
use Rattle.book_reports.proofs.LineLemmas.{can_be_added}
use Rattle.book_reports.proofs.lines.Lines.of.Goals as goal

pub invariant_of-result : goal.invariant_of-result
invariant_of-result c =
    subst (λ (lines : List Line). CanBeAdded lines) (sym c.in_ok-lines.ensures)
    (can_be_added c.args.view.now c.args.period.now c.args.section c.args.order.now c.requires)

use Rattle.std.proofs.Common.{List, map, subst, sym, ◌∙◌}
use Rattle.book_sound.specs.Soundness.{IsSoundBook}
use Rattle.book_undo.specs.Book.{Book}
use Rattle.book_reports.specs.Trial.{CanBeAdded}
use Rattle.book_reports.specs.declared.sums.AccountSums.{AccountSums}
use Rattle.book_reports.specs.declared.trial_balance.TrialLine.{TrialLine}
use Rattle.book_reports.proofs.LineLemmas.{sides_can_be_added}
use Rattle.book_reports.proofs.SumsLemmas.{lines_by_sums}
use Rattle.book_reports.proofs.trial_balance.TrialLines.of.Goals as goal

pub invariant_of-result : goal.invariant_of-result
invariant_of-result c =
    let sound = subst (λ (b : Book). IsSoundBook b) c.view.view_is c.view.invariant.0 in
    let is = c.in_ok-lines.ensures
    ∙ lines_by_sums c.args.view.now c.args.day c.args.currency c.args.sums.now c.requires.summed in
    subst (λ (lines : List TrialLine). CanBeAdded lines) (sym is)
    (sides_can_be_added c.args.view.now c.args.day c.args.currency
    (map (λ (s : AccountSums). s.account) c.args.sums.now) sound c.requires.few)

pub returns : goal.returns
returns c =
    c.in_ok-lines.ensures
    ∙ lines_by_sums c.args.view.now c.args.day c.args.currency c.args.sums.now c.requires.summed

use Rattle.std.proofs.Common.{◌≤◌, List, [], ◌∷◌, ◌++◌, take, Option, unsigned_abs, subst, sym, ap, ◌∙◌, append-nil}
use Rattle.std.specs.List.{cons_option, filter_map}
use Rattle.book_limits.specs.Limits.{largest_sum}
use Rattle.book_reports.specs.Sums.{line_by, sum_at}
use Rattle.book_reports.specs.declared.sums.AccountSums.{AccountSums}
use Rattle.book_reports.specs.declared.trial_balance.TrialLine.{TrialLine}
use Rattle.book_reports.proofs.LineLemmas.{found_next}
use Rattle.book_reports.proofs.trial_balance.found_lines.Goals as goal
use Rattle.book_reports.proofs.trial_balance.found_lines.Goals.{in-Some+in_ok-push, in_default}

pub line_of-requires-clause-small : goal.line_of-requires-clause-small
line_of-requires-clause-small c =
    let summed = c.requires c.loop-account.account-index c.account-item.result c.loop-account-test.true in
    subst (λ (s : AccountSums). unsigned_abs (sum_at c.args.currency s.by_currency.entries) ≤ largest_sum)
    (sym c.account-item.is) (summed.small c.args.currency)

pub loop-account-preserved : goal.loop-account-preserved
loop-account-preserved c =
    let line = line_by c.args.view.now c.args.currency in
    let before = take c.loop-account.account-index c.args.sums.now in
    let next = found_next line c.args.sums.now c.loop-account.account-index c.account-item.result
    c.loop-account-test.true in
    let is = c.in_ok-line.ensures ∙ ap line c.account-item.is in
    elim c.match-branch-2.branch [
      | in-Some+in_ok-push w ↦ w.lines-is ∙ w.in_ok-push.ensures.added
          ∙ ap (λ (l : List TrialLine). l ++ w.in-Some.line ∷ []) c.loop-account.invariant
          ∙ ap (λ (o : Option TrialLine). filter_map line before ++ cons_option o []) (sym w.in-Some.is ∙ is) ∙ sym next
      | in_default w ↦ w.lines-is ∙ c.loop-account.invariant ∙ sym (append-nil (filter_map line before))
          ∙ ap (λ (o : Option TrialLine). filter_map line before ++ cons_option o []) (sym w.in_default.is ∙ is) ∙ sym next
    ]

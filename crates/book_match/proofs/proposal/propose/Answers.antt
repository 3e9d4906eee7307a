use Rattle.std.proofs.Common.{◌≡◌, ◌+◌, ◌++◌, Bor, List, [], ◌∷◌, drop, map, ap, sym, ◌∙◌, append_assoc, Some}
use Rattle.std.specs.Option.{option_copied}
use Rattle.std.specs.List.{list_any}
use Rattle.std.specs.BTreeMap.{is_at}
use Rattle.std.specs.Ordering.{nat_cmp}
use Rattle.book_match.specs.Proposal.{left_by, pairs_of}
use Rattle.book_match.specs.Taken.{left}
use Rattle.book_match.specs.declared.views.LineView.{LineView}
use Rattle.book_match.specs.declared.views.Matched.{Matched}
use Rattle.book_match.specs.declared.views.SplitView.{SplitView}
use Rattle.book_match.proofs.TakenLemmas.{left-all, left-more, pair-here}
use Rattle.book_match.proofs.proposal.propose.Goals as goal

pub loop-line-init : goal.loop-line-init
loop-line-init c =
    let items : List (Bor LineView) = c.as_slice-line-items.result.now in
    let rest : List SplitView → List Matched =
    λ splits. pairs_of c.args.window (map (λ line. line.now) items) splits in
    ap (λ l. l ++ rest (left c.new-taken.result c.args.splits.now)) c.new-pairs.ensures
    ∙ ap rest (left-all c.new-taken.result c.args.splits.now
    (λ q. ap (list_any (is_at (nat_cmp q))) c.new-taken.ensures.empty))

pub loop-line-preserved : goal.loop-line-preserved
loop-line-preserved c =
    let items : List (Bor LineView) = c.as_slice-line-items.result.now in
    let seen : Bor LineView → LineView = λ line. line.now in
    let i = c.loop-line.line-index in
    let item : Bor LineView = c.line-item.result in
    let split : SplitView = c.in-Some.split.now in
    let before = left c.loop-line.taken c.args.splits.now in
    let after = left c.insert.new.self c.args.splits.now in
    let pair : Matched = record { line = item.now.line; split = split.split } in
    let rest : List SplitView → List Matched =
    λ splits. pairs_of c.args.window (map seen (drop (i + 1) items)) splits in
    let some = ap option_copied (sym c.in-Some.is) ∙ c.nearest.ensures in
    let left_is : after ≡ left_by (Some split) before =
    left-more c.loop-line.taken c.insert.new.self split c.args.splits.now c.in_ok-insert.ensures.updates.0 in
    ap (λ l. l ++ rest after) c.in_ok-push.ensures.added
    ∙ append_assoc c.loop-line.pairs (pair ∷ []) (rest after)
    ∙ ap (λ l. c.loop-line.pairs ++ (pair ∷ rest l)) left_is
    ∙ ap (λ l. c.loop-line.pairs ++ l)
    (sym (pair-here seen c.args.window items i item split before c.loop-line-test.true c.line-item.is some))
    ∙ c.loop-line.invariant

use Rattle.std.proofs.Common.{◌≡◌, ℕ, true, cond, filter, subst, ◌+◌, ◌++◌, Bor, List, [], ◌∷◌, drop, map}
use Rattle.std.proofs.Common.{option_map, ap, sym, ◌∙◌, append_assoc, None, Some}
use Rattle.std.specs.List.{list_any}
use Rattle.std.specs.BTreeMap.{is_at}
use Rattle.std.specs.BTreeSet.{contains}
use Rattle.std.specs.Ordering.{nat_cmp}
use Rattle.book_commodity.proofs.ListLemmas.{mapped_none, mapped_some}
use Rattle.book_match.specs.Kept.{view_of, views_on}
use Rattle.book_match.specs.Proposal.{choice, left_by, nearest, pairs_of}
use Rattle.book_match.specs.Taken.{is_left, left}
use Rattle.book_match.specs.declared.views.LineView.{LineView}
use Rattle.book_match.specs.declared.views.Matched.{Matched}
use Rattle.book_match.specs.declared.views.SplitView.{SplitView}
use Rattle.book_match.proofs.KeptLemmas.{choice-kept}
use Rattle.book_match.proofs.TakenLemmas.{left-all, left-more, none-here, pair-here}
use Rattle.book_match.proofs.kept.propose_kept.Goals as goal

pub loop-line-init : goal.loop-line-init
loop-line-init c =
    let items : List (Bor LineView) = c.as_slice-line-items.result.now in
    let views = views_on c.args.account c.args.index.now.entries c.args.txns.now.entries in
    let rest : List SplitView → List Matched =
    λ splits. pairs_of c.args.window (map (λ line. line.now) items) splits in
    ap (λ l. l ++ rest (left c.new-taken.result views)) c.new-pairs.ensures
    ∙ ap rest (left-all c.new-taken.result views (λ q. ap (list_any (is_at (nat_cmp q))) c.new-taken.ensures.empty))

pub loop-line-preserved-in_default : goal.loop-line-preserved-in_default
loop-line-preserved-in_default c =
    let items : List (Bor LineView) = c.as_slice-line-items.result.now in
    let seen : Bor LineView → LineView = λ line. line.now in
    let item : Bor LineView = c.line-item.result in
    let es = c.args.index.now.entries in
    let ts = c.args.txns.now.entries in
    let before = left c.loop-line.taken (views_on c.args.account es ts) in
    let number : SplitView → ℕ = λ view. view.split in
    let found : option_map number (choice c.args.window item.now before) ≡ None =
    sym (choice-kept c.args.window c.args.account item.now c.loop-line.taken es ts)
    ∙ ap (λ l. option_map number (nearest item.now (map (view_of ts)
    (filter (is_left c.loop-line.taken) l)))) (sym (c.as_slice.ensures.value ∙ c.in_ok-entries.ensures))
    ∙ sym c.split_for.ensures ∙ c.in_default.is in
    let none = mapped_none number (choice c.args.window item.now before) found in
    ap (λ l. c.loop-line.pairs ++ l)
    (sym (none-here seen c.args.window items c.loop-line.line-index item before c.loop-line-test.true c.line-item.is
    (sym none)))
    ∙ c.loop-line.invariant

pub loop-line-preserved : goal.loop-line-preserved
loop-line-preserved c =
    let items : List (Bor LineView) = c.as_slice-line-items.result.now in
    let seen : Bor LineView → LineView = λ line. line.now in
    let i = c.loop-line.line-index in
    let item : Bor LineView = c.line-item.result in
    let es = c.args.index.now.entries in
    let ts = c.args.txns.now.entries in
    let views = views_on c.args.account es ts in
    let before = left c.loop-line.taken views in
    let after = left c.insert.new.self views in
    let number : SplitView → ℕ = λ view. view.split in
    let found : option_map number (choice c.args.window item.now before) ≡ Some c.in-Some.split =
    sym (choice-kept c.args.window c.args.account item.now c.loop-line.taken es ts)
    ∙ ap (λ l. option_map number (nearest item.now (map (view_of ts)
    (filter (is_left c.loop-line.taken) l)))) (sym (c.as_slice.ensures.value ∙ c.in_ok-entries.ensures))
    ∙ sym c.split_for.ensures ∙ c.in-Some.is in
    let chosen = mapped_some number (choice c.args.window item.now before) c.in-Some.split found in
    let rest : List SplitView → List Matched =
    λ splits. pairs_of c.args.window (map seen (drop (i + 1) items)) splits in
    let pair : ℕ → Matched = λ split. record { line = item.now.line; split = split } in
    let left_is : after ≡ left_by (Some chosen.0) before =
    left-more c.loop-line.taken c.insert.new.self chosen.0 views
    (subst (λ (k : ℕ). (q : ℕ) → contains nat_cmp c.insert.new.self q
    ≡ cond (is_at (nat_cmp k) q) true (contains nat_cmp c.loop-line.taken q)) (sym chosen.2)
    c.in_ok-insert.ensures.updates.0) in
    ap (λ l. l ++ rest after) c.in_ok-push.ensures.added
    ∙ append_assoc c.loop-line.pairs (pair c.in-Some.split ∷ []) (rest after)
    ∙ ap (λ l. c.loop-line.pairs ++ (pair c.in-Some.split ∷ rest l)) left_is
    ∙ ap (λ (k : ℕ). c.loop-line.pairs ++ (pair k ∷ rest (left_by (Some chosen.0) before))) (sym chosen.2)
    ∙ ap (λ l. c.loop-line.pairs ++ l)
    (sym (pair-here seen c.args.window items i item chosen.0 before c.loop-line-test.true c.line-item.is
    (sym chosen.1)))
    ∙ c.loop-line.invariant

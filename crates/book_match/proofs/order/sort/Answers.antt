use Rattle.std.proofs.Common.{Bool, List, Bor, map, ap, sym, ◌∙◌, rules}
use Rattle.std.proofs.lemmas.List.Sorted.{answers_always}
use Rattle.std.specs.Ordering.{int_cmp, is_lt, nat_cmp, ordering_then}
use Rattle.book_match.specs.Proposal.{comes_before}
use Rattle.book_match.specs.declared.views.LineView.{LineView}
use Rattle.book_match.proofs.OrderLemmas.{in_order-is, key-less, lines-order, order-by, sorted-is, sorted-mapped}
use Rattle.book_match.proofs.order.sort.Goals as goal

pub returns : goal.returns
returns c =
    let before : List (Bor LineView) = c.args.lines.now.items in
    let after : List (Bor LineView) = c.sort_by_key.new.self.items in
    let seen : Bor LineView → LineView = λ line. line.now in
    let lt : Bor LineView → Bor LineView → Bool =
    λ x y. is_lt (ordering_then (int_cmp x.now.day y.now.day) (nat_cmp x.now.line y.now.line)) in
    let same = λ (x y : Bor LineView). key-less x.now.day y.now.day x.now.line y.now.line in
    let order = order-by lt comes_before seen same lines-order in
    let sorted_up = c.in_ok-sort_by_key.ensures.sorted (λ line. (line.now.day, line.now.line))
    (answers_always _ _ _ (λ f a r g h. search rules)) in
    let stable = c.sort_by_key.ensures.stable (λ line. (line.now.day, line.now.line))
    (answers_always _ _ _ (λ f a r g h. search rules)) in
    ap (map seen) (sorted-is lt order before after sorted_up stable) ∙ sorted-mapped lt comes_before seen same before
    ∙ sym (in_order-is (map seen before))

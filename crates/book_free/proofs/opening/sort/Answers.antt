-- A stable sort by the first number leaves the definition's order.
use Rattle.std.proofs.Common.{◌∙◌, rules}
use Rattle.std.proofs.lemmas.List.Sorted.{answers_always}
use Rattle.book_match.proofs.OrderLemmas.{sorted-is}
use Rattle.book_free.proofs.OpeningLemmas.{key_first, key_order, order_is}
use Rattle.book_free.proofs.opening.sort.Goals as goal

pub returns : goal.returns
returns c =
    let before = c.args.pairs.now.items in
    let after = c.sort_by_key.new.self.items in
    sorted-is key_first key_order before after
    (c.in_ok-sort_by_key.ensures.sorted (λ pair. pair.0) (answers_always _ _ _ (λ f a r g h. search rules)))
    (c.sort_by_key.ensures.stable (λ pair. pair.0) (answers_always _ _ _ (λ f a r g h. search rules)))
    ∙ order_is before

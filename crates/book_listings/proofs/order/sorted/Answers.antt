use Rattle.std.proofs.Common.{ℕ, ℤ, rules}
use Rattle.std.proofs.lemmas.List.Sorted.{answers_always}
use Rattle.book_listings.proofs.OrderLemmas.{are_by_day}
use Rattle.book_listings.proofs.order.sorted.Goals as goal

pub returns : goal.returns
returns c =
    are_by_day _ _
    (c.in_ok-sort_by_key.ensures.sorted (λ (e : ℤ × ℕ). e.0) (answers_always _ _ _ (λ f a r f' k. search rules)))
    (c.in_ok-sort_by_key.ensures.stable (λ (e : ℤ × ℕ). e.0) (answers_always _ _ _ (λ f a r f' k. search rules)))

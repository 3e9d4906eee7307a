use Rattle.std.proofs.Common.{pos, rules}
use Rattle.std.proofs.lemmas.List.Sorted.{answers_always}
use Rattle.book_reconcile.proofs.OrderLemmas.{sorted-is}
use Rattle.book_reconcile.proofs.finish.sort_by_day.Goals as goal

pub returns : goal.returns
returns c =
    sorted-is c.args.rows.now.items c.sort_by_key.new.self.items (pos 0, record { split = 0; quantity = pos 0 })
    (c.in_ok-sort_by_key.ensures.sorted (λ row. row.0) (answers_always _ _ _ (λ f a r g h. search rules)))
    (c.sort_by_key.ensures.stable (λ row. row.0) (answers_always _ _ _ (λ f a r g h. search rules)))

use Rattle.std.proofs.Common.{◌≡◌, ◌+◌, ◌%◌, ◌^◌, length, ap, sym, ◌∙◌}
use Rattle.book_commodity.specs.Table.{value_of, without_entry}
use Rattle.book_splits.specs.Balance.{splits_of}
use Rattle.book_splits.specs.SplitCount.{splits_in}
use Rattle.book_splits.proofs.CountLemmas.{count-less, splits-without}
use Rattle.book_splits.proofs.transactions.Txns.take.Goals as goal

pub invariant_of-self : goal.invariant_of-self
invariant_of-self c =
    let ts = c.self.inside.transactions.entries in
    let left = without_entry c.args.number ts in
    let removed : c.count_in-removed.result ≡ splits_in (value_of c.args.number ts) = c.count_in-removed.ensures
    ∙ ap splits_in c.take-old.ensures.old in
    count-less c.self.inside.splits (length (splits_of ts))
    (length (splits_of left)) c.count_in-removed.result c.self.invariant c.count_in-removed.type_inv
    (ap (λ n. length (splits_of left) + n) removed ∙ splits-without c.args.number ts)
    ∙ ap (λ es. length (splits_of es) % 2 ^ 64) (sym c.take-old.ensures.entries)

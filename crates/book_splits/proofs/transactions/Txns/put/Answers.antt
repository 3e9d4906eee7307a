use Rattle.std.proofs.Common.{◌≡◌, ◌+◌, ◌%◌, ◌^◌, length, ap, sym, ◌∙◌}
use Rattle.book_commodity.specs.Table.{value_of, with_entry}
use Rattle.book_splits.specs.Balance.{splits_of}
use Rattle.book_splits.specs.SplitCount.{splits_in}
use Rattle.book_splits.proofs.CountLemmas.{count-changed, splits-with}
use Rattle.book_splits.proofs.transactions.Txns.put.Goals as goal

pub invariant_of-self : goal.invariant_of-self
invariant_of-self c =
    let ts = c.self.inside.transactions.entries in
    let new = with_entry c.args.number c.args.transaction ts in
    let removed : c.count_in-removed.result ≡ splits_in (value_of c.args.number ts) = c.count_in-removed.ensures
    ∙ ap splits_in c.put-old.ensures.old in
    count-changed c.self.inside.splits (length (splits_of ts))
    (length (splits_of new)) c.len-added.result c.count_in-removed.result c.self.invariant
    c.count_in-removed.type_inv
    (ap (λ n. length (splits_of new) + n) removed
    ∙ splits-with c.args.number c.args.transaction ts c.put-old.ensures.rises
    ∙ ap (λ n. length (splits_of ts) + n) (sym c.len-added.ensures))
    ∙ ap (λ es. length (splits_of es) % 2 ^ 64) (sym c.put-old.ensures.entries)

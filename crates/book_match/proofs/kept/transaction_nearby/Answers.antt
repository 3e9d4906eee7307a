use Rattle.std.proofs.Common.{◌≡◌, ℕ, ◌-◌, ◌<◌, true, List, length, ap, sym, ◌∙◌, arith}
use Rattle.book_splits.specs.Balance.{splits_of}
use Rattle.book_splits.specs.TransactionRules.{are_once, is_among, numbers_of}
use Rattle.book_splits.specs.declared.transaction.Txn.{Txn}
use Rattle.book_match.specs.Kept.{num_of}
use Rattle.book_match.proofs.KeptLemmas.{num-at}
use Rattle.book_match.proofs.kept.transaction_nearby.Goals as goal

pub returns-then-has_split : goal.returns-then-has_split
returns-then-has_split c =
    let ts : List (ℕ × Txn) = c.as_slice-entries.result.now in
    let seen : ts ≡ c.args.txns.now.entries = c.as_slice-entries.ensures.entries in
    let at = c.partition_point-place.result - 1 in
    let below : at < length ts = omega (arith, c.partition_point-place.ensures.bound, c.if-place-eq0.false) in
    let once : are_once (numbers_of (splits_of ts)) ≡ true =
    ap (λ (es : List (ℕ × Txn)). are_once (numbers_of (splits_of es))) seen ∙ c.requires in
    ap (num_of c.args.split) (sym seen)
    ∙ num-at ts at c.index-entries-place.result c.args.split once below
    (ap (λ l. is_among (numbers_of l) c.args.split) (sym c.as_slice.ensures) ∙ sym c.has_split.ensures
    ∙ c.if-has_split.true)

use Rattle.std.proofs.Common.{ℕ, ◌-◌, ◌<◌, List, length, get_or, subst, arith}
use Rattle.std.proofs.lemmas.List.{get_or_default}
use Rattle.std.proofs.lemmas.Option.{IfSome_then}
use Rattle.std.specs.Prelude.{Contains}
use Rattle.book_splits.specs.Balance.{splits_of}
use Rattle.book_splits.specs.declared.split.Split.{Split}
use Rattle.book_splits.specs.declared.transaction.Txn.{Txn}
use Rattle.book_reconcile.proofs.KeptLemmas.{contains-of}
use Rattle.book_reconcile.proofs.kept.split_nearby.Goals as goal

pub returns : goal.returns
returns c =
    let ts : List (ℕ × Txn) = c.as_slice-entries.result.now in
    let at = c.partition_point-place.result - 1 in
    let item : ℕ × Txn = get_or ts at c.index-entries-place.result in
    let below : at < length ts = omega (arith, c.partition_point-place.ensures.bound, c.if-place-eq0.false) in
    IfSome_then c.split_with.result c.split_with.ensures (λ s h. (
      h.0,
      subst (λ (es : List (ℕ × Txn)). Contains (splits_of es) s.now) c.as_slice-entries.ensures.entries
          (contains-of ts at item s.now below (get_or_default ts at c.index-entries-place.result item below)
          (subst (λ (l : List Split). Contains l s.now) c.as_slice.ensures h.1)),
    ))

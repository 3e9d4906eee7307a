-- How many splits there are after a transaction is put or taken.
use Rattle.std.proofs.Common.{◌≡◌, ℕ, ◌+◌, ◌-◌, ◌%◌, ◌^◌, ◌<◌, ◌≤◌, List, [], ◌∷◌, ◌++◌, length, arith}
use Rattle.std.proofs.Math.ListN.{length-append}
use Rattle.std.proofs.lemmas.Bool.Decides.{nat_tests}
use Rattle.book_commodity.specs.Table.{Rises, value_of, with_entry, without_entry}
use Rattle.book_commodity.proofs.TableLemmas.{above_less, above_value}
use Rattle.book_splits.specs.Balance.{splits_of}
use Rattle.book_splits.specs.SplitCount.{splits_in}
use Rattle.book_splits.specs.declared.transaction.Txn.{Txn}

-- The splits of a transaction that is put come to the others, instead of those of one that stood there.
pub splits-with :
    (n : ℕ) (transaction : Txn) (ts : List (ℕ × Txn))
    → Rises ts
    → length (splits_of (with_entry n transaction ts)) + splits_in (value_of n ts)
    ≡ length (splits_of ts) + length transaction.splits
splits-with n transaction [] r = grind (arith, length-append transaction.splits [])
splits-with n transaction (e ∷ es) r =
    let first = length-append e.1.splits (splits_of es) in
    let here = length-append transaction.splits (splits_of es) in
    let front = length-append transaction.splits (e.1.splits ++ splits_of es) in
    let later = length-append e.1.splits (splits_of (with_entry n transaction es)) in
    let more = splits-with n transaction es r.1 in
    grind (
      arith,
      nat_tests,
      first,
      here,
      front,
      later,
      more,
      λ (lt : n < e.0). above_value n es (above_less n e.0 es (omega arith) r.0),
    )

-- The splits of a transaction that is taken no longer count.
pub splits-without :
    (n : ℕ) (ts : List (ℕ × Txn))
    → length (splits_of (without_entry n ts)) + splits_in (value_of n ts) ≡ length (splits_of ts)
splits-without n [] = omega arith
splits-without n (e ∷ es) =
    let first = length-append e.1.splits (splits_of es) in
    let later = length-append e.1.splits (splits_of (without_entry n es)) in
    let more = splits-without n es in
    grind (arith, nat_tests, first, later, more)

-- the splits of a transaction are among those of all
pub splits-within : (number : ℕ) (ts : List (ℕ × Txn)) → splits_in (value_of number ts) ≤ length (splits_of ts)
splits-within number ts = omega (arith, splits-without number ts)

-- A count that is kept after division by 2^64 is so after some are added and some removed.
pub count-changed :
    (count old new added removed : ℕ) → count ≡ old % 2 ^ 64 → removed < 2 ^ 64 → new + removed ≡ old + added
    → ((count + added) % 2 ^ 64 + (2 ^ 64 - removed)) % 2 ^ 64 ≡ new % 2 ^ 64
count-changed count old new added removed is few same = omega (arith, is, few, same)

pub count-less :
    (count old new removed : ℕ) → count ≡ old % 2 ^ 64 → removed < 2 ^ 64 → new + removed ≡ old
    → (count + (2 ^ 64 - removed)) % 2 ^ 64 ≡ new % 2 ^ 64
count-less count old new removed is few same = omega (arith, is, few, same)

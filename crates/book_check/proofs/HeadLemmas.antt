-- What the rules of the head ask: numbers below the next.
use Rattle.std.proofs.Common.{◌≡◌, ℕ, ◌-◌, ◌<◌, nat_lt, Bool, true, ◌&&◌, List, [], ◌∷◌, length}
use Rattle.std.proofs.Common.{Some, option_map, slice_get, refl, ap, ◌∙◌, arith}
use Rattle.std.specs.List.{list_all}
use Rattle.std.proofs.lemmas.Bool.Decides.{nat_tests}
use Rattle.std.proofs.lemmas.List.Folds.{list_all-append}
use Rattle.book_commodity.specs.Table.{AllAbove, Rises}
use Rattle.book_splits.specs.Balance.{splits_of}
use Rattle.book_splits.specs.declared.split.Split.{Split}
use Rattle.book_splits.specs.declared.transaction.Txn.{Txn}
use Rattle.book_check.specs.FirstUnsound.{are_below}

-- a number of entries that are all above a number is above it
above_last :
    {T : Type 0} (k n : ℕ) (e : ℕ × T) (es : List (ℕ × T)) → AllAbove k (e ∷ es)
    → option_map (λ (x : ℕ × T). x.0) (slice_get (e ∷ es) (length es)) ≡ Some n → k < n
above_last k n e [] above last = (let same : e.0 ≡ n = cc in let first = above.0 in omega (arith, same, first))
above_last k n e (f ∷ es) above last = above_last k n f es above.1 last

last_is :
    {T : Type 0} (next n : ℕ) (e : ℕ × T) (es : List (ℕ × T)) → Rises (e ∷ es)
    → option_map (λ (x : ℕ × T). x.0) (slice_get (e ∷ es) (length es)) ≡ Some n
    → are_below next (e ∷ es) ≡ nat_lt n next
last_is next n e [] rise last = (let same : e.0 ≡ n = cc in grind (arith, nat_tests, same))
last_is next n e (f ∷ es) rise last =
    let rest = last_is next n f es rise.1 last in
    let less : e.0 < n = above_last e.0 n f es rise.0 last in
    ap (λ (t : Bool). nat_lt e.0 next && t) rest ∙ grind (arith, nat_tests, less)

-- the numbers of a table are below the next where the last is
pub below_last :
    {T : Type 0} (next n : ℕ) (es : List (ℕ × T)) → Rises es → 0 < length es
    → option_map (λ (x : ℕ × T). x.0) (slice_get es (length es - 1)) ≡ Some n → are_below next es ≡ nat_lt n next
below_last next n [] rise some last = absurd (omega (arith, some))
below_last {T} next n (e ∷ es) rise some last =
    let same : length es ≡ length (e ∷ es) - 1 = omega arith in
    last_is next n e es rise
    (ap (λ (k : ℕ). option_map (λ (x : ℕ × T). x.0) (slice_get (e ∷ es) k)) same ∙ last)

-- and where there is none
pub below_none : {T : Type 0} (next : ℕ) (es : List (ℕ × T)) → length es ≡ 0 → are_below next es ≡ true
below_none next [] none = refl
below_none next (e ∷ es) none = absurd (omega (arith, none))

-- what holds of all splits holds of those of each transaction
pub all_splits :
    (p : Split → Bool) (es : List (ℕ × Txn))
    → list_all p (splits_of es) ≡ list_all (λ (e : ℕ × Txn). list_all p e.1.splits) es
all_splits p [] = refl
all_splits p (e ∷ es) =
    list_all-append p e.1.splits (splits_of es) ∙ ap (λ (t : Bool). list_all p e.1.splits && t) (all_splits p es)

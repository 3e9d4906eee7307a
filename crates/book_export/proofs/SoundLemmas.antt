-- What the export needs of a sound book.
use Rattle.std.proofs.Common.{◌≡◌, ℕ, ◌^◌, ◌||◌, nat_lt, All, List, [], ◌∷◌, Some, zero, suc, subst, arith, get_or}
use Rattle.std.proofs.Common.{sym, ap, ◌∙◌}
use Rattle.std.proofs.lemmas.Bool.{not-true}
use Rattle.std.proofs.lemmas.Bool.Decides.{nat_tests}
use Rattle.std.proofs.lemmas.List.Elements.{All-head, All-tail}
use Rattle.std.proofs.lemmas.Option.{none-some, same_Some}
use Rattle.std.specs.List.{slice_get}
use Rattle.std.specs.Option.{option_map}
use Rattle.book_prices.specs.Rate.{IsSound}
use Rattle.book_prices.specs.declared.price.Price.{Price}
use Rattle.book_sound.specs.Soundness.{IsSoundBook}
use Rattle.book_sound.proofs.SoundFacts.{prices_are_kept}
use Rattle.book_undo.specs.Book.{Book}
use Rattle.book_export.specs.Symbols.{AreInRange}

-- the fractions of its commodities are in range
pub fractions_in_range : (book : Book) → IsSoundBook book → AreInRange book.commodities
fractions_in_range book is number commodity there =
    let within = not-true (nat_lt commodity.fraction 1 || nat_lt (10 ^ 9) commodity.fraction)
    (is.commodities.keep.each number commodity there).1.0 in
    (grind (arith, nat_tests, within), grind (arith, nat_tests, within))

-- the numbers of its prices are in range
pub prices_are_sound : (book : Book) → IsSoundBook book → All (λ (e : ℕ × Price). IsSound e.1) book.prices
prices_are_sound book is = (prices_are_kept book.commodities 1000000 book.prices is.prices).0

-- so are those of the price at a place
pub sound_at :
    (prices : List (ℕ × Price)) (i : ℕ) (price : Price) → All (λ (e : ℕ × Price). IsSound e.1) prices
    → option_map (λ (e : ℕ × Price). e.1) (slice_get prices i) ≡ Some price → IsSound price
sound_at [] i price all at = absurd (none-some price at)
sound_at (e ∷ prices) zero price all at =
    subst IsSound (same_Some e.1 price at) (All-head (λ (x : ℕ × Price). IsSound x.1) e prices all)
sound_at (e ∷ prices) (suc i) price all at =
    sound_at prices i price (All-tail (λ (x : ℕ × Price). IsSound x.1) e prices all) at

-- the number and the value at a place are the entry there
pub entry_at :
    {X : Type 0} (xs : List (ℕ × X)) (i : ℕ) (n : ℕ) (x : X) (d : ℕ × X)
    → option_map (λ (e : ℕ × X). e.0) (slice_get xs i) ≡ Some n
    → option_map (λ (e : ℕ × X). e.1) (slice_get xs i) ≡ Some x → (n, x) ≡ get_or xs i d
entry_at [] i n x d number value = absurd (none-some n number)
entry_at {X} (e ∷ xs) zero n x d number value =
    sym (ap (λ (m : ℕ). (m, e.1)) (same_Some e.0 n number) ∙ ap (λ (y : X). (n, y)) (same_Some e.1 x value))
entry_at (e ∷ xs) (suc i) n x d number value = entry_at xs i n x d number value

-- the value at a place is that of the entry there
pub value_there :
    {X : Type 0} (xs : List (ℕ × X)) (i : ℕ) (x : X) (d : ℕ × X)
    → option_map (λ (e : ℕ × X). e.1) (slice_get xs i) ≡ Some x → (get_or xs i d).1 ≡ x
value_there [] i x d at = absurd (none-some x at)
value_there (e ∷ xs) zero x d at = same_Some e.1 x at
value_there (e ∷ xs) (suc i) x d at = value_there xs i x d at

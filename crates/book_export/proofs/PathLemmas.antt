-- One more name behind those that were joined.
use Rattle.std.proofs.Common.{◌≡◌, ℕ, ◌+◌, ◌<◌, ◌==◌, Bool, true, false, if◌then◌else◌, List, [], ◌∷◌, ◌++◌, length}
use Rattle.std.proofs.Common.{map, take, get_or, refl, ap, ◌∙◌, arith, append-nil}
use Rattle.std.proofs.lemmas.Bool.Decides.{nat_tests}
use Rattle.std.specs.List.{join_with_byte}
use Rattle.book_accounts.proofs.PathLemmas.{join_first, join_next}

pub join_more :
    (f : ℕ → List ℕ) (xs : List ℕ) (i : ℕ) (before mid after : List ℕ) → i < length xs
    → before ≡ join_with_byte 58 (map f (take i xs)) → mid ≡ before ++ (if i == 0 then [] else 58 ∷ [])
    → after ≡ mid ++ f (get_or xs i 0) → after ≡ join_with_byte 58 (map f (take (i + 1) xs))
join_more f xs i before mid after below so_far colon step =
    let After : Bool → Type 0 = λ t.
    (i == 0) ≡ t → mid ≡ before ++ (if t then [] else 58 ∷ [])
    → after ≡ join_with_byte 58 (map f (take (i + 1) xs)) in
    elim (i == 0) as After [
      | true ↦ λ first none.
          join_first 58 f xs i before after below (grind (arith, nat_tests, first)) so_far
          (step ∙ ap (λ (l : List ℕ). l ++ f (get_or xs i 0)) (none ∙ append-nil before))
      | false ↦ λ later one.
          join_next 58 f xs i before after below (grind (arith, nat_tests, later)) so_far
          (step ∙ ap (λ (l : List ℕ). l ++ f (get_or xs i 0)) one)
    ] refl colon

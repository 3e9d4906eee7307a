-- How long the rest of a text is behind some characters.
use Rattle.std.proofs.Common.{ℕ, zero, suc, ◌≤◌, List, [], ◌∷◌, length, true, false, cond, arith}
use Rattle.book_statement.specs.Pieces.{after_chars, past_continuations, is_continuation}

past_continuations_le : (text : List ℕ) → length (past_continuations text) ≤ length text
past_continuations_le [] = omega arith
past_continuations_le (b ∷ bs) =
    elim (is_continuation b) as (λ t. length (cond t (past_continuations bs) (b ∷ bs)) ≤ length (b ∷ bs))
    [ true ↦ omega (arith, past_continuations_le bs) | false ↦ omega arith ]

pub after_chars_le : (n : ℕ) (text : List ℕ) → length (after_chars n text) ≤ length text
after_chars_le zero text = omega arith
after_chars_le (suc n) [] = omega arith
after_chars_le (suc n) (b ∷ bs) = omega (arith, after_chars_le n (past_continuations bs), past_continuations_le bs)

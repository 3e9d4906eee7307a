-- A piece and a counter more.
use Rattle.std.proofs.Common.{◌≡◌, ℕ, List, [], ◌∷◌, ◌++◌, ap}
use Rattle.std.specs.Fmt.{decimal}
use Rattle.gate_rows.specs.Counters.{counter_number, expanded, pieces_of, written}

-- a counter that ends at a number sign
pub counter_ends : (times : ℕ) (piece text counter more : List ℕ) → pieces_of text ≡ counter ∷ pieces_of more
    → written times (piece ∷ pieces_of text) ≡ piece ++ decimal (counter_number times counter) ++ expanded times more
counter_ends times piece text counter more e = ap (λ (l : List (List ℕ)). written times (piece ∷ l)) e

-- a counter that ends with the text
pub counter_ends_all : (times : ℕ) (piece text : List ℕ) → pieces_of text ≡ text ∷ []
    → written times (piece ∷ pieces_of text) ≡ piece ++ decimal (counter_number times text) ++ expanded times []
counter_ends_all times piece text e = ap (λ (l : List (List ℕ)). written times (piece ∷ l)) e

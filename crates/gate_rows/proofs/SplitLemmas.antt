-- The pieces of a text around a byte.
use Rattle.std.proofs.Common.{◌≡◌, ℕ, ◌<◌, ◌==◌, List, [], ◌∷◌, length, None, Some, Bor, sym, ap, ◌∙◌, arith}
use Rattle.std.specs.List.{after_first, slice_split}
use Rattle.std.proofs.lemmas.List.{length-drop}
use Rattle.std.proofs.lemmas.List.Splits.{slice_split_first, slice_split_none}
use Rattle.std.proofs.lemmas.List.Sums.{fails_before_first}
use Rattle.std.proofs.lemmas.Str.Pattern.{IsSplitOnceResult, split_once_first}

-- the pieces are the one before it and those of what is behind it
pub pieces_at : (c : ℕ) (text : List ℕ) (x : Bor (List ℕ) × Bor (List ℕ)) → IsSplitOnceResult c text (Some x) → c < 128
    → (slice_split (λ b. b == c) text ≡ x.0.now ∷ slice_split (λ b. b == c) x.1.now) × (length x.1.now < length text)
pieces_at c text x split low =
    let m = split_once_first c text (Some x) split low in (
      slice_split_first (λ b. b == c) text 0 m.0
          ∙ ap (λ (l : List ℕ). l ∷ slice_split (λ b. b == c) (after_first (λ b. b == c) text)) (sym m.1)
          ∙ ap (λ (l : List ℕ). x.0.now ∷ slice_split (λ b. b == c) l) (sym m.2),
      omega (arith, m.0, ap length m.2, length-drop {A = ℕ}),
    )

-- the text is its one piece
pub piece_at : (c : ℕ) (text : List ℕ) → IsSplitOnceResult c text None → c < 128
    → slice_split (λ b. b == c) text ≡ text ∷ []
piece_at c text split low =
    let end = split_once_first c text None split low in
    slice_split_none (λ b. b == c) text
    (λ k d below. fails_before_first (λ b. b == c) text k d (omega (arith, end, below)))

-- A line asks one thing alone.
use Rattle.std.proofs.Common.{◌≡◌, ◌∙◌, ◌⊎◌, ℕ, List, Some, inl, inr, refl, sym, ap}
use Rattle.serde_json.specs.Data.{Data}
use Rattle.book_json.specs.Line.{IsJson}
use Rattle.book_wire.specs.Asked.{Asked, Asks, NotJson, NotCommand, LineAsks, DataAsks, asked_of_data}

same_data : (bytes : List ℕ) (one other : Data) → IsJson bytes one → IsJson bytes other → one ≡ other
same_data bytes one other p q = let e : Some one ≡ Some other = sym p.1 ∙ q.1 in cc

same_asked : (bytes : List ℕ) (one other : Asked) → DataAsks bytes one → DataAsks bytes other → one ≡ other
same_asked bytes one other p q = sym p.2 ∙ (ap asked_of_data (same_data bytes p.0 q.0 p.1 q.1) ∙ q.2)

-- A line asks what its data asks, or is no JSON.
pub LineAsks-cases : (bytes : List ℕ) (asked : Asked) → LineAsks bytes asked
    → DataAsks bytes asked ⊎ (((d : Data) → IsJson bytes d → ⊥) × (asked ≡ NotJson))
LineAsks-cases bytes (Asks command) is = inl is
LineAsks-cases bytes NotJson none = inr (none, refl)
LineAsks-cases bytes (NotCommand name) is = inl is

-- No line asks two things.
pub asked-unique : (bytes : List ℕ) (one other : Asked) → LineAsks bytes one → LineAsks bytes other → one ≡ other
asked-unique bytes one other p q =
    elim (LineAsks-cases bytes one p) [
      | inl first ↦ elim (LineAsks-cases bytes other q)
          [ inl second ↦ same_asked bytes one other first second | inr none ↦ absurd (none.0 first.0 first.1) ]
      | inr none ↦ elim (LineAsks-cases bytes other q)
          [ inl second ↦ absurd (none.0 second.0 second.1) | inr too ↦ none.1 ∙ sym too.1 ]
    ]

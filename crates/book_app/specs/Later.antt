-- A keeper before and after lines are answered.
use Rattle.std.proofs.Common.{◌≡◌, ℕ, Bool, IsTrue, List, refl, ◌∙◌}

-- A keeper after lines were answered: its path stays, and it is honest, and knows its rows, only if it was and did
-- before.
pub record IsLater {K : Type 0} (path : K → List ℕ) (honest sure : K → Bool) (before after : K) : Type 0 where
  pub same_path : path after ≡ path before
  pub still_honest : IsTrue (honest after) → IsTrue (honest before)
  pub still_sure : IsTrue (sure after) → IsTrue (sure before)

-- a keeper is such a one after no line
pub same_later :
    {K : Type 0} (path : K → List ℕ) (honest sure : K → Bool) (keeper : K) → IsLater path honest sure keeper keeper
same_later path honest sure keeper =
    record { same_path = refl; still_honest = λ still. still; still_sure = λ still. still }

-- and after more lines
pub twice_later :
    {K : Type 0} (path : K → List ℕ) (honest sure : K → Bool) (first second third : K)
    → IsLater path honest sure first second → IsLater path honest sure second third
    → IsLater path honest sure first third
twice_later path honest sure first second third one other = record {
  same_path = other.same_path ∙ one.same_path;
  still_honest = λ still. one.still_honest (other.still_honest still);
  still_sure = λ still. one.still_sure (other.still_sure still);
}

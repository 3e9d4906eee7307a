-- What is made of equal fields is equal.
use Rattle.std.proofs.Common.{◌≡◌, ℕ, List, ap}

pub same_made :
    {F T : Type 0} (of : F → T) (f g : F) (r s : List ℕ) → ◌≡◌ {A = F × List ℕ} (f, r) (g, s)
    → ◌≡◌ {A = T × List ℕ} (of f, r) (of g, s)
same_made {F} {T} of f g r s same = ap (λ (p : F × List ℕ). (of p.0, p.1)) same

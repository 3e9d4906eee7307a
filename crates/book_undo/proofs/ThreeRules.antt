-- Three rules: which of them is the first that is broken.
use Rattle.std.proofs.Common.{◌≡◌}
use Rattle.std.proofs.Common.{[], ◌∷◌, Option, Some, None}
use Rattle.std.proofs.Common.{refl}
use Rattle.book_commodity.specs.Rules.{first_broken}

pub three_kept :
    {R : Type 0} (x y z : Option R) → first_broken (x ∷ y ∷ z ∷ []) ≡ None → (x ≡ None) × (y ≡ None) × (z ≡ None)
three_kept None None None e = (refl, refl, refl)
three_kept None None (Some z) e = absurd cc
three_kept None (Some y) z e = absurd cc
three_kept (Some x) y z e = absurd cc

pub three_none :
    {R : Type 0} (x y z : Option R) → x ≡ None → y ≡ None → z ≡ None → first_broken (x ∷ y ∷ z ∷ []) ≡ None
three_none None None None e f g = refl
three_none None None (Some z) e f g = absurd cc
three_none None (Some y) z e f g = absurd cc
three_none (Some x) y z e f g = absurd cc

-- the second and the third of three rules
pub second_broken :
    {R : Type 0} (x y z : Option R) (r : R) → x ≡ None → y ≡ Some r → first_broken (x ∷ y ∷ z ∷ []) ≡ Some r
second_broken None None z r e f = absurd cc
second_broken None (Some y) z r e f = f
second_broken (Some x) y z r e f = absurd cc

pub third_broken :
    {R : Type 0} (x y z : Option R) (r : R) → x ≡ None → y ≡ None → z ≡ Some r
    → first_broken (x ∷ y ∷ z ∷ []) ≡ Some r
third_broken None None None r e f g = absurd cc
third_broken None None (Some z) r e f g = g
third_broken None (Some y) z r e f g = absurd cc
third_broken (Some x) y z r e f g = absurd cc

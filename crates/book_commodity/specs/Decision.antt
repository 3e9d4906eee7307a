-- Decisions: a truth value that says whether a fact holds, with the reason.
use Rattle.std.specs.Prelude.{◌≡◌, ℕ, Bool, true, false, ◌&&◌, if◌then◌else◌, nat_eq, List, Option, Some, None}
use Rattle.std.specs.Prelude.{is_some, unwrap_or, refl}
use Rattle.std.proofs.Common.{ap}
use Rattle.std.specs.Bool.{Decides, beq}
use Rattle.std.specs.Cmp.{booleans_Decides, unsigned_Decides}
use Rattle.std.specs.Option.{option_eq}
use Rattle.std.proofs.lemmas.Slice.Eq.{slice_eq-Decides}
use lib.Pointwise.{pointwise}

-- Whether a fact holds: `is` is true exactly where it does.
pub record Decision (P : Type 0) : Type 0 where
  pub is : Bool
  pub decides : Decides is P

-- A truth value for each of two facts gives one for both.
pub both_decide : {P Q : Type 0} (p q : Bool) → Decides p P → Decides q Q → Decides (p && q) (P × Q)
both_decide true true d e = (λ h. (d.0 h, e.0 h), λ h. refl)
both_decide true false d e = (λ h. (d.0 refl, e.0 h), λ h. e.1 h.1)
both_decide false true d e = (λ h. (d.0 h, e.0 refl), λ h. d.1 h.0)
both_decide false false d e = (λ h. (d.0 h, e.0 h), λ h. d.1 h.0)

-- The test of two numbers that may be absent says whether they are the same.
pub options_decide : (m n : Option ℕ) → Decides (option_eq nat_eq m n) (m ≡ n)
options_decide None None = (λ h. refl, λ h. refl)
options_decide None (Some n) = (λ h. ap (λ (t : Bool). if t then Some n else None) h, λ h. ap is_some h)
options_decide (Some m) None = (
  λ h. ap (λ (t : Bool). if t then None else Some m) h,
  λ h. ap (λ (o : Option ℕ). if is_some o then false else true) h,
)
options_decide (Some m) (Some n) = (
  λ h. ap (λ (k : ℕ). Some k) ((unsigned_Decides m n).0 h),
  λ h. (unsigned_Decides m n).1 (ap (λ (o : Option ℕ). unwrap_or o m) h),
)

-- Two facts hold.
abbrev pub both : {P Q : Type 0} → Decision P → Decision Q → Decision (P × Q)
both p q = record { is = p.is && q.is; decides = both_decide p.is q.is p.decides q.decides }

-- A fact holds that says the same as another.
abbrev pub as_well : {P Q : Type 0} → (P → Q) → (Q → P) → Decision P → Decision Q
as_well onward back p = record { is = p.is; decides = (λ h. onward (p.decides.0 h), λ h. p.decides.1 (back h)) }

-- Two texts are the same.
abbrev pub same_text : (m n : List ℕ) → Decision (m ≡ n)
same_text m n = record {
  is = pointwise nat_eq m n;
  decides = slice_eq-Decides unsigned_Decides m n (pointwise nat_eq m n) refl;
}

-- Two numbers that may be absent are the same.
abbrev pub same_option : (m n : Option ℕ) → Decision (m ≡ n)
same_option m n = record { is = option_eq nat_eq m n; decides = options_decide m n }

-- Two truth values are the same.
abbrev pub same_flag : (s t : Bool) → Decision (s ≡ t)
same_flag s t = record { is = beq s t; decides = booleans_Decides s t }

-- The first double slash of a text.
use Rattle.std.proofs.Common.{
  ◌≡◌,
  ℕ,
  ◌≤◌,
  List,
  [],
  ◌∷◌,
  drop,
  length,
  get_or,
  true,
  false,
  ◌&&◌,
  cond,
  nat_eq,
  codes,
  sym,
  ap,
  ◌∙◌,
  arith,
}
use Rattle.std.specs.List.{starts_with}
use Rattle.std.proofs.lemmas.Bool.{and_parts, eqb-true}
use Rattle.mt940_read.specs.LineField.{before_slashes, behind_slashes}

-- a double slash in front
pub record BeginsWithSlashes (text : List ℕ) : Type 0 where
  pub before : before_slashes text ≡ []
  pub behind : behind_slashes text ≡ drop 2 text
  pub room : 2 ≤ length text
  pub first : get_or text 0 0 ≡ 47
  pub second : get_or text 1 0 ≡ 47

pub slashes_here : (text : List ℕ) → starts_with nat_eq text (codes "//") ≡ true → BeginsWithSlashes text
slashes_here [] e = absurd cc
slashes_here (a ∷ []) e = let both = and_parts (nat_eq 47 a) false e in absurd cc
slashes_here (a ∷ b ∷ bs) e =
    let both = and_parts (nat_eq 47 a) (nat_eq 47 b && true) e in
    let last = and_parts (nat_eq 47 b) true both.1 in
    record {
      before = ap (λ t. cond t [] (a ∷ before_slashes (b ∷ bs))) e;
      behind = ap (λ t. cond t bs (behind_slashes (b ∷ bs))) e;
      room = omega arith;
      first = sym (eqb-true 47 a both.0);
      second = sym (eqb-true 47 b last.0);
    }

-- another front
pub other_front : (text : List ℕ) (b : ℕ) (rest : List ℕ) → text ≡ b ∷ rest
    → starts_with nat_eq text (codes "//") ≡ false
    → (before_slashes text ≡ b ∷ before_slashes rest) × (behind_slashes text ≡ behind_slashes rest)
other_front [] b rest e n = absurd cc
other_front (c ∷ cs) b rest e n =
    let head : c ≡ b = cc in
    let tail : cs ≡ rest = cc in (
      ap (λ t. cond t [] (c ∷ before_slashes cs)) n ∙ ap (λ k. k ∷ before_slashes cs) head
          ∙ ap (λ l. b ∷ before_slashes l) tail,
      ap (λ t. cond t (drop 1 cs) (behind_slashes cs)) n ∙ ap behind_slashes tail,
    )

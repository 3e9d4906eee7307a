-- The halves that the bytes spell are those of the number.
use Rattle.std.proofs.Common.{◌≡◌, FitsSigned, ℕ, ℤ, ◌/◌, ◌%◌, ◌^◌, ◌<◌, List, arith, sym, ap, ◌∙◌}
use Rattle.std.proofs.Math.Facts.{to_z-of_z, Fits-of_z, Fits-lt-pow}
use Rattle.std.specs.Int.{w128, cast_unsigned}
use Rattle.book_codec.specs.Words.{wide}
use Rattle.book_codec.proofs.ItemLemmas.{same_pair}
use Rattle.book_codec.proofs.number.I128Field.read.Goals as goal

halves_fit :
    (z : ℤ) → FitsSigned w128 z
    → (cast_unsigned w128 z / 2 ^ 64 < 2 ^ 64) × (cast_unsigned w128 z % 2 ^ 64 < 2 ^ 64)
halves_fit z fit =
    let few : cast_unsigned w128 z < 2 ^ 128 = Fits-lt-pow (Fits-of_z fit) in
    (omega (arith, few), omega arith)

pub returns-in-Err-clause-again : goal.returns-in-Err-clause-again
unfolding wide
returns-in-Err-clause-again g c value rest fit is =
    c.in-Err.ensures.again (cast_unsigned w128 value / 2 ^ 64, cast_unsigned w128 value % 2 ^ 64) rest
    (halves_fit value fit) is

pub returns-clause-again : goal.returns-clause-again
unfolding wide
returns-clause-again g c value rest fit is =
    let same = c.in-Ok.ensures.again (cast_unsigned w128 value / 2 ^ 64, cast_unsigned w128 value % 2 ^ 64) rest
    (halves_fit value fit) is in
    let halves : c.in-Ok.found.0 ≡ (cast_unsigned w128 value / 2 ^ 64, cast_unsigned w128 value % 2 ^ 64) =
    ap (λ (p : (ℕ × ℕ) × List ℕ). p.0) same in
    same_pair _ _ _ _
    (to_z-of_z c.joined.ensures.fits ∙ c.joined.ensures.same value fit (sym (ap (λ (p : ℕ × ℕ). p.0) halves))
    (sym (ap (λ (p : ℕ × ℕ). p.1) halves)))
    (ap (λ (p : (ℕ × ℕ) × List ℕ). p.1) same)

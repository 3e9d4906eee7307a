-- Targets and their parameters.
use Rattle.std.proofs.Common.{◌≡◌, ◌≢◌, ℕ, zero, suc, ◌<◌, ◌==◌, Bool, true, false, not, ◌&&◌, List, [], ◌∷◌, ◌++◌}
use Rattle.std.proofs.Common.{length, get_or}
use Rattle.std.proofs.Common.{Option, None, Some, MatchOption, refl, sym, ap, ◌∙◌, subst, arith, Bor}
use Rattle.std.specs.List.{list_all}
use Rattle.std.proofs.lemmas.Bool.{eqb-false}
use Rattle.std.proofs.lemmas.Str.Pattern.{IsSplitOnceResult, split_after}
use Rattle.book_http.specs.Route.{is_parameter, is_parameter_byte}

pub both_true : (a b : Bool) → (a && b) ≡ true → (a ≡ true) × (b ≡ true)
both_true true b h = (refl, h)
both_true false b h = absurd (let e : false ≡ true = h in cc)

pub not_true : (a : Bool) → not a ≡ true → a ≡ false
not_true true h = absurd (let e : false ≡ true = h in cc)
not_true false h = refl

-- no byte is a slash
pub plain : (bytes : List ℕ) → list_all is_parameter_byte bytes ≡ true → (i : ℕ) → i < length bytes
    → get_or bytes i 0 ≢ 47
plain [] h i low = absurd (omega arith)
plain (byte ∷ more) h zero low =
    let parts = both_true (is_parameter_byte byte) (list_all is_parameter_byte more) h in
    let here = both_true (not (byte == 47)) (not (byte == 63)) parts.0 in
    eqb-false byte 47 (not_true (byte == 47) here.0)
plain (byte ∷ more) h (suc i) low =
    let parts = both_true (is_parameter_byte byte) (list_all is_parameter_byte more) h in
    plain more parts.1 i (omega arith)

-- the bytes of a parameter
pub parameter_bytes : (bytes : List ℕ) → is_parameter bytes ≡ true → list_all is_parameter_byte bytes ≡ true
parameter_bytes bytes h = (both_true (not (length bytes == 0)) (list_all is_parameter_byte bytes) h).1

-- a text without a slash is no two parameters
pub unsplit : (text : List ℕ) (r : Option (Bor (List ℕ) × Bor (List ℕ))) → IsSplitOnceResult 47 text r → r ≡ None
    → (first last : List ℕ) → text ≡ first ++ 47 ∷ last → is_parameter first ≡ true → ⊥
unsplit text r split none first last e p =
    let P : Option (Bor (List ℕ) × Bor (List ℕ)) → Type 0 = λ o.
    MatchOption o ⊥ (λ x. (x.0.now ≡ first) × (x.1.now ≡ last)) in
    subst P none (split_after 47 text first last r split (omega arith) e (plain first (parameter_bytes first p)))

-- two parameters are what stands around the first slash
pub split_is : (text : List ℕ) (r : Option (Bor (List ℕ) × Bor (List ℕ))) (x : Bor (List ℕ) × Bor (List ℕ))
    → IsSplitOnceResult 47 text r → r ≡ Some x
    → (first last : List ℕ) → text ≡ first ++ 47 ∷ last → is_parameter first ≡ true
    → (x.0.now ≡ first) × (x.1.now ≡ last)
split_is text r x split some first last e p =
    let P : Option (Bor (List ℕ) × Bor (List ℕ)) → Type 0 = λ o.
    MatchOption o ⊥ (λ x. (x.0.now ≡ first) × (x.1.now ≡ last)) in
    subst P some (split_after 47 text first last r split (omega arith) e (plain first (parameter_bytes first p)))

-- what is no parameter is not the same as one that is
pub unlike : (text parameter : List ℕ) → is_parameter text ≡ false → text ≡ parameter → is_parameter parameter ≡ true
    → ⊥
unlike text parameter bad same good = absurd (let e : false ≡ true = sym bad ∙ ap is_parameter same ∙ good in cc)

-- Statuses and their phrases.
use Rattle.std.proofs.Common.{◌≡◌, ℕ, ◌<◌, ◌≤◌, ◌==◌, Bool, true, false, ◌||◌, List, [], ◌∷◌, Option, Some, None, refl}
use Rattle.std.proofs.Common.{sym, subst}
use Rattle.std.proofs.Common.{arith, IsTrue, Bor}
use Rattle.std.specs.Prelude.{option_map, unwrap_or}
use Rattle.std.specs.List.{list_any}
use Rattle.std.proofs.lemmas.Bool.{eqb-true}
use Rattle.http.specs.StatusCode.{IsStatusCode}
use Rattle.book_http.specs.Response.{is_answered}

-- what a borrowed text or none is, with the text that stands for none
pub unwrapped : (found : Option (Bor (List ℕ))) (other : Bor (List ℕ))
    → (unwrap_or found other).now ≡ unwrap_or (option_map (λ text. text.now) found) other.now
unwrapped None other = refl
unwrapped (Some text) other = refl

Codes : List ℕ → Type 0
Codes [] = Unit {0}
Codes (known ∷ more) = IsStatusCode known × Codes more

-- one of these numbers
one_of : (status : ℕ) (known : List ℕ) → Codes known → list_any (λ other. status == other) known ≡ true
    → IsStatusCode status
unfolding Codes
one_of status [] codes h = absurd (let e : false ≡ true = h in cc)
one_of status (known ∷ more) codes h =
    let P : Bool → Type 0 = λ t. (status == known) ≡ t → (t || list_any (λ other. status == other) more) ≡ true
    → IsStatusCode status in
    (elim (status == known) as P [
      | true ↦ λ is _. subst IsStatusCode (sym (eqb-true status known is)) codes.0
      | false ↦ λ is found. one_of status more codes.1 found
    ]) refl h

code : (n : ℕ) → 100 ≤ n → n < 1000 → IsStatusCode n
code n low high = (low, high)

-- the status of an answer is a number of three digits
pub answered_code : (status : ℕ) → IsTrue (is_answered status) → IsStatusCode status
unfolding Codes
answered_code status h =
    one_of status (200 ∷ 400 ∷ 404 ∷ 405 ∷ 409 ∷ 411 ∷ 413 ∷ 431 ∷ 501 ∷ 503 ∷ 507 ∷ []) (
      code 200 (omega arith) (omega arith),
      (
        code 400 (omega arith) (omega arith),
        (
          code 404 (omega arith) (omega arith),
          (
            code 405 (omega arith) (omega arith),
            (
              code 409 (omega arith) (omega arith),
              (
                code 411 (omega arith) (omega arith),
                (
                  code 413 (omega arith) (omega arith),
                  (
                    code 431 (omega arith) (omega arith),
                    (
                      code 501 (omega arith) (omega arith),
                      (code 503 (omega arith) (omega arith), (code 507 (omega arith) (omega arith), tt)),
                    ),
                  ),
                ),
              ),
            ),
          ),
        ),
      ),
    ) h

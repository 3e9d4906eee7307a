-- Numerals, and what std reads them as.
use Rattle.std.proofs.Common.{◌≡◌, ℕ, ◌^◌, ◌<◌, nat_lt, Bool, true, false, not, ◌&&◌, ◌==◌, cond, List, [], ◌∷◌}
use Rattle.std.proofs.Common.{length, Some, None, Result, Ok, Err, refl, sym, ap, ◌∙◌, subst, arith}
use Rattle.std.specs.Char.{is_ascii_digit}
use Rattle.std.specs.List.{list_all}
use Rattle.std.specs.Str.{all_ascii_digits}
use Rattle.std.specs.Str.Parse.{ParsesUnsigned, digits_value}
use Rattle.std.proofs.lemmas.Bool.{eqb-false, ltb-true}
use Rattle.std.proofs.lemmas.Str.Parse.{IsNumeralModel, not_in_digits, numerals_by_value, parse_gives}
use Rattle.std.proofs.lemmas.Str.Parse.{tells_all_ascii_digits, without_leading_plus_none}
use Rattle.book_numerals.specs.Numerals.{has_digits, has_no_leading_zero, is_numeral, number_of}

all_digits : (word : List ℕ) → list_all is_ascii_digit word ≡ all_ascii_digits word
all_digits [] = refl
all_digits (byte ∷ more) = ap (λ b. is_ascii_digit byte && b) (all_digits more)

model : IsNumeralModel (λ ds. all_ascii_digits ds ≡ true) (digits_value 10)
model = numerals_by_value (λ ds. all_ascii_digits ds ≡ true) tells_all_ascii_digits

both_true : (a b : Bool) → (a && b) ≡ true → (a ≡ true) × (b ≡ true)
both_true true b h = (refl, h)
both_true false b h = absurd (let e : false ≡ true = h in cc)

not_true : (a : Bool) → not a ≡ true → a ≡ false
not_true true h = absurd (let e : false ≡ true = h in cc)
not_true false h = refl

some_length : (n : ℕ) → (n ≡ 0 → ⊥) → 0 < n
some_length n h = omega arith

-- a numeral is not empty and has digits alone
numeral_digits : (word : List ℕ) → is_numeral word ≡ true → (all_ascii_digits word ≡ true) × (0 < length word)
numeral_digits word h =
    let some = not (length word == 0) in
    let digits = list_all is_ascii_digit word in
    let front = both_true (has_digits word) (has_no_leading_zero word) h in
    let parts = both_true some digits front.0 in (
      sym (all_digits word) ∙ parts.1,
      some_length (length word) (eqb-false (length word) 0 (not_true (length word == 0) parts.0)),
    )

-- what std reads from a numeral, where it reads a number
pub number_read :
    {E : Type 0} (word : List ℕ) (number : ℕ) (result : Result ℕ E) → is_numeral word ≡ true
    → ParsesUnsigned 64 10 word result → result ≡ Ok number
    → cond (nat_lt number (2 ^ 62)) (Some number) None ≡ number_of word
number_read word number result numeral parses is =
    let digits = numeral_digits word numeral in
    let no_plus = without_leading_plus_none word (not_in_digits model word 43 digits.0 (λ h. omega arith) 0 digits.1) in
    let read = subst (λ r. ParsesUnsigned 64 10 word r) is parses in
    let value : number ≡ digits_value 10 word = read.1 ∙ ap (digits_value 10) no_plus in
    ap (λ n. cond (nat_lt n (2 ^ 62)) (Some n) None) value
    ∙ ap (λ b. cond (b && nat_lt (digits_value 10 word) (2 ^ 62)) (Some (digits_value 10 word)) None) (sym numeral)

-- where std reads no number, the numeral is that of one which is too large
pub number_unread :
    {E : Type 0} (word : List ℕ) (result : Result ℕ E) (error : E) → is_numeral word ≡ true
    → ParsesUnsigned 64 10 word result → result ≡ Err error → None ≡ number_of word
number_unread word result error numeral parses is =
    let digits = numeral_digits word numeral in
    let value = digits_value 10 word in
    let P : Bool → Type 0 = λ t. nat_lt value (2 ^ 62) ≡ t → None ≡ cond (true && t) (Some value) None in
    (elim (nat_lt value (2 ^ 62)) as P [
      | true ↦ λ e.
          let low : value < 2 ^ 62 = ltb-true value (2 ^ 62) e in
          let read : result ≡ Ok value = parse_gives model 64 word result parses digits.0 digits.1 (omega (arith, low)) in
          absurd cc
      | false ↦ λ e. refl
    ]) refl
    ∙ ap (λ b. cond (b && nat_lt value (2 ^ 62)) (Some value) None) (sym numeral)

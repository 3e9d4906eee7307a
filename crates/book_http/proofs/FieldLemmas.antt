-- What fields say, one field after another.
use Rattle.std.proofs.Common.{◌≡◌, ℕ, ◌^◌, ◌<◌, ◌≤◌, ◌==◌, nat_le, Bool, true, false, not, ◌&&◌, ◌||◌, cond, List, []}
use Rattle.std.proofs.Common.{◌∷◌, ◌++◌}
use Rattle.std.proofs.Common.{length, refl, sym, ap, ◌∙◌, arith, append-nil, Result, Ok, codes}
use Rattle.std.specs.Char.{is_ascii_digit}
use Rattle.std.specs.List.{list_any, list_all}
use Rattle.std.specs.Str.{IsUtf8, IsAscii, all_ascii_digits}
use Rattle.std.specs.Str.Parse.{ParsesUnsigned, digits_value}
use Rattle.std.proofs.lemmas.List.Folds.{list_any-append}
use Rattle.std.proofs.lemmas.Bool.{eqb-false, leb-true}
use Rattle.std.proofs.lemmas.Bool.Decides.{nat_tests}
use Rattle.std.proofs.lemmas.Str.{IsUtf8-from_ascii}
use Rattle.std.proofs.lemmas.Str.Ascii.{IsAscii-nil, IsAscii-cons}
use Rattle.std.proofs.lemmas.Str.Parse.{IsNumeralModel, numerals_by_value, parse_gives, tells_all_ascii_digits}
use Rattle.std.proofs.lemmas.Str.Parse.{digits_value_short}
use Rattle.book_http.specs.declared.fields.BodyLength.TheVariants.{Given, Broken}
use Rattle.book_http.specs.Fields.{same_word, values, is_length, body_length, besides, is_close, said}

-- one more value
body_length-push : (seen : List (List ℕ)) (value : List ℕ)
    → body_length (seen ++ value ∷ []) ≡ besides (body_length seen) value
body_length-push [] value = refl
body_length-push (one ∷ []) value =
    elim (is_length one) as (λ t. Broken ≡ besides (cond t (Given (digits_value 10 one)) Broken) value)
    [ true ↦ refl | false ↦ refl ]
body_length-push (one ∷ two ∷ more) value = refl

-- the value of one more field
values-push : (name : List ℕ) (seen : List (List ℕ × List ℕ)) (field : List ℕ × List ℕ)
    → values name (seen ++ field ∷ []) ≡ values name seen ++ cond (same_word field.0 name) (field.1 ∷ []) []
values-push name [] field = refl
values-push name (one ∷ more) field =
    let last = cond (same_word field.0 name) (field.1 ∷ []) [] in
    elim (same_word one.0 name) as
    (λ t. cond t (one.1 ∷ values name (more ++ field ∷ [])) (values name (more ++ field ∷ []))
    ≡ cond t (one.1 ∷ values name more) (values name more) ++ last) [
      | true ↦ ap (λ l. one.1 ∷ l) (values-push name more field)
      | false ↦ values-push name more field
    ]

-- the length after one more field
length-push : (name : List ℕ) (seen : List (List ℕ × List ℕ)) (field : List ℕ × List ℕ)
    → body_length (values name (seen ++ field ∷ []))
    ≡ cond (same_word field.0 name) (besides (body_length (values name seen)) field.1) (body_length (values name seen))
length-push name seen field =
    ap body_length (values-push name seen field)
    ∙ elim (same_word field.0 name) as
    (λ t. body_length (values name seen ++ cond t (field.1 ∷ []) [])
    ≡ cond t (besides (body_length (values name seen)) field.1) (body_length (values name seen))) [
      | true ↦ body_length-push (values name seen) field.1
      | false ↦ ap body_length (append-nil (values name seen))
    ]

or_false : (b : Bool) → (b || false) ≡ b
or_false true = refl
or_false false = refl

any-push : (p : (List ℕ × List ℕ) → Bool) (seen : List (List ℕ × List ℕ)) (field : List ℕ × List ℕ)
    → list_any p (seen ++ field ∷ []) ≡ (list_any p seen || p field)
any-push p seen field = list_any-append p seen (field ∷ []) ∙ ap (λ t. list_any p seen || t) (or_false (p field))

-- what fields and one more say
pub said-push : (seen : List (List ℕ × List ℕ)) (name value : List ℕ)
    → said (seen ++ (name, value) ∷ []) ≡ record {
      encoded = (said seen).encoded || same_word name (codes "transfer-encoding");
      length = cond (same_word name (codes "content-length")) (besides (said seen).length value) (said seen).length;
      close = (said seen).close || is_close name value;
    }
said-push seen name value =
    let field : List ℕ × List ℕ = (name, value) in λ i. record {
      encoded = any-push (λ one. same_word one.0 (codes "transfer-encoding")) seen field i;
      length = length-push (codes "content-length") seen field i;
      close = any-push (λ one. is_close one.0 one.1) seen field i;
    }

both_true : (a b : Bool) → (a && b) ≡ true → (a ≡ true) × (b ≡ true)
both_true true b h = (refl, h)
both_true false b h = absurd (let e : false ≡ true = h in cc)

not_true : (a : Bool) → not a ≡ true → a ≡ false
not_true true h = absurd (let e : false ≡ true = h in cc)
not_true false h = refl

some_length : (n : ℕ) → (n ≡ 0 → ⊥) → 0 < n
some_length n h = omega arith

all_digits : (value : List ℕ) → list_all is_ascii_digit value ≡ all_ascii_digits value
all_digits [] = refl
all_digits (byte ∷ more) = ap (λ b. is_ascii_digit byte && b) (all_digits more)

digit_ascii : (byte : ℕ) → is_ascii_digit byte ≡ true → byte < 128
digit_ascii byte h = grind (arith, nat_tests)

-- digits are ASCII
digits_ascii : (value : List ℕ) → list_all is_ascii_digit value ≡ true → IsAscii value
digits_ascii [] h = IsAscii-nil
digits_ascii (byte ∷ more) h =
    let parts = both_true (is_ascii_digit byte) (list_all is_ascii_digit more) h in
    IsAscii-cons byte more (digit_ascii byte parts.0) (digits_ascii more parts.1)

-- what a length is
pub record IsLength (value : List ℕ) : Type 0 where
  pub some : 0 < length value
  pub short : length value ≤ 18
  pub digits : list_all is_ascii_digit value ≡ true

length_parts : (value : List ℕ) → is_length value ≡ true → IsLength value
length_parts value h =
    let first = both_true (not (length value == 0)) (nat_le (length value) 18 && list_all is_ascii_digit value) h in
    let last = both_true (nat_le (length value) 18) (list_all is_ascii_digit value) first.1 in record {
      some = some_length (length value) (eqb-false (length value) 0 (not_true (length value == 0) first.0));
      short = leb-true (length value) 18 last.0;
      digits = last.1;
    }

-- a length is a text
pub length_text : (value : List ℕ) → is_length value ≡ true → IsUtf8 value
length_text value h = IsUtf8-from_ascii value (digits_ascii value (length_parts value h).digits)

model : IsNumeralModel (λ ds. all_ascii_digits ds ≡ true) (digits_value 10)
model = numerals_by_value (λ ds. all_ascii_digits ds ≡ true) tells_all_ascii_digits

-- std reads a length as its number
pub length_read : {E : Type 0} (value : List ℕ) (result : Result ℕ E) → is_length value ≡ true
    → ParsesUnsigned 64 10 value result → result ≡ Ok (digits_value 10 value)
length_read value result h parses =
    let parts = length_parts value h in
    let some = parts.some in
    let digits = sym (all_digits value) ∙ parts.digits in
    let small : digits_value 10 value < 10 ^ 18 = digits_value_short model value 18 digits parts.short in
    parse_gives model 64 value result parses digits some (omega arith)

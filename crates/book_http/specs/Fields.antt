-- What the fields of a head say: of the body's encoding and length, and of the link.
use Rattle.std.specs.Prelude.{ℕ, ◌==◌, nat_le, Bool, not, ◌&&◌, List, [], ◌∷◌, length, map}
use Rattle.std.specs.Prelude.{if◌then◌else◌, codes}
use Rattle.std.specs.Char.{to_ascii_lowercase, is_ascii_digit}
use Rattle.std.specs.List.{list_all, list_any}
use Rattle.std.specs.Str.{bytes_eq}
use Rattle.std.specs.Str.Parse.{digits_value}
use Rattle.book_http.specs.declared.fields.BodyLength.{BodyLength}
use Rattle.book_http.specs.declared.fields.BodyLength.TheVariants.{Absent, Given, Broken}
use Rattle.book_http.specs.declared.fields.Fields.{Fields}

-- Two words are the same but for the case of A to Z.
abbrev pub same_word : List ℕ → List ℕ → Bool
same_word one other = bytes_eq (map to_ascii_lowercase one) (map to_ascii_lowercase other)

-- The values of the fields of this name. A field is its name and its value.
abbrev pub values : List ℕ → List (List ℕ × List ℕ) → List (List ℕ)
values name [] = []
values name (field ∷ more) =
    if same_word field.0 name then field.1 ∷ values name more else values name more

-- A field of this name stands.
abbrev pub stands : List ℕ → List (List ℕ × List ℕ) → Bool
stands name fields = list_any (λ field. same_word field.0 name) fields

-- A length is written with 1 to 18 digits.
abbrev pub is_length : List ℕ → Bool
is_length value = not (length value == 0) && (nat_le (length value) 18 && list_all is_ascii_digit value)

-- The length that one value gives.
abbrev pub one_length : List ℕ → BodyLength
one_length value = if is_length value then Given (digits_value 10 value) else Broken

-- The length of the body by the values that stand for it: none, one, or more than one.
abbrev pub body_length : List (List ℕ) → BodyLength
body_length [] = Absent
body_length (value ∷ []) = one_length value
body_length (value ∷ other ∷ more) = Broken

-- The length where this value stands besides those that gave it.
abbrev pub besides : BodyLength → List ℕ → BodyLength
besides Absent value = one_length value
besides (Given size) value = Broken
besides Broken value = Broken

-- A field asks that the link be closed: its name is Connection, and its whole value is the word close.
abbrev pub is_close : List ℕ → List ℕ → Bool
is_close name value = same_word name (codes "connection") && same_word value (codes "close")

-- What the fields say.
abbrev pub said : List (List ℕ × List ℕ) → Fields
said fields = record {
  encoded = stands (codes "transfer-encoding") fields;
  length = body_length (values (codes "content-length") fields);
  close = list_any (λ field. is_close field.0 field.1) fields;
}

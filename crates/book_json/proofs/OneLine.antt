-- The text of data is one line: it has no line feed.
use Rattle.std.proofs.Common.{◌+◌, ◌++◌, ◌/◌, ◌%◌, ◌<◌, ◌==◌, ◌≡◌, ◌∷◌, Bool, List, [], arith, cond, false, inl}
use Rattle.std.proofs.Common.{inr, nat_lt, refl, true, ℕ}
use Rattle.std.proofs.lemmas.Bool.Decides.{eqb_tells, nat_tests}
use Rattle.std.specs.Char.{digit_char}
use Rattle.json.specs.Print.{escape_letter, escape_byte, escape, quoted}
use Rattle.serde_json.specs.Data.{Num, unsigned, negative, float, Data, null, boolean, number, string, array}
use Rattle.serde_json.specs.Data.{object, Items, no_items, item, Members, no_members, member}
use Rattle.serde_json.specs.Written.{number_text, comma_if, compact_text, items_text, members_text}
use Rattle.book_commodity.specs.OneLine.{no_feed, is_one_line}
use Rattle.book_commodity.proofs.OneLine.{above-no_feed, both, append-one_line, decimal-one_line}
use Rattle.book_commodity.proofs.OneLine.{signed_decimal-one_line}

number-one_line : (n : Num) → is_one_line (number_text n) ≡ true
number-one_line (unsigned n) = decimal-one_line n
number-one_line (negative z) = signed_decimal-one_line z
number-one_line (float x) = refl

short-no_feed : (back form feed carriage tab : Bool)
    → no_feed (cond back 98 (cond form 102 (cond feed 110 (cond carriage 114 (cond tab 116 0))))) ≡ true
short-no_feed true _ _ _ _ = refl
short-no_feed false true _ _ _ = refl
short-no_feed false false true _ _ = refl
short-no_feed false false false true _ = refl
short-no_feed false false false false true = refl
short-no_feed false false false false false = refl

letter-no_feed : (x : ℕ) → no_feed (escape_letter x) ≡ true
letter-no_feed x = elim (eqb_tells x 34) [
  | inl t ↦ rw t.1 refl
  | inr f ↦ elim (eqb_tells x 92) [
    | inl t ↦ rw t.1 refl
    | inr g ↦ rw (f.0, g.0)
        (short-no_feed (x == 8) (x == 12) (x == 10) (x == 13) (x == 9))
  ]
]

digit_char-above : (digit : ℕ) → 10 < digit_char digit
digit_char-above digit = elim (nat_lt digit 10) as (λ t. 10 < cond t (48 + digit) (87 + digit))
    [ true ↦ omega arith | false ↦ omega arith ]

hex-one_line : (high low : ℕ) → is_one_line (92 ∷ 117 ∷ 48 ∷ 48 ∷ digit_char high ∷ digit_char low ∷ []) ≡ true
hex-one_line high low =
    both (no_feed (digit_char high)) (is_one_line (digit_char low ∷ []))
    (above-no_feed (digit_char high) (digit_char-above high))
    (both (no_feed (digit_char low)) true (above-no_feed (digit_char low) (digit_char-above low)) refl)

itself-one_line : (x : ℕ) (low : Bool) → nat_lt x 32 ≡ low
    → is_one_line (cond low (92 ∷ 117 ∷ 48 ∷ 48 ∷ digit_char (x / 16) ∷ digit_char (x % 16) ∷ []) (x ∷ [])) ≡ true
itself-one_line x true e = hex-one_line (x / 16) (x % 16)
itself-one_line x false e = let high : 10 < x = grind (arith, nat_tests) in both (no_feed x) true
    (above-no_feed x high) refl

pub escape_byte-one_line : (x : ℕ) → is_one_line (escape_byte x) ≡ true
unfolding escape_byte
escape_byte-one_line x =
    elim (nat_lt 0 (escape_letter x)) as
    (λ t. is_one_line (cond t (92 ∷ escape_letter x ∷ [])
    (cond (nat_lt x 32) (92 ∷ 117 ∷ 48 ∷ 48 ∷ digit_char (x / 16) ∷ digit_char (x % 16) ∷ []) (x ∷ []))) ≡ true) [
      | true ↦ both (no_feed (escape_letter x)) true (letter-no_feed x) refl
      | false ↦ itself-one_line x
          (nat_lt x 32) refl
    ]

escape-one_line : (text : List ℕ) → is_one_line (escape text) ≡ true
escape-one_line [] = refl
escape-one_line (x ∷ xs) = append-one_line (escape_byte x) (escape xs) (escape_byte-one_line x) (escape-one_line xs)

quoted-one_line : (text : List ℕ) → is_one_line (quoted text) ≡ true
quoted-one_line text = append-one_line (escape text) (34 ∷ []) (escape-one_line text) refl

comma-one_line : (later : Bool) → is_one_line (comma_if later) ≡ true
comma-one_line true = refl
comma-one_line false = refl

-- The text of data has no line feed, whatever its strings hold.
mutual
  pub compact_text-one_line : (d : Data) → is_one_line (compact_text d) ≡ true
  compact_text-one_line null = refl
  compact_text-one_line (boolean true) = refl
  compact_text-one_line (boolean false) = refl
  compact_text-one_line (number n) = number-one_line n
  compact_text-one_line (string s) = quoted-one_line s
  compact_text-one_line (array ds) = items_text-one_line ds false
  compact_text-one_line (object ms) = members_text-one_line ms false

  pub items_text-one_line : (ds : Items) (later : Bool) → is_one_line (items_text later ds) ≡ true
  items_text-one_line no_items later = refl
  items_text-one_line (item d ds) later =
      append-one_line (comma_if later) (compact_text d ++ items_text true ds) (comma-one_line later)
      (append-one_line (compact_text d) (items_text true ds) (compact_text-one_line d) (items_text-one_line ds true))

  pub members_text-one_line : (ms : Members) (later : Bool) → is_one_line (members_text later ms) ≡ true
  members_text-one_line no_members later = refl
  members_text-one_line (member k d ms) later =
      append-one_line (comma_if later) (quoted k ++ 58 ∷ (compact_text d ++ members_text true ms))
      (comma-one_line later)
      (append-one_line (quoted k) (58 ∷ (compact_text d ++ members_text true ms)) (quoted-one_line k)
      (append-one_line (compact_text d) (members_text true ms) (compact_text-one_line d)
      (members_text-one_line ms true)))

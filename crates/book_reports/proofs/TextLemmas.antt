-- Texts in UTF-8: as they are printed on one line, and as fields of comma-separated values.
use Rattle.std.proofs.Common.{◌≡◌, ℕ, ◌≤◌, ◌<◌, ◌==◌, ◌/◌, Bool, true, false, nat_lt, cond, if◌then◌else◌, List, [], ◌∷◌}
use Rattle.std.proofs.Common.{◌++◌, map, encode_utf8, encode_utf8_all, IsUtf8, refl, sym, ap, subst, ◌∙◌, arith}
use Rattle.std.proofs.Common.{All, inl, inr, ◌⊎◌, ℤ, ◌+◌, length, take, get_or, append_assoc}
use Rattle.std.specs.Prelude.{⊤}
use Rattle.std.proofs.lemmas.List.{take_more}
use Rattle.std.proofs.lemmas.Bool.{and_parts}
use Rattle.std.proofs.lemmas.Bool.Decides.{nat_tests}
use Rattle.std.proofs.lemmas.Str.{IsUtf8-append, IsUtf8-encode, IsUtf8-nil, encode_ascii as one}
use Rattle.std.proofs.lemmas.List.Elements.{All-get_or, All-head, All-tail}
use Rattle.book_commodity.specs.Day.{IsDay, IsDayByte, day_text}
use Rattle.book_commodity.proofs.DayTextLemmas.{day_text_bytes}
use Rattle.csv.specs.Writing.{by_style, default_writer, escaped, field_text, fields_text, is_blank, needs_quotes, quoted}
use Rattle.csv.specs.Writing.{row_body}
use lib.Utf8.{encode, next, scalar, scalars}
use Rattle.book_reports.specs.Layout.{printed, record_text}

-- each byte is one of a character past ASCII
abbrev pub AreHigh : List ℕ → Type 0
AreHigh [] = ⊤
AreHigh (byte ∷ more) = (128 ≤ byte) × AreHigh more

-- one number is below another, or not
order : (m n : ℕ) → (m < n) ⊎ (n ≤ m)
order m n = by (nat_lt m n) refl
  where
    by : (t : Bool) → nat_lt m n ≡ t → (m < n) ⊎ (n ≤ m)
    by true is = inl (grind (arith, nat_tests, is))
    by false is = inr (grind (arith, nat_tests, is))

-- the bytes of a character past ASCII
pub high_bytes : (c : ℕ) → 128 ≤ c → AreHigh (encode c)
unfolding encode
high_bytes c high =
    let past : nat_lt c 128 ≡ false = grind (arith, nat_tests, high) in
    let two = (192 + c / 64) ∷ next c ∷ [] in
    let three = (224 + c / 4096) ∷ next (c / 64) ∷ next c ∷ [] in
    let four = (240 + c / 262144) ∷ next (c / 4096) ∷ next (c / 64) ∷ next c ∷ [] in
    subst (λ (t : Bool). AreHigh (cond t (c ∷ []) (cond (nat_lt c 2048) two (cond (nat_lt c 65536) three four))))
    (sym past)
    (elim (nat_lt c 2048) as (λ b. AreHigh (cond b two (cond (nat_lt c 65536) three four))) [
      | true ↦ (omega arith, (omega arith, tt))
      | false ↦ elim (nat_lt c 65536) as (λ b. AreHigh (cond b three four)) [
        | true ↦ (omega arith, (omega arith, (omega arith, tt)))
        | false ↦ (omega arith, (omega arith, (omega arith, (omega arith, tt))))
      ]
    ])

-- ---- printed

abbrev pub printed_byte : ℕ → ℕ
printed_byte byte = if nat_lt byte 32 then 32 else byte

pub printed-append : (xs ys : List ℕ) → printed (xs ++ ys) ≡ printed xs ++ printed ys
unfolding printed
printed-append [] ys = refl
printed-append (x ∷ xs) ys = ap (λ l. printed_byte x ∷ l) (printed-append xs ys)

printed_high : (bytes : List ℕ) → AreHigh bytes → printed bytes ≡ bytes
unfolding printed
printed_high [] high = refl
printed_high (byte ∷ more) high =
    let large : nat_lt byte 32 ≡ false = grind (arith, nat_tests, high.0) in
    ap (λ (t : Bool). (if t then 32 else byte) ∷ printed more) large
    ∙ ap (λ l. byte ∷ l) (printed_high more high.1)

-- a control character is printed as a space, and each other as itself
pub printed_char : (c : ℕ) → printed (encode_utf8 c) ≡ encode_utf8 (if nat_lt c 32 then 32 else c)
unfolding printed
printed_char c = by (order c 32) (order c 128)
  where
    single : (d : ℕ) → d < 128 → printed (encode_utf8 d) ≡ printed_byte d ∷ []
    single d small = ap (map printed_byte) (one d small)

    by :
        (c < 32) ⊎ (32 ≤ c) → (c < 128) ⊎ (128 ≤ c)
        → printed (encode_utf8 c) ≡ encode_utf8 (if nat_lt c 32 then 32 else c)
    by (inl small) more =
        let control : nat_lt c 32 ≡ true = grind (arith, nat_tests, small) in
        single c (omega arith) ∙ ap (λ (t : Bool). (if t then 32 else c) ∷ []) control ∙ sym (one 32 (omega arith))
        ∙ ap (λ (t : Bool). encode_utf8 (if t then 32 else c)) (sym control)
    by (inr large) (inl small) =
        let plain : nat_lt c 32 ≡ false = grind (arith, nat_tests, large) in
        single c small ∙ ap (λ (t : Bool). (if t then 32 else c) ∷ []) plain ∙ sym (one c small)
        ∙ ap (λ (t : Bool). encode_utf8 (if t then 32 else c)) (sym plain)
    by (inr large) (inr high) =
        let plain : nat_lt c 32 ≡ false = grind (arith, nat_tests, large) in
        printed_high (encode_utf8 c) (high_bytes c high)
        ∙ ap (λ (t : Bool). encode_utf8 (if t then 32 else c)) (sym plain)

-- the printed text of nothing
pub printed_none : (bytes : List ℕ) → 0 ≡ length bytes → printed bytes ≡ []
unfolding printed
printed_none [] none = refl
printed_none (byte ∷ more) none = absurd (omega (arith, none))

-- the printed text of a character and those behind it
pub printed_step :
    (c : ℕ) (bytes rest : List ℕ) → bytes ≡ encode_utf8 c ++ rest
    → printed bytes ≡ encode_utf8 (if nat_lt c 32 then 32 else c) ++ printed rest
printed_step c bytes rest is =
    ap printed is ∙ printed-append (encode_utf8 c) rest ∙ ap (λ l. l ++ printed rest) (printed_char c)

-- ---- comma-separated values

escaped-append :
    (xs ys : List ℕ) → escaped default_writer (xs ++ ys) ≡ escaped default_writer xs ++ escaped default_writer ys
unfolding escaped
escaped-append [] ys = refl
escaped-append (x ∷ xs) ys = here (x == 34) (escaped-append xs ys)
  where
    here :
        (t : Bool)
        → escaped default_writer (xs ++ ys) ≡ escaped default_writer xs ++ escaped default_writer ys
        → (if t then 34 ∷ x ∷ escaped default_writer (xs ++ ys) else x ∷ escaped default_writer (xs ++ ys))
        ≡ (if t then 34 ∷ x ∷ escaped default_writer xs else x ∷ escaped default_writer xs)
        ++ escaped default_writer ys
    here true same = ap (λ l. 34 ∷ x ∷ l) same
    here false same = ap (λ l. x ∷ l) same

escaped_high : (bytes : List ℕ) → AreHigh bytes → escaped default_writer bytes ≡ bytes
unfolding escaped
escaped_high [] high = refl
escaped_high (byte ∷ more) high =
    let other : (byte == 34) ≡ false = grind (arith, nat_tests, high.0) in
    ap (λ (t : Bool). if t then 34 ∷ byte ∷ escaped default_writer more else byte ∷ escaped default_writer more) other
    ∙ ap (λ l. byte ∷ l) (escaped_high more high.1)

-- a text of one character
plain_byte : (c : ℕ) → c < 128 → scalar c ≡ true → IsUtf8 (c ∷ [])
plain_byte c small is = subst IsUtf8 (one c small) (IsUtf8-encode c is)

quote_text : IsUtf8 (34 ∷ [])
quote_text = plain_byte 34 (omega arith) refl

comma_text : IsUtf8 (44 ∷ [])
comma_text = plain_byte 44 (omega arith) refl

feed_text : IsUtf8 (10 ∷ [])
feed_text = plain_byte 10 (omega arith) refl

escaped_char : (c : ℕ) → scalar c ≡ true → IsUtf8 (escaped default_writer (encode_utf8 c))
unfolding escaped
escaped_char c is = by (order c 128)
  where
    byte : c < 128 → (t : Bool) → IsUtf8 (if t then 34 ∷ c ∷ [] else c ∷ [])
    byte small true = IsUtf8-append (34 ∷ []) (c ∷ []) quote_text (plain_byte c small is)
    byte small false = plain_byte c small is

    by : (c < 128) ⊎ (128 ≤ c) → IsUtf8 (escaped default_writer (encode_utf8 c))
    by (inl small) = subst (λ l. IsUtf8 (escaped default_writer l)) (sym (one c small)) (byte small (c == 34))
    by (inr high) = subst IsUtf8 (sym (escaped_high (encode_utf8 c) (high_bytes c high))) (IsUtf8-encode c is)

escaped_text : (bytes : List ℕ) → IsUtf8 bytes → IsUtf8 (escaped default_writer bytes)
unfolding escaped
escaped_text bytes u = subst (λ l. IsUtf8 (escaped default_writer l)) u.1.1 (by u.0 u.1.0)
  where
    by : (cs : List ℕ) → scalars cs ≡ true → IsUtf8 (escaped default_writer (encode_utf8_all cs))
    by [] is = IsUtf8-nil
    by (c ∷ cs) is =
        let parts = and_parts (scalar c) (scalars cs) is in
        subst IsUtf8 (sym (escaped-append (encode_utf8 c) (encode_utf8_all cs)))
        (IsUtf8-append (escaped default_writer (encode_utf8 c)) (escaped default_writer (encode_utf8_all cs))
        (escaped_char c parts.0) (by cs parts.1))

field_is_text : (field : List ℕ) → IsUtf8 field → IsUtf8 (field_text default_writer field)
field_is_text field u =
    elim (by_style default_writer.style (needs_quotes default_writer field)) as
    (λ b. IsUtf8 (if b then quoted default_writer field else field)) [
      | true ↦ IsUtf8-append (34 ∷ []) (escaped default_writer field ++ 34 ∷ []) quote_text
          (IsUtf8-append (escaped default_writer field) (34 ∷ []) (escaped_text field u) quote_text)
      | false ↦ u
    ]

fields_are_text : (fields : List (List ℕ)) → All IsUtf8 fields → IsUtf8 (fields_text default_writer fields)
unfolding fields_text
fields_are_text [] all = IsUtf8-nil
fields_are_text (field ∷ more) all =
    IsUtf8-append (44 ∷ []) (field_text default_writer field ++ fields_text default_writer more) comma_text
    (IsUtf8-append (field_text default_writer field) (fields_text default_writer more)
    (field_is_text field (All-head IsUtf8 field more all)) (fields_are_text more (All-tail IsUtf8 field more all)))

body_is_text : (fields : List (List ℕ)) → All IsUtf8 fields → IsUtf8 (row_body default_writer fields)
body_is_text [] all = IsUtf8-nil
body_is_text (field ∷ more) all =
    IsUtf8-append (field_text default_writer field) (fields_text default_writer more)
    (field_is_text field (All-head IsUtf8 field more all)) (fields_are_text more (All-tail IsUtf8 field more all))

-- a record of fields that are texts is a text
pub record_is_text : (fields : List (List ℕ)) → All IsUtf8 fields → IsUtf8 (record_text fields)
unfolding record_text
record_is_text fields all =
    IsUtf8-append (row_body default_writer fields) _ (body_is_text fields all) (by (is_blank default_writer fields))
  where
    by : (t : Bool) → IsUtf8 ((if t then 34 ∷ 34 ∷ [] else []) ++ 10 ∷ [])
    by true = IsUtf8-append (34 ∷ []) (34 ∷ 10 ∷ []) quote_text (IsUtf8-append (34 ∷ []) (10 ∷ []) quote_text feed_text)
    by false = feed_text

-- ---- days

byte_low : (byte : ℕ) → IsDayByte byte → byte < 128
byte_low byte (inl digit) = omega (arith, digit.1)
byte_low byte (inr hyphen) = omega (arith, hyphen)

-- the bytes of a day's text are added one after another
pub day_push :
    (day : ℤ) → IsDay day → (bytes : List ℕ) → bytes ≡ day_text day → (i : ℕ) (start before after : List ℕ)
    → i < length bytes → before ≡ start ++ take i bytes → after ≡ before ++ encode_utf8 (get_or bytes i 0)
    → after ≡ start ++ take (i + 1) bytes
day_push day is bytes same i start before after lt b a =
    let bytes_of_day = subst (λ (l : List ℕ). All IsDayByte l) (sym same) (day_text_bytes day is) in
    let low = byte_low (get_or bytes i 0) (All-get_or IsDayByte bytes i 0 lt bytes_of_day) in
    a ∙ ap (λ l. l ++ encode_utf8 (get_or bytes i 0)) b
    ∙ ap (λ l. (start ++ take i bytes) ++ l) (one (get_or bytes i 0) low)
    ∙ append_assoc start (take i bytes) (get_or bytes i 0 ∷ [])
    ∙ ap (λ l. start ++ l) (sym (take_more bytes i 0 lt))

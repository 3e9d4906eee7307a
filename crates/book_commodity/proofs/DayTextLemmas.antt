-- A text spells one date at most, and the text of a day that of the day alone.
use Rattle.std.proofs.Common.{Option, Some, None, ◌≡◌, ℕ, ◌+◌, ◌*◌, ◌/◌, ◌%◌, ◌<◌, inl, inr, true, false, List, [], ◌∷◌}
use Rattle.std.proofs.Common.{◌++◌, get_or, length, refl, sym, ap, ◌∙◌, subst, arith, ℤ, pos, unsigned_abs, to_z, of_z}
use Rattle.std.proofs.Common.{w32}
use Rattle.std.specs.Prelude.{◌↔◌, IsSome, IfSome, IfNone}
use Rattle.std.specs.List.{All}
use Rattle.std.proofs.lemmas.List.Elements.{All-cons}
use Rattle.std.proofs.lemmas.Slice.Eq.{text_from_reads}
use Rattle.std.proofs.lemmas.Int.{ints}
use Rattle.jiff_core.specs.Calendar.{days_from_civil, IsBetween}
use Rattle.jiff_core.proofs.SignedLemmas.{signed_arith}
use Rattle.jiff_core.proofs.CalendarLemmas.{days_in_month_bounds}
use Rattle.book_commodity.specs.Day.{IsDay, IsBookDate, year_of, month_of, day_of_month, day_text, date_text}
use Rattle.book_commodity.specs.Day.{two_digits, IsSpelled, IsDayByte}
use Rattle.book_commodity.proofs.DayLemmas.{year_of_day, date_of_day, date_is, pos-unsigned_abs, book_date_is_day}

pair_is : (a b c d : ℕ) → a ∷ b ∷ [] ≡ c ∷ d ∷ [] → (a ≡ c) × (b ≡ d)
pair_is a b c d e = (cc, cc)

-- two numbers below 100 with the same digits are equal
pub two_digits_injective : (m n : ℕ) → two_digits m ≡ two_digits n → m ≡ n
two_digits_injective m n e =
    let p = pair_is (48 + m / 10) (48 + m % 10) (48 + n / 10) (48 + n % 10) e in omega (arith, p.0, p.1)

-- ten bytes that are read as digits and hyphens spell the date of these digits
pub spelled :
    (text : List ℕ) (century year month day : ℕ) → length text ≡ 10 → century < 100 → get_or text 0 0
    ∷ get_or text 1 0 ∷ [] ≡ two_digits century → year < 100 → get_or text 2 0 ∷ get_or text 3 0
    ∷ [] ≡ two_digits year → get_or text 4 0 ≡ 45 → month < 100 → get_or text 5 0 ∷ get_or text 6 0
    ∷ [] ≡ two_digits month → get_or text 7 0 ≡ 45 → day < 100 → get_or text 8 0 ∷ get_or text 9 0
    ∷ [] ≡ two_digits day → IsSpelled text (century * 100 + year, month, day)
spelled text century year month day long c_low c y_low y first m_low m second d_low d =
    let whole : (century * 100 + year) / 100 ≡ century = omega arith in
    let rest : (century * 100 + year) % 100 ≡ year = omega arith in
    let cs = pair_is _ _ _ _ c in
    let ys = pair_is _ _ _ _ y in
    let ms = pair_is _ _ _ _ m in
    let ds = pair_is _ _ _ _ d in (
      omega arith,
      m_low,
      d_low,
      rw (whole, rest)
          (text_from_reads text (two_digits century
          ++ (two_digits year ++ (45 ∷ (two_digits month ++ (45 ∷ two_digits day))))) long
          (cs.0, (cs.1, (ys.0, (ys.1, (first, (ms.0, (ms.1, (second, (ds.0, (ds.1, tt))))))))))),
    )

digits_at : List ℕ → ℕ → List ℕ
digits_at text k = get_or text k 0 ∷ get_or text (k + 1) 0 ∷ []

-- a text spells one date
pub spelled_once :
    (text : List ℕ) (a b : ℕ × ℕ × ℕ) → IsSpelled text a → IsSpelled text b → (a.0 ≡ b.0) × (a.1 ≡ b.1) × (a.2 ≡ b.2)
unfolding digits_at
spelled_once text a b h k =
    let e = sym h.3 ∙ k.3 in
    let c = two_digits_injective (a.0 / 100) (b.0 / 100) (ap (λ t. digits_at t 0) e) in
    let y = two_digits_injective (a.0 % 100) (b.0 % 100) (ap (λ t. digits_at t 2) e) in (
      omega (arith, c, y),
      two_digits_injective a.1 b.1 (ap (λ t. digits_at t 5) e),
      two_digits_injective a.2 b.2
          (ap (λ t. digits_at t 8) e),
    )

-- the text of a day spells its date
pub day_text_spelled :
    (day : ℤ) → IsDay day → IsSpelled (day_text day) (unsigned_abs (year_of day), month_of day, day_of_month day)
unfolding day_text
day_text_spelled day h =
    let year = year_of_day day h in
    let date = (date_of_day day h).0 in
    let size = days_in_month_bounds (year_of day) (month_of day) in
    let same = pos-unsigned_abs (year_of day) (omega (arith, signed_arith, year.low)) in
    (omega (arith, signed_arith, same, year.high), omega (arith, date.1.1.1), omega (arith, date.1.2.1), refl)

-- a text spells the date of at most one day
pub date_spelled :
    (text : List ℕ) (day : ℤ) (date : ℕ × ℕ × ℕ) → IsDay day → text ≡ day_text day → IsSpelled text date
    → (pos date.0 ≡ year_of day) × (date.1 ≡ month_of day) × (date.2 ≡ day_of_month day)
date_spelled text day date h e k =
    let year = year_of_day day h in
    let same = spelled_once text date (unsigned_abs (year_of day), month_of day, day_of_month day) k
    (subst (λ t. IsSpelled t (unsigned_abs (year_of day), month_of day, day_of_month day)) (sym e)
    (day_text_spelled day h)) in
    (ap pos same.0 ∙ pos-unsigned_abs (year_of day) (omega (arith, signed_arith, year.low)), same.1, same.2)

-- two days with one text are one day
pub day_text_injective : (day other : ℤ) → IsDay day → IsDay other → day_text day ≡ day_text other → day ≡ other
day_text_injective day other h k e =
    let same = date_spelled (day_text day) other (unsigned_abs (year_of day), month_of day, day_of_month day) k e
    (day_text_spelled day h) in
    let year = year_of_day day h in
    let y : year_of day ≡ year_of other = sym (pos-unsigned_abs (year_of day) (omega (arith, signed_arith, year.low)))
    ∙ same.0 in
    sym (date_of_day day h).1 ∙ (rw (y, same.1, same.2) (date_of_day other k).1)

pub length-day_text : (day : ℤ) → length (day_text day) ≡ 10
unfolding day_text
length-day_text day = refl

tens : (n : ℕ) → n < 100 → IsDayByte (48 + n / 10)
tens n h = inl (omega arith, omega arith)

ones : (n : ℕ) → IsDayByte (48 + n % 10)
ones n = inl (omega arith, omega arith)

with_byte : (byte : ℕ) (rest : List ℕ) → IsDayByte byte → All IsDayByte rest → All IsDayByte (byte ∷ rest)
with_byte byte rest = All-cons IsDayByte byte rest

digit_bytes : (n : ℕ) (rest : List ℕ) → n < 100 → All IsDayByte rest → All IsDayByte (two_digits n ++ rest)
digit_bytes n rest h others =
    with_byte (48 + n / 10) ((48 + n % 10) ∷ rest) (tens n h) (with_byte (48 + n % 10) rest (ones n) others)

date_text_bytes :
    (year month day : ℕ) → year < 10000 → month < 100 → day < 100 → All IsDayByte (date_text year month day)
date_text_bytes year month day y m d =
    let last = digit_bytes day [] d (λ k x lt. absurd (omega arith)) in
    let second = with_byte 45 (two_digits day) (inr refl) last in
    let middle = digit_bytes month (45 ∷ two_digits day) m second in
    let first = with_byte 45 (two_digits month ++ (45 ∷ two_digits day)) (inr refl) middle in
    let low = digit_bytes (year % 100) (45 ∷ (two_digits month ++ (45 ∷ two_digits day))) (omega arith) first in
    digit_bytes (year / 100) (two_digits (year % 100) ++ (45 ∷ (two_digits month ++ (45 ∷ two_digits day))))
    (omega arith) low

-- the text of a day has digits and hyphens alone
pub day_text_bytes : (day : ℤ) → IsDay day → All IsDayByte (day_text day)
unfolding day_text
day_text_bytes day h =
    let s = day_text_spelled day h in date_text_bytes (unsigned_abs (year_of day)) (month_of day)
    (day_of_month day) s.0 s.1 s.2

-- the text of a day is that of the parts of its date
pub text_is :
    (day year : ℤ) (size month number : ℕ) → year ≡ year_of day → IsBetween (pos 1900) (pos 2199) year
    → size ≡ unsigned_abs (to_z w32 (of_z w32 year)) → month ≡ month_of day → number ≡ day_of_month day
    → date_text size month number ≡ day_text day
unfolding day_text
text_is day year size month number y within s m n =
    let back : to_z w32 (of_z w32 year) ≡ year = omega (arith, ints, within) in
    let e : size ≡ unsigned_abs (year_of day) = s ∙ ap unsigned_abs (back ∙ y) in
    rw (e, m, n)

-- a text that spells no date is the text of no day
pub spells_no_day :
    (text : List ℕ) → ((date : ℕ × ℕ × ℕ) → IsSpelled text date → ⊥) → (day : ℤ) → IsDay day → text ≡ day_text day → ⊥
spells_no_day text none day h e =
    none (unsigned_abs (year_of day), month_of day, day_of_month day)
    (subst (λ t. IsSpelled t (unsigned_abs (year_of day), month_of day, day_of_month day)) (sym e)
    (day_text_spelled day h))

-- what is read of a text that spells a date, where the date is one of the book
pub day_spelled :
    (text : List ℕ) (date : ℕ × ℕ × ℕ) (year : ℤ) (found : Option ℤ) → IsSpelled text date → year ≡ pos date.0
    → (IsSome found ↔ IsBookDate year date.1 date.2) → IfSome found (λ day. day ≡ days_from_civil year date.1 date.2)
    → IfSome found (λ day. IsDay day × (text ≡ day_text day))
unfolding day_text
day_spelled text date year None k y some here = tt
day_spelled text date year (Some day) k y some here =
    let book = some.0 refl in
    let within : IsDay day = subst (λ n. IsDay n) (sym here) (book_date_is_day year date.1 date.2 book) in
    let own = date_is day year date.1 date.2 within book.1 (sym here) in
    let size : date.0 ≡ unsigned_abs (year_of day) = ap unsigned_abs (sym y ∙ own.0) in
    (within, k.3 ∙ rw (size, own.1, own.2))

-- and where it is none
pub no_day_spelled :
    (text : List ℕ) (date : ℕ × ℕ × ℕ) (year : ℤ) (found : Option ℤ) → IsSpelled text date → year ≡ pos date.0
    → (IsSome found ↔ IsBookDate year date.1 date.2) → IfNone found ((day : ℤ) → IsDay day → text ≡ day_text day → ⊥)
no_day_spelled text date year (Some day) k y some = tt
no_day_spelled text date year None k y some =
    λ day h e.
    let same = date_spelled text day date h e k in
    let book : IsBookDate year date.1 date.2 = rw (y ∙ same.0, same.1, same.2) (date_of_day day h).0 in
    let is : false ≡ true = some.1 book in
    absurd cc

-- The day that a text names is the one day of the book whose text it is.
use Rattle.std.proofs.Common.{◌≡◌, ℕ, ◌+◌, ◌-◌, ◌*◌, ◌/◌, ◌%◌, ◌&&◌, Bool, true, false, cond, List, Option, Some}
use Rattle.std.proofs.Common.{None, refl, sym, ap, ◌∙◌, arith, rules, String, Global, string_bytes, ℤ, pos, negsuc}
use Rattle.std.proofs.Common.{◌≤ℤ◌, unsigned_abs, int_le}
use Rattle.std.specs.Prelude.{IfSome, IfNone}
use Rattle.std.specs.Str.{bytes_eq}
use Rattle.std.proofs.lemmas.Bool.{and_parts}
use Rattle.std.proofs.lemmas.Slice.Eq.{bytes_eq-Decides}
use Rattle.jiff_core.specs.Calendar.{days_from_civil}
use Rattle.jiff_core.proofs.SignedLemmas.{signed_arith}
use Rattle.book_commodity.specs.Day.{IsDay, year_of, month_of, day_of_month, day_text, date_text}
use Rattle.book_commodity.proofs.DayLemmas.{date_of_day, le_of_test, pos-unsigned_abs, test_of_le}
use Rattle.serde_json.specs.Data.{string}
use Rattle.serde_json.specs.View.{view}
use Rattle.serde_json.specs.declared.value.Value as value
use Rattle.serde_json.specs.declared.value.Value.{the_lemmas}
use Rattle.book_json.specs.Forms.{day_in_places, is_day, day_named}

-- a value that is a string stands for its text
pub view-String : (text : String Global) → view (value.String text) ≡ string (string_bytes text)
view-String text = search (rules, the_lemmas)

is_day-true : (day : ℤ) → is_day day ≡ true → IsDay day
is_day-true day e =
    let h = and_parts (int_le (negsuc 25566) day) (int_le day (pos 84005)) e in
    (le_of_test (negsuc 25566) day h.0, le_of_test day (pos 84005) h.1)

true-is_day : (day : ℤ) → IsDay day → is_day day ≡ true
true-is_day day h = rw (test_of_le (negsuc 25566) day h.0, test_of_le day (pos 84005) h.1) refl

digits-read : (n : ℕ) → (48 + n / 10 - 48) * 10 + (48 + n % 10 - 48) ≡ n
digits-read n = omega arith

-- the places of a date's text hold its year, its month and its day
places_of_date : (year month day : ℕ) → day_in_places (date_text year month day) ≡ days_from_civil (pos year) month day
places_of_date year month day =
    let century : (48 + year / 100 / 10 - 48) * 10 + (48 + year / 100 % 10 - 48) ≡ year / 100 = omega arith in
    let rest : (48 + year % 100 / 10 - 48) * 10 + (48 + year % 100 % 10 - 48) ≡ year % 100 = omega arith in
    let whole : year / 100 * 100 + year % 100 ≡ year = omega arith in
    rw (century, rest, digits-read month, digits-read day, whole) refl

-- the places of a day's text hold the day
places_of_day : (day : ℤ) → IsDay day → day_in_places (day_text day) ≡ day
unfolding day_text
places_of_day day h =
    let date = date_of_day day h in
    let positive : pos (unsigned_abs (year_of day))
    ≡ year_of day = pos-unsigned_abs (year_of day) (omega (arith, signed_arith, date.0.0.0)) in
    places_of_date (unsigned_abs (year_of day)) (month_of day) (day_of_month day)
    ∙ rw positive date.1

named_if : (text : List ℕ) (day : ℤ) → IsDay day → text ≡ day_text day → day_named text ≡ Some day
unfolding day_named
named_if text day h e =
    let here : day_in_places text ≡ day = ap day_in_places e ∙ places_of_day day h in
    rw (here, true-is_day day h, (bytes_eq-Decides text (day_text day)).1 e) refl

none_if : (text : List ℕ) → ((day : ℤ) → IsDay day → text ≡ day_text day → ⊥) → day_named text ≡ None
unfolding day_named
none_if text none =
    let day = day_in_places text in
    let P : Bool → Bool → Type 0 = λ a b. is_day day ≡ a → bytes_eq text (day_text day) ≡ b
    → cond (a && b) (Some day) None ≡ None in
    elim (is_day day) as (λ a. P a (bytes_eq text (day_text day))) [
      | true ↦ elim (bytes_eq text (day_text day)) as (λ b. P true b) [
        | true ↦ λ e f. absurd (none day (is_day-true day e) ((bytes_eq-Decides text (day_text day)).0 f))
        | false ↦ λ e f. refl
      ]
      | false ↦ λ e f. refl
    ] refl refl

-- what reading a day's text gives is the day that the text names
pub day_named_is : (text : List ℕ) (found : Option ℤ) → IfSome found (λ day. IsDay day × (text ≡ day_text day))
    → IfNone found ((day : ℤ) → IsDay day → text ≡ day_text day → ⊥) → found ≡ day_named text
day_named_is text (Some day) here none = sym (named_if text day here.0 here.1)
day_named_is text None here none = sym (none_if text none)

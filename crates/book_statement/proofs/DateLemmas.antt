-- A date is one of the calendar exactly where its test passes.
use Rattle.std.proofs.Common.{
  ◌≡◌,
  ℕ,
  ◌≤◌,
  true,
  false,
  List,
  take,
  drop,
  Option,
  Some,
  None,
  IsSome,
  refl,
  sym,
  ap,
  subst,
  ◌∙◌,
  arith,
  ℤ,
  pos,
  ◌↔◌,
}
use Rattle.std.specs.Prelude.{IfSome, nat_le}
use Rattle.std.proofs.lemmas.Bool.{and_parts, leb-true, le-leb, and_from, cond-true, cond-false, false_from_ne_true}
use Rattle.std.proofs.lemmas.Int.{ints}
use Rattle.jiff_core.specs.Calendar.{days_from_civil, days_in_month}
use Rattle.book_commodity.specs.Day.{IsBookDate}
use Rattle.book_statement.specs.Numbers.{has_digits, number}
use Rattle.book_statement.specs.Dates.{is_date, date, short_date, year_of_two}

pub book_date_from_test : (year month day : ℕ) → is_date year month day ≡ true → IsBookDate (pos year) month day
book_date_from_test year month day e =
    let a = and_parts (nat_le 1900 year) _ e in
    let b = and_parts (nat_le year 2199) _ a.1 in
    let c = and_parts (nat_le 1 month) _ b.1 in
    let d = and_parts (nat_le month 12) _ c.1 in
    let f = and_parts (nat_le 1 day) _ d.1 in
    let low : 1900 ≤ year = leb-true 1900 year a.0 in
    let high : year ≤ 2199 = leb-true year 2199 b.0 in (
      (omega (arith, ints), omega (arith, ints)),
      (
        (omega (arith, ints), omega (arith, ints)),
        (leb-true 1 month c.0, leb-true month 12 d.0),
        (leb-true 1 day f.0, leb-true day (days_in_month (pos year) month) f.1),
      ),
    )

pub test_from_book_date : (year month day : ℕ) → IsBookDate (pos year) month day → is_date year month day ≡ true
test_from_book_date year month day h =
    and_from _ _ (le-leb 1900 year (omega (arith, ints)))
    (and_from _ _ (le-leb year 2199 (omega (arith, ints)))
    (and_from _ _ (le-leb 1 month h.1.1.0)
    (and_from _ _ (le-leb month 12 h.1.1.1)
    (and_from _ _ (le-leb 1 day h.1.2.0) (le-leb day (days_in_month (pos year) month) h.1.2.1)))))

is_some_none : IsSome {T = ℤ} None → ⊥
is_some_none h = absurd cc

date_at_year : (year month day : ℕ) (found : Option ℤ) → (IsSome found ↔ IsBookDate (pos year) month day)
    → IfSome found (λ d. d ≡ days_from_civil (pos year) month day) → found ≡ date year month day
unfolding date
date_at_year year month day None some is =
    sym (cond-false (is_date year month day) _ None
    (false_from_ne_true (is_date year month day) (λ e. is_some_none (some.1 (book_date_from_test year month day e)))))
date_at_year year month day (Some d) some is =
    ap Some is ∙ sym (cond-true (is_date year month day) _ None (test_from_book_date year month day (some.0 refl)))

-- what `Day::of_parts` answers is the day of the date
pub date_from_parts : (year month day : ℕ) (z : ℤ) (found : Option ℤ) → z ≡ pos year
    → (IsSome found ↔ IsBookDate z month day)
    → IfSome found (λ d. d ≡ days_from_civil z month day) → found ≡ date year month day
date_from_parts year month day z found e some is =
    date_at_year year month day found
    (subst (λ y. IsSome found ↔ IsBookDate y month day) e some)
    (subst (λ y. IfSome found (λ d. d ≡ days_from_civil y month day)) e is)

-- the day of six digits by the numbers that they spell
pub short_date-parts : (text : List ℕ) (yy year month day : ℕ) → has_digits 6 6 text ≡ true
    → yy ≡ number (take 2 text) → year ≡ year_of_two yy
    → month ≡ number (take 2 (drop 2 text)) → day ≡ number (take 2 (drop 4 text))
    → date year month day ≡ short_date text
unfolding short_date
short_date-parts text yy year month day digits a b c d =
    ap (λ y. date y month day) (b ∙ ap year_of_two a)
    ∙ ap (λ m. date (year_of_two (number (take 2 text))) m day) c
    ∙ ap (λ n. date (year_of_two (number (take 2 text))) (number (take 2 (drop 2 text))) n) d
    ∙ sym (cond-true (has_digits 6 6 text) _ None digits)

pub short_date-none : (text : List ℕ) → has_digits 6 6 text ≡ false → short_date text ≡ None
unfolding short_date
short_date-none text digits = cond-false (has_digits 6 6 text) _ None digits

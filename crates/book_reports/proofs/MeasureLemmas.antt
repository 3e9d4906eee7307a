-- What accounts are worth: that the reckoned worth is the defined one, and that it is small enough to be added up.
use Rattle.std.proofs.Common.{◌≡◌, ℕ, zero, suc, ◌^◌, ◌≤◌, ℤ, pos, negsuc, neg_ℤ, unsigned_abs, nat_le, Bool, true, false}
use Rattle.std.proofs.Common.{◌||◌, nat_lt, if◌then◌else◌, List, Option, Some, None, refl, ap, subst, sym, ◌∙◌, arith}
use Rattle.std.proofs.lemmas.Bool.{not-true}
use Rattle.std.proofs.lemmas.Bool.Decides.{nat_tests}
use Rattle.std.specs.Int.{IsInRange}
use Rattle.std.specs.Option.{option_map_or}
use Rattle.std.specs.Ordering.{int_eq}
use Rattle.book_commodity.specs.Amount.{scaled}
use Rattle.book_commodity.specs.Table.{value_of}
use Rattle.book_commodity.specs.declared.commodity.Commodity.{Commodity}
use Rattle.book_commodity.specs.declared.rate.Rate.{Rate}
use Rattle.book_command.specs.declared.answer.Ratio.{Ratio}
use Rattle.book_prices.specs.Rate.{AreOnce, IsRate}
use Rattle.book_prices.specs.Worth.{shown, worth_of}
use Rattle.book_prices.specs.declared.price.Price.{Price}
use Rattle.book_prices.specs.declared.valuation.Valuation.{Valuation}
use Rattle.book_prices.specs.declared.valuation.Valuation.TheVariants.{Amount, NoPrice, Over}
use Rattle.book_sound.specs.Soundness.{IsSoundBook}
use Rattle.book_command.specs.Rates.{rate_on}
use Rattle.book_command.proofs.RateLemmas.{rate_is}
use Rattle.book_undo.specs.Book.{Book}
use Rattle.book_reports.specs.Measure.{fraction_of, worth, worth_by}
use Rattle.book_reports.specs.Sections.{amount_in, is_turned, signed_in, turned}
use Rattle.book_reports.specs.declared.section.Section.{Section}

-- the fractions of a sound book are in their range
pub fraction_in_range :
    (book : Book) (number : ℕ) → IsSoundBook book → IsInRange 1 1_000_000_000 (fraction_of book.commodities number)
fraction_in_range book number is = here (value_of number book.commodities) refl
  where
    here :
        (o : Option Commodity) → value_of number book.commodities ≡ o
        → IsInRange 1 1_000_000_000 (option_map_or (λ (c : Commodity). c.fraction) o 1)
    here None there = (omega arith, omega arith)
    here (Some commodity) there =
        let within = not-true (nat_lt commodity.fraction 1 || nat_lt (10 ^ 9) commodity.fraction)
        (is.commodities.keep.each number commodity there).1.0 in
        (grind (arith, nat_tests, within), grind (arith, nat_tests, within))

-- the worth at the rate of a table of prices is the worth at the rate that the command on prices answers
pub worth_is :
    (prices : List (ℕ × Price)) (commodity currency : ℕ) (day : ℤ) (rate : Option Rate) → AreOnce prices
    → IsRate prices commodity currency day rate → (amount : ℤ) (from_fraction to_fraction : ℕ)
    → worth_of amount rate from_fraction to_fraction
    ≡ (if int_eq amount (pos 0) then Amount (pos 0)
    else worth_by amount (rate_on prices commodity currency day) from_fraction to_fraction)
worth_is prices c d day None once is amount f t =
    ap (λ (r : Option Ratio). if int_eq amount (pos 0) then Amount (pos 0) else worth_by amount r f t)
    (rate_is prices c d day None once is)
worth_is prices c d day (Some rate) once is amount f t =
    ap (λ (r : Option Ratio). if int_eq amount (pos 0) then Amount (pos 0) else worth_by amount r f t)
    (rate_is prices c d day (Some rate) once is)

-- so is what a view of a book reckons
pub worth_of_view :
    (book plain : Book) (day : ℤ) (commodity : ℕ) (amount : ℤ) (rate : Option Rate) (f t : ℕ) (result : Valuation)
    → plain ≡ book → AreOnce plain.prices → IsRate plain.prices commodity plain.currency day rate
    → f ≡ fraction_of book.commodities commodity → t ≡ fraction_of book.commodities plain.currency
    → result ≡ worth_of amount rate f t → result ≡ worth book day commodity amount
unfolding worth
worth_of_view book plain day commodity amount rate f t result same once is from to told =
    let By : ℕ → ℕ → Valuation = λ m n. if int_eq amount (pos 0) then Amount (pos 0)
    else worth_by amount (rate_on plain.prices commodity plain.currency day) m n in
    let own_from = from ∙ ap (λ (b : Book). fraction_of b.commodities commodity) (sym same) in
    let own_to = to ∙ ap (λ (b : Book). fraction_of b.commodities plain.currency) (sym same) in
    subst (λ (b : Book). result ≡ worth b day commodity amount) same
    (told ∙ worth_is plain.prices commodity plain.currency day rate once is amount f t
    ∙ ap (λ (n : ℕ). By n t) own_from ∙ ap (λ (n : ℕ). By (fraction_of plain.commodities commodity) n) own_to)

shown_small : (amount : ℤ) → unsigned_abs (amount_in (shown amount)) ≤ 10 ^ 30
shown_small amount = here (nat_le (unsigned_abs amount) (10 ^ 30)) refl
  where
    here :
        (t : Bool) → nat_le (unsigned_abs amount) (10 ^ 30) ≡ t
        → unsigned_abs (amount_in (if t then Amount amount else Over)) ≤ 10 ^ 30
    here true is = grind (arith, nat_tests, is)
    here false is = omega arith

by_small :
    (amount : ℤ) (rate : Option Ratio) (f t : ℕ) → unsigned_abs (amount_in (worth_by amount rate f t)) ≤ 10 ^ 30
by_small amount None f t = omega arith
by_small amount (Some rate) f t = shown_small (scaled amount rate.num rate.denom f t)

-- a worth is at most 10 ^ 30 in size
pub worth_small :
    (book : Book) (day : ℤ) (commodity : ℕ) (amount : ℤ) → unsigned_abs (amount_in (worth book day commodity amount)) ≤ 10 ^ 30
unfolding worth
worth_small book day commodity amount =
    elim (int_eq amount (pos 0)) as
    (λ b. unsigned_abs (amount_in (if b then Amount (pos 0)
    else worth_by amount (rate_on book.prices commodity book.currency day) (fraction_of book.commodities commodity)
    (fraction_of book.commodities book.currency))) ≤ 10 ^ 30) [
      | true ↦ omega arith
      | false ↦ by_small amount (rate_on book.prices commodity book.currency day)
          (fraction_of book.commodities commodity) (fraction_of book.commodities book.currency)
    ]

pub size_turned : (amount : ℤ) → unsigned_abs (neg_ℤ amount) ≡ unsigned_abs amount
size_turned (pos zero) = refl
size_turned (pos (suc n)) = refl
size_turned (negsuc n) = refl

turned_small : (worth : Valuation) → unsigned_abs (amount_in worth) ≤ 10 ^ 30 → unsigned_abs (amount_in (turned worth)) ≤ 10 ^ 30
turned_small (Amount amount) small = subst (λ n. n ≤ 10 ^ 30) (sym (size_turned amount)) small
turned_small NoPrice small = small
turned_small Over small = small

-- so it is with the sign that a section shows it with
pub signed_small :
    (section : Section) (worth : Valuation) → unsigned_abs (amount_in worth) ≤ 10 ^ 30
    → unsigned_abs (amount_in (signed_in section worth)) ≤ 10 ^ 30
signed_small section worth small =
    elim (is_turned section) as (λ b. unsigned_abs (amount_in (if b then turned worth else worth)) ≤ 10 ^ 30) [
      | true ↦ turned_small worth small
      | false ↦ small
    ]

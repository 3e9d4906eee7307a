-- What checks answer, by the conditions that they ask.
use Rattle.std.proofs.Common.{
  ◌≡◌,
  ℕ,
  ℤ,
  List,
  [],
  ◌∷◌,
  ◌++◌,
  Option,
  Some,
  None,
  Bool,
  true,
  false,
  is_some,
  Result,
  ap,
  subst,
  ◌∙◌,
}
use Rattle.std.specs.Prelude.{not, ◌||◌, nat_lt}
use Rattle.std.specs.Ordering.{int_eq}
use Rattle.book_commodity.specs.declared.commodity.Commodity.{Commodity}
use Rattle.book_statement.specs.declared.bad.Bad.{Bad}
use Rattle.book_statement.specs.declared.bad.Bad.TheVariants.{
  UnknownCurrency,
  CurrencyDiffers,
  PageOrder,
  TooMany,
  BalanceMismatch,
}
use Rattle.book_statement.specs.Checks.{Check, check, first_bad, Tells}
use Rattle.book_statement.specs.Currencies.{fraction_of}
use Rattle.book_statement.specs.Keys.{same_text}
use Rattle.book_statement.proofs.CheckLemmas.{first_bad-here, tells-past}
use Rattle.mt940_read.specs.declared.message.Message.{Message}
use Rattle.mt940_read.specs.declared.page.Page.{Page}
use Rattle.mt940_read.specs.Amounts.{amount_checks}
use Rattle.mt940_read.specs.Balances.{balance, balance_amount, balance_currency}
use Rattle.mt940_read.specs.Entries.{fraction_in}
use Rattle.mt940_read.specs.FieldChecks.{
  lines_before,
  reckoned_checks,
  page_checks,
  room_checks,
  later_currency_checks,
  opening_currency_checks,
}
use Rattle.mt940_read.specs.Pages.{joins_page, agrees}
use Rattle.mt940_read.specs.Values.{reckoned}

pub reckoned_at : (m : Message) (z w : ℤ) (r : Result ℤ Bad) → z ≡ w → Tells (reckoned_checks m z) z r
    → Tells (reckoned_checks m w) w r
reckoned_at m z w r e h = subst (λ x. Tells (reckoned_checks m x) x r) e h

pub reckoned_wrong : (m : Message) (z : ℤ) → int_eq z (reckoned m) ≡ false
    → first_bad (reckoned_checks m z) ≡ Some (BalanceMismatch z (reckoned m))
unfolding reckoned_checks
reckoned_wrong m z e = ap (λ t. first_bad (check t (BalanceMismatch z (reckoned m)) ∷ [])) e

pub reckoned_right : (m : Message) (z : ℤ) → int_eq z (reckoned m) ≡ true → first_bad (reckoned_checks m z) ≡ None
unfolding reckoned_checks
reckoned_right m z e = ap (λ t. first_bad (check t (BalanceMismatch z (reckoned m)) ∷ [])) e

pub page_at : (page : Option Page) (statements : ℕ) (m : Message) (goes_on : Bool) (currency code : List ℕ) (z w : ℤ)
    (r : Result ℤ Bad) → currency ≡ code → z ≡ w
    → Tells (page_checks page statements m goes_on currency z) z r
    → Tells (page_checks page statements m goes_on code w) w r
page_at page statements m goes_on currency code z w r c e h =
    subst (λ x. Tells (page_checks page statements m goes_on code x) x r) e
    (subst (λ x. Tells (page_checks page statements m goes_on x z) z r) c h)

pub page_wrong : (page : Option Page) (statements : ℕ) (m : Message) (goes_on : Bool) (currency : List ℕ) (z : ℤ)
    → (not (joins_page page m.account goes_on) || agrees page currency z goes_on) ≡ false
    → first_bad (page_checks page statements m goes_on currency z) ≡ Some PageOrder
unfolding page_checks
page_wrong page statements m goes_on currency z a =
    ap (λ t. first_bad (check t PageOrder ∷ check (joins_page page m.account goes_on || nat_lt statements 1_000)
    TooMany ∷ [])) a

pub page_many : (page : Option Page) (statements : ℕ) (m : Message) (goes_on : Bool) (currency : List ℕ) (z : ℤ)
    → (not (joins_page page m.account goes_on) || agrees page currency z goes_on) ≡ true
    → (joins_page page m.account goes_on || nat_lt statements 1_000) ≡ false
    → first_bad (page_checks page statements m goes_on currency z) ≡ Some TooMany
unfolding page_checks
page_many page statements m goes_on currency z a b =
    ap (λ t. first_bad (check t PageOrder ∷ check (joins_page page m.account goes_on || nat_lt statements 1_000)
    TooMany ∷ [])) a
    ∙ ap (λ t. first_bad (check t TooMany ∷ [])) b

pub page_right : (page : Option Page) (statements : ℕ) (m : Message) (goes_on : Bool) (currency : List ℕ) (z : ℤ)
    → (not (joins_page page m.account goes_on) || agrees page currency z goes_on) ≡ true
    → (joins_page page m.account goes_on || nat_lt statements 1_000) ≡ true
    → first_bad (page_checks page statements m goes_on currency z) ≡ None
unfolding page_checks
page_right page statements m goes_on currency z a b =
    ap (λ t. first_bad (check t PageOrder ∷ check (joins_page page m.account goes_on || nat_lt statements 1_000)
    TooMany ∷ [])) a
    ∙ ap (λ t. first_bad (check t TooMany ∷ [])) b

abbrev known_code : List (ℕ × Commodity) → List ℕ → Bool
known_code known text = is_some (fraction_of (balance_currency text) known)

pub later_unknown : (known : List (ℕ × Commodity)) (m : Message) (text : List ℕ) → known_code known text ≡ false
    → first_bad (later_currency_checks known m text) ≡ Some UnknownCurrency
unfolding later_currency_checks
later_unknown known m text a =
    ap (λ t. first_bad (check t UnknownCurrency ∷ check (same_text (balance_currency text) m.currency)
    CurrencyDiffers ∷ amount_checks m.fraction (balance_amount text))) a

pub later_differs : (known : List (ℕ × Commodity)) (m : Message) (text : List ℕ) → known_code known text ≡ true
    → same_text (balance_currency text) m.currency ≡ false
    → first_bad (later_currency_checks known m text) ≡ Some CurrencyDiffers
unfolding later_currency_checks
later_differs known m text a b =
    ap (λ t. first_bad (check t UnknownCurrency ∷ check (same_text (balance_currency text) m.currency)
    CurrencyDiffers ∷ amount_checks m.fraction (balance_amount text))) a
    ∙ ap (λ t. first_bad (check t CurrencyDiffers ∷ amount_checks m.fraction (balance_amount text))) b

pub later_tells : (known : List (ℕ × Commodity)) (m : Message) (text : List ℕ) (v : ℤ) (r : Result ℤ Bad)
    → known_code known text ≡ true
    → same_text (balance_currency text) m.currency ≡ true
    → Tells (amount_checks m.fraction (balance_amount text)) v r → Tells (later_currency_checks known m text) v r
unfolding later_currency_checks
later_tells known m text v r a b h =
    let front : List Check = check (known_code known text) UnknownCurrency ∷ check
    (same_text (balance_currency text) m.currency) CurrencyDiffers ∷ [] in
    let holds : first_bad front ≡ None =
    ap (λ t. first_bad (check t UnknownCurrency ∷ check (same_text (balance_currency text) m.currency)
    CurrencyDiffers ∷ [])) a
    ∙ ap (λ t. first_bad (check t CurrencyDiffers ∷ [])) b in
    tells-past front (amount_checks m.fraction (balance_amount text)) v r holds h

pub opening_unknown : (known : List (ℕ × Commodity)) (page : Option Page) (statements : ℕ) (m : Message)
    (goes_on : Bool) (text : List ℕ)
    → is_some (fraction_of (balance_currency text) known) ≡ false
    → first_bad (opening_currency_checks known page statements m goes_on text) ≡ Some UnknownCurrency
unfolding opening_currency_checks
opening_unknown known page statements m goes_on text a =
    ap (λ t. first_bad (check t UnknownCurrency ∷
    (amount_checks (fraction_in known (balance_currency text)) (balance_amount text)
    ++ page_checks page statements m goes_on (balance_currency text)
    (balance (fraction_in known (balance_currency text)) text)))) a

pub opening_amount : (known : List (ℕ × Commodity)) (page : Option Page) (statements : ℕ) (m : Message)
    (goes_on : Bool) (text : List ℕ) (bad : Bad)
    → is_some (fraction_of (balance_currency text) known) ≡ true
    → first_bad (amount_checks (fraction_in known (balance_currency text)) (balance_amount text)) ≡ Some bad
    → first_bad (opening_currency_checks known page statements m goes_on text) ≡ Some bad
unfolding opening_currency_checks
opening_amount known page statements m goes_on text bad a e =
    ap (λ t. first_bad (check t UnknownCurrency ∷
    (amount_checks (fraction_in known (balance_currency text)) (balance_amount text)
    ++ page_checks page statements m goes_on (balance_currency text)
    (balance (fraction_in known (balance_currency text)) text)))) a
    ∙ first_bad-here (amount_checks (fraction_in known (balance_currency text)) (balance_amount text)) _ bad e

pub opening_tells : (known : List (ℕ × Commodity)) (page : Option Page) (statements : ℕ) (m : Message)
    (goes_on : Bool) (text : List ℕ) (v : ℤ) (r : Result ℤ Bad)
    → is_some (fraction_of (balance_currency text) known) ≡ true
    → first_bad (amount_checks (fraction_in known (balance_currency text)) (balance_amount text)) ≡ None
    → Tells (page_checks page statements m goes_on (balance_currency text)
    (balance (fraction_in known (balance_currency text)) text)) v r
    → Tells (opening_currency_checks known page statements m goes_on text) v r
unfolding opening_currency_checks
opening_tells known page statements m goes_on text v r a e h =
    let amounts : List Check = amount_checks (fraction_in known (balance_currency text)) (balance_amount text) in
    let pages : List Check = page_checks page statements m goes_on (balance_currency text)
    (balance (fraction_in known (balance_currency text)) text) in
    let one : List Check = check (is_some (fraction_of (balance_currency text) known)) UnknownCurrency ∷ [] in
    let holds : first_bad one ≡ None = ap (λ t. first_bad (check t UnknownCurrency ∷ [])) a in
    tells-past one (amounts ++ pages) v r holds (tells-past amounts pages v r e h)

pub room_full : (page : Option Page) (last_lines : ℕ) (m : Message)
    → nat_lt (lines_before page last_lines m) 10_000 ≡ false
    → first_bad (room_checks page last_lines m) ≡ Some TooMany
unfolding room_checks
room_full page last_lines m e = ap (λ t. first_bad (check t TooMany ∷ [])) e

pub room_left : (page : Option Page) (last_lines : ℕ) (m : Message)
    → nat_lt (lines_before page last_lines m) 10_000 ≡ true
    → first_bad (room_checks page last_lines m) ≡ None
unfolding room_checks
room_left page last_lines m e = ap (λ t. first_bad (check t TooMany ∷ [])) e

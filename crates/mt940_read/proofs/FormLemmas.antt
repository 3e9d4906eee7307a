-- What the checks of a form say where all hold.
use Rattle.std.proofs.Common.{
  ◌≡◌,
  ℕ,
  zero,
  suc,
  inl,
  inr,
  ◌+◌,
  ◌-◌,
  ◌<◌,
  List,
  [],
  ◌∷◌,
  length,
  take,
  drop,
  get_or,
  Option,
  Some,
  None,
  Bool,
  true,
  false,
  cond,
  is_some,
  ℤ,
  refl,
  sym,
  ap,
  subst,
  ◌∙◌,
  arith,
}
use lib.Pointwise.{pointwise}
use Rattle.std.specs.Prelude.{nat_eq, codes, ◌&&◌, ◌||◌, ◌==◌, not, nat_le, slice_index}
use Rattle.std.specs.Char.{is_ascii_digit, is_ascii_uppercase}
use Rattle.std.specs.List.{list_all}
use Rattle.std.specs.Str.{IsAscii}
use Rattle.std.proofs.lemmas.Bool.{true_from_ne_false, and_parts, or_cases, leb-true, eqb-true}
use Rattle.std.proofs.lemmas.List.{length-take, length-drop, get_or-take, get_or-drop}
use Rattle.book_statement.specs.declared.bad.Bad.{Bad}
use Rattle.book_statement.specs.declared.bad.Bad.TheVariants.{FieldForm, DateForm, AmountForm}
use Rattle.book_statement.specs.declared.part.Part.{Part}
use Rattle.book_statement.specs.Checks.{Check, check, first_bad}
use Rattle.book_statement.specs.Dates.{short_date, date, year_of_two}
use Rattle.book_statement.specs.Numbers.{has_digits, number}
use Rattle.book_statement.specs.Texts.{is_nothing}
use Rattle.mt940_read.specs.Amounts.{is_amount}
use Rattle.mt940_read.specs.Balances.{
  is_credit,
  is_debit,
  is_code,
  balance_form,
  balance_currency,
  balance_date,
  balance_amount,
}
use Rattle.mt940_read.specs.LineField.{
  is_taken,
  before_slashes,
  behind_slashes,
  has_entry_date,
  line,
  line_amount,
  line_day,
  references,
  value_day,
  is_kind,
  is_kind_byte,
  kind_part,
  mark_part,
  amount_part,
  line_form,
  line_days,
  kind_place,
  value_part,
  entry_part,
  entry_place,
  mark_place,
}

-- checks that hold
pub held : (holds : Bool) (bad : Bad) (cs : List Check) → first_bad (check holds bad ∷ cs) ≡ None → (holds ≡ true)
    × (first_bad cs ≡ None)
held true bad cs e = (refl, e)
held false bad cs e = absurd cc

-- a list of which each byte passes a test that only ASCII passes
pub ascii_all : (p : ℕ → Bool) → ((b : ℕ) → p b ≡ true → b < 128) → (text : List ℕ) → list_all p text ≡ true
    → IsAscii text
ascii_all p small [] e i = omega arith
ascii_all p small (b ∷ bs) e zero = small b (and_parts (p b) (list_all p bs) e).0
ascii_all p small (b ∷ bs) e (suc i) = ascii_all p small bs (and_parts (p b) (list_all p bs) e).1 i

capital_small : (b : ℕ) → is_ascii_uppercase b ≡ true → b < 128
capital_small b e = let both = and_parts (nat_le 65 b) (nat_le b 90) e in omega (arith, leb-true b 90 both.1)

digit_small : (b : ℕ) → is_ascii_digit b ≡ true → b < 128
digit_small b e = let both = and_parts (nat_le 48 b) (nat_le b 57) e in omega (arith, leb-true b 57 both.1)

kind_small : (b : ℕ) → is_kind_byte b ≡ true → b < 128
kind_small b e = elim (or_cases (is_ascii_uppercase b) (is_ascii_digit b) e)
    [ inl c ↦ capital_small b c | inr d ↦ digit_small b d ]

-- the form of a balance
pub record IsBalance (text : List ℕ) : Type 0 where
  pub code : IsAscii (balance_currency text)
  pub date : is_some (short_date (balance_date text)) ≡ true
  pub amount : is_amount (balance_amount text) ≡ true

pub balance_parts : (text : List ℕ) → first_bad (balance_form text) ≡ None → IsBalance text
unfolding balance_form
balance_parts text e =
    let amounts : List Check = check (is_amount (balance_amount text)) AmountForm ∷ [] in
    let dates : List Check = check (is_some (short_date (balance_date text))) DateForm ∷ amounts in
    let a = held ((is_credit text || is_debit text) && is_code (balance_currency text)) FieldForm dates e in
    let b = held (is_some (short_date (balance_date text))) DateForm amounts a.1 in
    let c = held (is_amount (balance_amount text)) AmountForm [] b.1 in
    let code = and_parts (is_credit text || is_debit text) (is_code (balance_currency text)) a.0 in
    record {
      code = ascii_all is_ascii_uppercase capital_small (balance_currency text)
          (and_parts (length (balance_currency text) == 3) (list_all is_ascii_uppercase (balance_currency text))
          code.1).1;
      date = b.0;
      amount = c.0;
    }

-- the form of a line
pub record IsLine (text : List ℕ) : Type 0 where
  pub four : length (kind_part text) ≡ 4
  pub kind : IsAscii (kind_part text)
  pub days : is_some (line_days text) ≡ true
  pub amount : is_amount (amount_part text) ≡ true

pub line_parts : (text : List ℕ) → first_bad (line_form text) ≡ None → IsLine text
unfolding line_form
line_parts text e =
    let amounts : List Check = check (is_amount (amount_part text)) AmountForm ∷ [] in
    let dates : List Check = check (is_some (line_days text)) DateForm ∷ amounts in
    let a = held (not (is_nothing (mark_part text)) && is_kind (kind_part text)) FieldForm dates e in
    let b = held (is_some (line_days text)) DateForm amounts a.1 in
    let c = held (is_amount (amount_part text)) AmountForm [] b.1 in
    let kind = and_parts (not (is_nothing (mark_part text))) (is_kind (kind_part text)) a.0 in
    let outer = and_parts ((length (kind_part text) == 4)
    && is_ascii_uppercase (slice_index (kind_part text) 0)) (list_all is_kind_byte (kind_part text)) kind.1 in
    let inner = and_parts (length (kind_part text) == 4) (is_ascii_uppercase (slice_index (kind_part text) 0))
    outer.0 in
    record {
      four = eqb-true (length (kind_part text)) 4 inner.0;
      kind = ascii_all is_kind_byte kind_small (kind_part text) outer.1;
      days = b.0;
      amount = c.0;
    }

-- a date of six digits has six digits
pub short_digits : (text : List ℕ) (day : ℤ) → short_date text ≡ Some day → has_digits 6 6 text ≡ true
unfolding short_date
short_digits text day e = true_from_ne_false (has_digits 6 6 text)
    (λ n. none_some (sym (ap (λ t. cond t (short_day text) None) n) ∙ e))
  where
    short_day : List ℕ → Option ℤ
    short_day text = date (year_of_two (number (take 2 text))) (number (take 2 (drop 2 text)))
        (number (take 2 (drop 4 text)))

    none_some : {d : ℤ} → None ≡ Some d → ⊥
    none_some p = absurd cc

-- an entry date that is there has four digits
pub entry_digits : (text : List ℕ) → is_nothing (entry_part text) ≡ false → has_digits 4 4 (entry_part text) ≡ true
unfolding mark_place
entry_digits text e = by_test (has_digits 4 4 (take 4 (drop (entry_place text) text))) refl e
  where
    part : Bool → List ℕ
    part t = take (entry_place text + cond t 4 0 - entry_place text) (drop (entry_place text) text)

    true_false : true ≡ false → ⊥
    true_false p = absurd cc

    by_test : (t : Bool) → has_digits 4 4 (take 4 (drop (entry_place text) text)) ≡ t
        → is_nothing (part (has_digits 4 4 (take 4 (drop (entry_place text) text)))) ≡ false
        → has_digits 4 4 (part (has_digits 4 4 (take 4 (drop (entry_place text) text)))) ≡ true
    by_test true is some =
        let four : entry_place text + 4 - entry_place text ≡ 4 = omega arith in
        ap (λ t. has_digits 4 4 (part t)) is ∙ ap (λ n. has_digits 4 4 (take n (drop (entry_place text) text))) four
        ∙ is
    by_test false is some =
        let none : entry_place text + 0 - entry_place text ≡ 0 = omega arith in
        let empty : is_nothing (part false) ≡ true = ap (λ n. is_nothing (take n (drop (entry_place text) text)))
        none in
        absurd (true_false (sym empty ∙ sym (ap (λ t. is_nothing (part t)) is) ∙ some))

pub no_days : (text : List ℕ) → line_days text ≡ None → is_some (line_days text) ≡ true → ⊥
no_days text none some = true_is_false (sym some ∙ ap is_some none)
  where
    true_is_false : true ≡ false → ⊥
    true_is_false p = absurd cc

pub kind_within : (text : List ℕ) → IsLine text → kind_place text + 3 < length text
kind_within text is = omega (
  arith,
  is.four,
  length-take 4 (drop (kind_place text) text),
  length-drop
      (kind_place text) text,
)

pub kind_ascii : (text : List ℕ) → IsLine text → get_or text (kind_place text + 3) 0 < 128
kind_ascii text is =
    let there : get_or (kind_part text) 3 0 ≡ get_or text (kind_place text + 3) 0 =
    get_or-take 4 (drop (kind_place text) text) 3 0 (omega arith) ∙ get_or-drop (kind_place text) text 3 0 in
    subst (λ b. b < 128) there (is.kind 3)

-- the days of a line
pub days_are : (text : List ℕ) (days : ℤ × ℤ) → line_days text ≡ Some days → (days.0 ≡ line_day text)
    × (days.1 ≡ value_day text)
unfolding line_days
days_are text days e = by_test (is_some (short_date (value_part text)) && has_entry_date text) e
  where
    by_test : (t : Bool) → cond t (Some (line_day text, value_day text)) None ≡ Some days → (days.0 ≡ line_day text)
        × (days.1 ≡ value_day text)
    by_test true k = let same : (line_day text, value_day text) ≡ days = cc in
        (sym (ap (λ (d : ℤ × ℤ). d.0) same), sym (ap (λ (d : ℤ × ℤ). d.1) same))
    by_test false k = absurd cc

-- a line by its parts
pub line_is : (fraction : ℕ) (text : List ℕ) (days : ℤ
    × ℤ) (amount : ℤ) (kind own bank words category : List ℕ) (parts : List Part) → line_days text ≡ Some days
    → amount ≡ line_amount fraction text → kind ≡ kind_part text → own ≡ before_slashes (references text)
    → bank ≡ behind_slashes (references text) → words ≡ [] → category ≡ [] → parts ≡ []
    → record {
      day = days.0;
      value_day = days.1;
      amount = amount;
      kind = kind;
      ref_own = own;
      ref_bank = bank;
      text =
          words;
      category = category;
      parts = parts;
    }
    ≡ line fraction text []
unfolding line
line_is fraction text days amount kind own bank words category parts d a k o b w e p =
    let both = days_are text days d in
    λ i. record {
      day = both.0 i;
      value_day = both.1 i;
      amount = a i;
      kind = k i;
      ref_own = o i;
      ref_bank = b i;
      text = w i;
      category = e i;
      parts = p i;
    }

-- A mark says whether its line takes from the account.
pub taken_by : (mark text : List ℕ) → mark ≡ mark_part text
    → (pointwise nat_eq mark (codes "D") || pointwise nat_eq mark (codes "RC")) ≡ is_taken text
unfolding is_taken
taken_by mark text e = ap (λ m. pointwise nat_eq m (codes "D") || pointwise nat_eq m (codes "RC")) e

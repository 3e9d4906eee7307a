-- Where a book has but one currency, the balance sheet has no unbooked gains: each amount is worth itself, and what the
-- accounts hold adds up to nothing.
use Rattle.std.proofs.Common.{◌≡◌, ℕ, ◌+◌, ◌*◌, ◌/◌, ◌^◌, ◌≤◌, ◌==◌, ◌&&◌, not, ℤ, pos, negsuc, neg_ℤ, ◌+ℤ◌}
use Rattle.std.proofs.Common.{unsigned_abs, nat_le, Bool, true, false, if◌then◌else◌, List, [], ◌∷◌, All, map, Option}
use Rattle.std.proofs.Common.{Some, None, ◌⊎◌, inl, inr, refl, sym, ap, ◌∙◌, arith}
use Rattle.std.proofs.Math.IntN.{+ℤ_idl}
use Rattle.std.specs.List.{cons_option, filter_map}
use Rattle.std.specs.Option.{option_map_or}
use Rattle.std.specs.Ordering.{int_eq}
use Rattle.std.proofs.lemmas.Bool.Decides.{Decides-int_eq, nat_tests}
use Rattle.std.proofs.lemmas.Int.{ints}
use Rattle.std.proofs.lemmas.List.Elements.{All-append, All-cons, All-head, All-nil, All-tail, All-weaker}
use Rattle.std.proofs.lemmas.Nat.{div-mul-add}
use Rattle.book_accounts.specs.AccountRules.{is_placeholder_if_root, is_root}
use Rattle.book_accounts.specs.Order.{depth_first}
use Rattle.book_accounts.specs.Path.{path}
use Rattle.book_accounts.specs.declared.account.Account.{Account}
use Rattle.book_accounts.specs.declared.kind.AccountKind.{AccountKind}
use Rattle.book_accounts.specs.declared.kind.AccountKind.TheVariants as kind
use Rattle.book_accounts.proofs.AccountRuleLemmas.{by_name}
use Rattle.book_commodity.specs.Amount.{nearest, scaled, with_sign_of}
use Rattle.book_commodity.specs.Table.{value_of}
use Rattle.book_commodity.proofs.ListLemmas.{all_back, all_front}
use Rattle.book_ledger.specs.Ledger.{register_of}
use Rattle.book_prices.specs.Worth.{shown}
use Rattle.book_prices.specs.declared.valuation.Valuation.{Valuation}
use Rattle.book_prices.specs.declared.valuation.Valuation.TheVariants.{Amount, Over}
use Rattle.book_register.specs.Register.{balance}
use Rattle.book_register.specs.declared.entry.Entry.{Entry}
use Rattle.book_sound.proofs.OwnFrames.{all_of_each}
use Rattle.book_sound.proofs.SoundFacts.{transactions_balance}
use Rattle.book_sound.specs.Soundness.{IsSoundBook}
use Rattle.book_splits.specs.Balance.{splits_of, sum_of_values, total}
use Rattle.book_splits.specs.declared.split.Split.{Split}
use Rattle.book_splits.specs.declared.transaction.Txn.{Txn}
use Rattle.book_command.specs.Rates.{pair_rate, last_price, rate_on}
use Rattle.book_undo.specs.Book.{Book}
use Rattle.book_limits.specs.Limits.{largest_sum}
use Rattle.book_reports.specs.Measure.{commodity_of, fraction_of, is_in, rows_in, sum_in, worth, worth_by}
use Rattle.book_reports.specs.Sections.{amount_in, holds, is_turned, line_of, line_with, lines_of, signed_in, sum_of, turned}
use Rattle.book_reports.specs.Sheet.{IsClosed, IsInOneCurrency, until}
use Rattle.book_reports.specs.declared.lines.Line.{Line}
use Rattle.book_reports.specs.declared.period.Period.{Period}
use Rattle.book_reports.specs.declared.section.Section.{Section}
use Rattle.book_reports.specs.declared.section.Section.TheVariants.{Assets, Earnings, Equity, Liabilities}
use Rattle.book_reports.proofs.MeasureLemmas.{fraction_in_range}
use Rattle.book_reports.proofs.RowLemmas.{can_be_summed, period_small}
use Rattle.book_reports.proofs.SplitFacts.{FitsAccount, IsZeroVoided, accounts_are_listed, splits_fit, voided_are_zero}
use Rattle.book_reports.proofs.SumLemmas.{AllGiveUnvoided, GivesUnvoided, empty_or, total_of_registers, total_of_zeros}
use Rattle.book_reports.proofs.SumLemmas.{total_same, total_zero}

-- ---- an amount is worth itself in its own commodity

same_with_sign : (amount : ℤ) → with_sign_of amount (unsigned_abs amount) ≡ amount
same_with_sign (pos n) = refl
same_with_sign (negsuc n) = refl

nearest_itself : (size fraction : ℕ) → 1 ≤ fraction → nearest (size * 1 * fraction) (1 * fraction) ≡ size
nearest_itself size fraction some =
    let dividend : 2 * (size * 1 * fraction) + 1 * fraction ≡ size * (2 * fraction) + fraction = grind arith in
    let divisor : 2 * (1 * fraction) ≡ 2 * fraction = omega arith in
    ap (λ (n : ℕ). n / (2 * (1 * fraction))) dividend
    ∙ ap (λ (n : ℕ). (size * (2 * fraction) + fraction) / n) divisor
    ∙ div-mul-add size (2 * fraction) fraction (omega (arith, some))

scaled_itself : (amount : ℤ) (fraction : ℕ) → 1 ≤ fraction → scaled amount 1 1 fraction fraction ≡ amount
unfolding scaled
scaled_itself amount fraction some =
    ap (with_sign_of amount) (nearest_itself (unsigned_abs amount) fraction some) ∙ same_with_sign amount

self_equal : (n : ℕ) → (n == n) ≡ true
self_equal n = grind (arith, nat_tests)

small_shown : (amount : ℤ) → unsigned_abs amount ≤ largest_sum → shown amount ≡ Amount amount
small_shown amount small =
    let fits : nat_le (unsigned_abs amount) (10 ^ 30) ≡ true = grind (arith, nat_tests, small) in
    ap (λ (t : Bool). if t then Amount amount else Over) fits

own_worth :
    (book : Book) (day : ℤ) (commodity : ℕ) (amount : ℤ) → IsSoundBook book → commodity ≡ book.currency
    → unsigned_abs amount ≤ largest_sum → worth book day commodity amount ≡ Amount amount
unfolding worth
own_worth book day commodity amount is own small =
    let c = book.currency in
    let fraction = fraction_of book.commodities c in
    let in_itself : worth_by amount (rate_on book.prices c c day) fraction fraction ≡ Amount amount =
    ap (λ (t : Bool). worth_by amount (if t then Some (record { num = 1; denom = 1 })
    else pair_rate (last_price book.prices c c day) (last_price book.prices c c day)) fraction fraction) (self_equal c)
    ∙ ap shown (scaled_itself amount fraction (fraction_in_range book c is).0)
    ∙ small_shown amount small in
    let Here : Bool → Type 0 = λ t. int_eq amount (pos 0) ≡ t
    → (if t then Amount (pos 0) else worth_by amount (rate_on book.prices commodity c day)
    (fraction_of book.commodities commodity) fraction) ≡ Amount amount in
    elim (int_eq amount (pos 0)) as Here [
      | true ↦ λ zeros. ap Amount (sym ((Decides-int_eq amount (pos 0)).0 zeros))
      | false ↦ λ some. ap (λ (n : ℕ). worth_by amount (rate_on book.prices n c day)
          (fraction_of book.commodities n) fraction) own ∙ in_itself
    ] refl

-- ---- what an account adds to the sum of a section

abbrev share_of : Option Line → ℤ
share_of line = option_map_or (λ l. amount_in l.worth) line (pos 0)

sum_with :
    (line : Option Line) (lines : List Line) (more : ℤ) → total (map (λ (l : Line). amount_in l.worth) lines) ≡ more
    → total (map (λ (l : Line). amount_in l.worth) (cons_option line lines)) ≡ share_of line +ℤ more
sum_with None lines more same = same ∙ sym (+ℤ_idl more)
sum_with (Some l) lines more same = ap (λ (z : ℤ). amount_in l.worth +ℤ z) same

sum_is :
    (h : ℕ → Option Line) (order : List ℕ) → sum_of (filter_map h order) ≡ total (map (λ (a : ℕ). share_of (h a)) order)
unfolding sum_of
sum_is h [] = refl
sum_is h (a ∷ order) =
    sum_with (h a) (filter_map h order) (total (map (λ (b : ℕ). share_of (h b)) order)) (sum_is h order)

-- the amount with the sign of a section, where the section holds the kind
abbrev part_in : Section → AccountKind → ℤ → ℤ
part_in section kind sum = if holds section kind then (if is_turned section then neg_ℤ sum else sum) else pos 0

-- of an amount that is worth itself
share_with :
    (section : Section) (name : List ℕ) (kind : AccountKind) (sum : ℤ) (worths : Valuation) → worths ≡ Amount sum
    → share_of (if holds section kind && not (int_eq sum (pos 0))
    then Some (record { path = name; worth = signed_in section worths }) else None) ≡ part_in section kind sum
share_with section name kind sum worths is =
    let line : Valuation → Line = λ w. record { path = name; worth = signed_in section w } in
    let zeros = (Decides-int_eq sum (pos 0)).0 in
    let turned_zero : sum ≡ pos 0 → (if is_turned section then neg_ℤ sum else sum) ≡ pos 0 = λ none.
    ap (λ (z : ℤ). if is_turned section then neg_ℤ z else z) none ∙ elim (is_turned section) as
    (λ b. (if b then neg_ℤ (pos 0) else pos 0) ≡ pos 0) [ true ↦ refl | false ↦ refl ] in
    let shown_is : amount_in (signed_in section worths) ≡ (if is_turned section then neg_ℤ sum else sum) =
    ap (λ (w : Valuation). amount_in (signed_in section w)) is ∙ elim (is_turned section) as
    (λ b. amount_in (if b then turned (Amount sum) else Amount sum) ≡ (if b then neg_ℤ sum else sum)) [
      | true ↦ refl
      | false ↦ refl
    ] in
    let Here : Bool → Type 0 = λ t. int_eq sum (pos 0) ≡ t
    → share_of (if not t then Some (line worths) else None) ≡ (if is_turned section then neg_ℤ sum else sum) in
    elim (holds section kind) as
    (λ b. share_of (if b && not (int_eq sum (pos 0)) then Some (line worths) else None)
    ≡ (if b then (if is_turned section then neg_ℤ sum else sum) else pos 0)) [
      | true ↦ elim (int_eq sum (pos 0)) as Here [
        | true ↦ λ none. sym (turned_zero (zeros none))
        | false ↦ λ some. shown_is
      ] refl
      | false ↦ refl
    ]

-- nothing of a sum of zero
share_none :
    (book : Book) (period : Period) (section : Section) (number : ℕ) (o : Option Account)
    → sum_in book period number ≡ pos 0 → share_of (line_with book period section number o) ≡ pos 0
share_none book period section number None none = refl
share_none book period section number (Some account) none =
    let sum = sum_in book period number in
    let zeros : int_eq sum (pos 0) ≡ true = (Decides-int_eq sum (pos 0)).1 none in
    let line : Line = record {
      path = path book.accounts number;
      worth = signed_in section (worth book period.to account.commodity sum);
    } in
    ap (λ (t : Bool). share_of (if holds section account.kind && not t then Some line else None)) zeros
    ∙ elim (holds section account.kind) as (λ b. share_of (if b && false then Some line else None) ≡ pos 0) [
      | true ↦ refl
      | false ↦ refl
    ]

-- each kind but the root's is in one section
parts_meet :
    (kind : AccountKind) (sum : ℤ) → is_root kind ≡ false
    → part_in Assets kind sum
    ≡ part_in Liabilities kind sum +ℤ part_in Equity kind sum +ℤ part_in Earnings kind sum +ℤ sum
parts_meet kind.Root sum other = absurd cc
parts_meet kind.Asset sum other = omega (arith, ints)
parts_meet kind.Bank sum other = omega (arith, ints)
parts_meet kind.Cash sum other = omega (arith, ints)
parts_meet kind.Credit sum other = omega (arith, ints)
parts_meet kind.Liability sum other = omega (arith, ints)
parts_meet kind.Stock sum other = omega (arith, ints)
parts_meet kind.Mutual sum other = omega (arith, ints)
parts_meet kind.Receivable sum other = omega (arith, ints)
parts_meet kind.Payable sum other = omega (arith, ints)
parts_meet kind.Income sum other = omega (arith, ints)
parts_meet kind.Expense sum other = omega (arith, ints)
parts_meet kind.Equity sum other = omega (arith, ints)

-- ---- accounts of a book that has but one currency

-- An account holds the currency of the book, and isn't the root.
pub record IsOwn (book : Book) (number : ℕ) : Type 0 where
  pub account : Account
  pub there : value_of number book.accounts ≡ Some account
  pub holds_own : account.commodity ≡ book.currency
  pub no_root : is_root account.kind ≡ false

not_root :
    (account : Account) → is_placeholder_if_root account ≡ true → account.placeholder ≡ false
    → is_root account.kind ≡ false
not_root account rule takes = grind (arith, nat_tests, rule, takes)

-- the account of a split
own_of_split :
    (book : Book) → IsSoundBook book → (currency : ℕ) (split : Split) → FitsAccount book.accounts currency split
    → commodity_of book split.account ≡ book.currency → IsOwn book split.account
own_of_split book is currency split fits holds = record {
  account = fits.account;
  there = fits.there;
  holds_own = sym (ap (λ (o : Option Account). option_map_or (λ (a : Account). a.commodity) o 0) fits.there) ∙ holds;
  no_root = not_root fits.account (by_name book.commodities book.accounts split.account fits.account
      (is.accounts.keep.each split.account fits.account fits.there)).placeholder fits.open_for;
}

-- What accounts add to the sections: nothing where they have no rows.
shares_meet :
    (book : Book) (period : Period) → IsSoundBook book → (number : ℕ)
    → (register_of number book.transactions ≡ []) ⊎ IsOwn book number
    → share_of (line_of book period Assets number)
    ≡ share_of (line_of book period Liabilities number) +ℤ share_of (line_of book period Equity number)
    +ℤ share_of (line_of book period Earnings number) +ℤ sum_in book period number
unfolding line_of sum_in
shares_meet book period is number (inl empty) =
    let none : balance (rows_in period (register_of number book.transactions)) ≡ pos 0 =
    ap (λ (rows : List Entry). balance (rows_in period rows)) empty in
    let share = λ (section : Section). share_none book period section number (value_of number book.accounts) none in
    let a = share Assets in
    let l = share Liabilities in
    let q = share Equity in
    let e = share Earnings in
    omega (arith, ints, a, l, q, e, none)
shares_meet book period is number (inr own) =
    let sum = balance (rows_in period (register_of number book.transactions)) in
    let worths = own_worth book period.to own.account.commodity sum is own.holds_own
    (period_small period (register_of number book.transactions) (can_be_summed book number is)) in
    let share : (section : Section) → share_of (line_with book period section number (value_of number book.accounts))
    ≡ part_in section own.account.kind sum = λ section.
    ap (λ (o : Option Account). share_of (line_with book period section number o)) own.there
    ∙ share_with section (path book.accounts number) own.account.kind sum
    (worth book period.to own.account.commodity sum) worths in
    let a = share Assets in
    let l = share Liabilities in
    let q = share Equity in
    let e = share Earnings in
    let meet = parts_meet own.account.kind sum own.no_root in
    omega (arith, ints, a, l, q, e, meet)

-- so do those of all
all_meet :
    (book : Book) (period : Period) → IsSoundBook book
    → ((number : ℕ) → (register_of number book.transactions ≡ []) ⊎ IsOwn book number) → (order : List ℕ)
    → total (map (λ (a : ℕ). share_of (line_of book period Assets a)) order)
    ≡ total (map (λ (a : ℕ). share_of (line_of book period Liabilities a)) order)
    +ℤ total (map (λ (a : ℕ). share_of (line_of book period Equity a)) order)
    +ℤ total (map (λ (a : ℕ). share_of (line_of book period Earnings a)) order)
    +ℤ total (map (sum_in book period) order)
all_meet book period is each [] = refl
all_meet book period is each (a ∷ order) =
    let first = shares_meet book period is a (each a) in
    let rest = all_meet book period is each order in
    omega (arith, ints, first, rest)

-- ---- what all accounts hold

abbrev quantity_of : Period → Entry → ℤ
quantity_of period row = if is_in period row.day then row.quantity else pos 0

quantity_total :
    (period : Period) (rows : List Entry) → balance (rows_in period rows) ≡ total (map (quantity_of period) rows)
quantity_total period [] = refl
quantity_total period (row ∷ rows) =
    let more = quantity_total period rows in
    elim (is_in period row.day) as
    (λ b. balance (if b then row ∷ rows_in period rows else rows_in period rows)
    ≡ (if b then row.quantity else pos 0) +ℤ total (map (quantity_of period) rows)) [
      | true ↦ omega (arith, ints, more)
      | false ↦ omega (arith, ints, more)
    ]

abbrev quantity_given : Period → Txn → Split → ℤ
quantity_given period t split = if is_in period t.day then split.quantity else pos 0

-- splits whose quantities are their values
quantities_are_values :
    (splits : List Split) → All (λ (s : Split). s.value ≡ s.quantity) splits
    → total (map (λ (s : Split). s.quantity) splits) ≡ sum_of_values splits
quantities_are_values [] all = refl
quantities_are_values (split ∷ more) all =
    let Same : Split → Type 0 = λ s. s.value ≡ s.quantity in
    let first = All-head Same split more all in
    let rest = quantities_are_values more (All-tail Same split more all) in
    omega (arith, ints, first, rest)

given_none :
    (period : Period) (t : Txn) → All (λ (s : Split). s.value ≡ s.quantity) t.splits → sum_of_values t.splits ≡ pos 0
    → total (map (quantity_given period t) t.splits) ≡ pos 0
given_none period t same balanced =
    elim (is_in period t.day) as
    (λ b. total (map (λ (s : Split). if b then s.quantity else pos 0) t.splits) ≡ pos 0) [
      | true ↦ quantities_are_values t.splits same ∙ balanced
      | false ↦ total_zero t.splits
    ]

-- a split without a quantity gives nothing
quantity_none :
    (period : Period) (t : Txn) (split : Split) → split.quantity ≡ pos 0 → quantity_given period t split ≡ pos 0
quantity_none period t split none =
    elim (is_in period t.day) as (λ b. (if b then split.quantity else pos 0) ≡ pos 0) [
      | true ↦ none
      | false ↦ refl
    ]

-- The value of each split is its quantity.
abbrev AreSame : List Split → Type 0
AreSame splits = All (λ (s : Split). s.value ≡ s.quantity) splits

abbrev HoldsOwn : Book → Split → Type 0
HoldsOwn book split = commodity_of book split.account ≡ book.currency

same_in_one :
    (book : Book) (currency : ℕ) (splits : List Split) → currency ≡ book.currency
    → All (FitsAccount book.accounts currency) splits → All (HoldsOwn book) splits → AreSame splits
same_in_one book currency [] own fit holds = All-nil (λ (s : Split). s.value ≡ s.quantity)
same_in_one book currency (split ∷ more) own fit holds =
    let fits = All-head (FitsAccount book.accounts currency) split more fit in
    let held = All-head (HoldsOwn book) split more holds in
    let commodity : fits.account.commodity ≡ currency =
    sym (ap (λ (o : Option Account). option_map_or (λ (a : Account). a.commodity) o 0) fits.there) ∙ held ∙ sym own in
    All-cons (λ (s : Split). s.value ≡ s.quantity) split more (fits.same commodity)
    (same_in_one book currency more own (All-tail (FitsAccount book.accounts currency) split more fit)
    (All-tail (HoldsOwn book) split more holds))

-- The quantities of each transaction add up to nothing.
quantities_none :
    (book : Book) (period : Period) (ts : List (ℕ × Txn))
    → All (λ (e : ℕ × Txn). All (FitsAccount book.accounts e.1.currency) e.1.splits) ts
    → All (λ (e : ℕ × Txn). e.1.currency ≡ book.currency) ts → All (HoldsOwn book) (splits_of ts)
    → All (λ (e : ℕ × Txn). sum_of_values e.1.splits ≡ pos 0) ts
    → All (λ (e : ℕ × Txn). total (map (quantity_given period e.1) e.1.splits) ≡ pos 0) ts
quantities_none book period [] fit own holds balance =
    All-nil (λ (e : ℕ × Txn). total (map (quantity_given period e.1) e.1.splits) ≡ pos 0)
quantities_none book period (e ∷ ts) fit own holds balance =
    let Fit : ℕ × Txn → Type 0 = λ x. All (FitsAccount book.accounts x.1.currency) x.1.splits in
    let Own : ℕ × Txn → Type 0 = λ x. x.1.currency ≡ book.currency in
    let Balanced : ℕ × Txn → Type 0 = λ x. sum_of_values x.1.splits ≡ pos 0 in
    All-cons (λ (x : ℕ × Txn). total (map (quantity_given period x.1) x.1.splits) ≡ pos 0) e ts
    (given_none period e.1 (same_in_one book e.1.currency e.1.splits (All-head Own e ts own) (All-head Fit e ts fit)
    (all_front (HoldsOwn book) e.1.splits (splits_of ts) holds)) (All-head Balanced e ts balance))
    (quantities_none book period ts (All-tail Fit e ts fit) (All-tail Own e ts own)
    (all_back (HoldsOwn book) e.1.splits (splits_of ts) holds) (All-tail Balanced e ts balance))

-- What the accounts hold adds up to nothing.
quantities_cancel :
    (book : Book) (period : Period) → IsSoundBook book → IsInOneCurrency book
    → total (map (sum_in book period) (depth_first book.accounts)) ≡ pos 0
unfolding sum_in
quantities_cancel book period is one =
    total_same (λ (a : ℕ). balance (rows_in period (register_of a book.transactions)))
    (λ (a : ℕ). total (map (quantity_of period) (register_of a book.transactions)))
    (λ a. quantity_total period (register_of a book.transactions)) (depth_first book.accounts)
    ∙ total_of_registers (quantity_of period) (quantity_given period) (λ n t place split. refl)
    (depth_first book.accounts) book.transactions (accounts_are_listed book is)
    (all_of_each (AllGiveUnvoided (quantity_given period)) book.transactions is.transactions.rise
    (λ n t there.
    All-weaker IsZeroVoided (GivesUnvoided (quantity_given period) t)
    (λ split zero voided. quantity_none period t split (zero voided).1) t.splits (voided_are_zero book n t is there)))
    ∙ total_of_zeros (quantity_given period) book.transactions
    (quantities_none book period book.transactions (splits_fit book is) one.transactions one.accounts
    (all_of_each (λ (e : ℕ × Txn). sum_of_values e.1.splits ≡ pos 0) book.transactions is.transactions.rise
    (λ n t there. (transactions_balance book n t is there).balanced)))

own_of_all :
    (book : Book) (ts : List (ℕ × Txn)) → IsSoundBook book
    → All (λ (e : ℕ × Txn). All (FitsAccount book.accounts e.1.currency) e.1.splits) ts
    → All (HoldsOwn book) (splits_of ts) → All (λ (s : Split). IsOwn book s.account) (splits_of ts)
own_of_all book [] is fit holds = All-nil (λ (s : Split). IsOwn book s.account)
own_of_all book (e ∷ ts) is fit holds =
    let Fit : ℕ × Txn → Type 0 = λ x. All (FitsAccount book.accounts x.1.currency) x.1.splits in
    All-append (λ (s : Split). IsOwn book s.account) e.1.splits (splits_of ts)
    (own_of_these e.1.splits (All-head Fit e ts fit) (all_front (HoldsOwn book) e.1.splits (splits_of ts) holds))
    (own_of_all book ts is (All-tail Fit e ts fit) (all_back (HoldsOwn book) e.1.splits (splits_of ts) holds))
  where
    own_of_these :
        (splits : List Split) → All (FitsAccount book.accounts e.1.currency) splits → All (HoldsOwn book) splits
        → All (λ (s : Split). IsOwn book s.account) splits
    own_of_these [] fits own = All-nil (λ (s : Split). IsOwn book s.account)
    own_of_these (split ∷ more) fits own =
        let Fits : Split → Type 0 = FitsAccount book.accounts e.1.currency in
        All-cons (λ (s : Split). IsOwn book s.account) split more
        (own_of_split book is e.1.currency split (All-head Fits split more fits)
        (All-head (HoldsOwn book) split more own))
        (own_of_these more (All-tail Fits split more fits) (All-tail (HoldsOwn book) split more own))

-- So no gains are unbooked.
pub sheet_is_closed : (book : Book) (day : ℤ) → IsSoundBook book → IsClosed book day
unfolding lines_of
sheet_is_closed book day is one =
    let period = until day in
    let order = depth_first book.accounts in
    let owned = own_of_all book book.transactions is (splits_fit book is) one.accounts in
    let meet = all_meet book period is (λ n. empty_or (IsOwn book) n book.transactions owned) order in
    let none = quantities_cancel book period is one in
    let a = sum_is (line_of book period Assets) order in
    let l = sum_is (line_of book period Liabilities) order in
    let q = sum_is (line_of book period Equity) order in
    let e = sum_is (line_of book period Earnings) order in
    omega (arith, ints, meet, none, a, l, q, e)

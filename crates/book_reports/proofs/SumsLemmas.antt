-- The sums by currency that are kept while the rows are read are those of the rows read so far.
use Rattle.std.proofs.Common.{◌≡◌, ℕ, ◌+◌, ◌≤◌, ◌==◌, ℤ, pos, ◌+ℤ◌, unsigned_abs, Bool, true, false, if◌then◌else◌}
use Rattle.std.proofs.Common.{List, [], ◌∷◌, ◌++◌, ◌<◌, length, get_or, All, take, map, slice_get, Option, Some, IsSome, refl, sym, ap, subst, ◌∙◌, arith}
use Rattle.std.proofs.lemmas.Bool.{eqb-true}
use Rattle.std.proofs.lemmas.Bool.Decides.{nat_tests}
use Rattle.std.proofs.lemmas.Int.{ints}
use Rattle.std.proofs.lemmas.List.Elements.{All-append, All-cons, All-head, All-nil, All-tail}
use Rattle.std.proofs.lemmas.List.{map-append, take_more}
use Rattle.std.specs.List.{cons_option, filter_map}
use Rattle.std.specs.Option.{unwrap_or}
use Rattle.book_accounts.specs.Path.{path}
use Rattle.book_commodity.specs.Table.{value_of, with_entry}
use Rattle.book_commodity.proofs.TableLemmas.{value_of_with}
use Rattle.book_ledger.specs.Ledger.{register_of}
use Rattle.book_register.specs.declared.entry.Entry.{Entry}
use Rattle.book_sound.specs.Soundness.{IsSoundBook}
use Rattle.book_undo.specs.Book.{Book}
use Rattle.book_limits.specs.Limits.{largest_sum}
use Rattle.book_reports.specs.Measure.{CanBeSummed, is_in, rows_in, value_in, value_of_rows}
use Rattle.book_reports.specs.Sheet.{until}
use Rattle.book_reports.specs.Sums.{AreSums, IsAdded, IsSummed, line_by, sum_at}
use Rattle.book_reports.specs.Trial.{line_of, line_with}
use Rattle.book_reports.specs.declared.period.Period.{Period}
use Rattle.book_reports.specs.declared.sums.AccountSums.{AccountSums}
use Rattle.book_reports.specs.declared.trial_balance.TrialLine.{TrialLine}
use Rattle.book_reports.proofs.RowLemmas.{currency_small, first_can_be_summed, value_next, value_small}

-- what is put under a currency is added to what stood there
pub added_by :
    (currency : ℕ) (value sum : ℤ) (old new : List (ℕ × ℤ)) → new ≡ with_entry currency sum old
    → sum ≡ sum_at currency old +ℤ value → IsAdded currency value old new
added_by currency value sum old new is same = record {
  each = λ other.
      ap (λ (o : Option ℤ). unwrap_or o (pos 0)) (ap (value_of other) is ∙ value_of_with other currency sum old)
      ∙ by other (other == currency) (currency == other) refl refl;
}
  where
    by :
        (other : ℕ) (s t : Bool) → (other == currency) ≡ s → (currency == other) ≡ t
        → unwrap_or (if s then Some sum else value_of other old) (pos 0)
        ≡ sum_at other old +ℤ (if t then value else pos 0)
    by other true true one two =
        same ∙ ap (λ (n : ℕ). sum_at n old +ℤ value) (eqb-true currency other two)
    by other true false one two = absurd (let equal = eqb-true other currency one in
        let turned : (currency == other) ≡ true = grind (arith, nat_tests, equal) in cc)
    by other false true one two = absurd (let equal = eqb-true currency other two in
        let turned : (other == currency) ≡ true = grind (arith, nat_tests, equal) in cc)
    by other false false one two = omega (arith, ints)

pub sums_none : AreSums [] []
sums_none = record { each = λ currency. refl }

-- the value of a row in a period; nothing of another row
abbrev pub value_inside : Period → Entry → ℤ
value_inside period row = if is_in period row.day then row.value else pos 0

swapped :
    (a b : Bool) (z : ℤ)
    → (if a then (if b then z else pos 0) else pos 0) ≡ (if b then (if a then z else pos 0) else pos 0)
swapped true true z = refl
swapped true false z = refl
swapped false true z = refl
swapped false false z = refl

-- the value of the next row is added
pub sums_next :
    (period : Period) (rows : List Entry) (i : ℕ) (row : Entry) (value : ℤ) (old new : List (ℕ × ℤ))
    → slice_get rows i ≡ Some row → AreSums (rows_in period (take i rows)) old → IsAdded row.currency value old new
    → value ≡ value_inside period row → AreSums (rows_in period (take (i + 1) rows)) new
sums_next period rows i row value old new there sums added same = record {
  each = λ currency.
      let is = added.each currency ∙ ap (λ (z : ℤ). sum_at currency old +ℤ (if row.currency == currency then z else pos 0)) same in
      let before = sums.each currency in
      let next = value_next period currency rows i row there in
      let amount = swapped (is_in period row.day) (row.currency == currency) row.value in
      omega (arith, ints, is, before, next, amount);
}

-- the sums stay small
pub sums_small :
    (period : Period) (rows : List Entry) (i : ℕ) (sums : List (ℕ × ℤ)) (currency : ℕ) → CanBeSummed rows
    → AreSums (rows_in period (take i rows)) sums → unsigned_abs (sum_at currency sums) ≤ largest_sum
sums_small period rows i sums currency can are =
    subst (λ (z : ℤ). unsigned_abs z ≤ largest_sum) (sym (are.each currency))
    (currency_small period currency (take i rows) (first_can_be_summed rows i can))

-- the lines by the sums are those of the accounts
pub lines_by_sums :
    (book : Book) (day : ℤ) (currency : ℕ) (all : List AccountSums) → All (IsSummed book (until day)) all
    → filter_map (line_by book currency) all
    ≡ filter_map (line_of book day currency) (map (λ (s : AccountSums). s.account) all)
lines_by_sums book day currency [] summed = refl
lines_by_sums book day currency (s ∷ all) summed =
    let Summed : AccountSums → Type 0 = IsSummed book (until day) in
    let first = (All-head Summed s all summed).each currency in
    let rest = lines_by_sums book day currency all (All-tail Summed s all summed) in
    ap (λ (z : ℤ). cons_option (line_with (path book.accounts s.account) z)
    (filter_map (line_by book currency) all))
    first
    ∙ ap (λ (l : List TrialLine). cons_option (line_of book day currency s.account) l) rest

-- the sums of a register are those of its account
pub summed_by :
    (book : Book) (period : Period) (account : ℕ) (rows : List Entry) (sums : AccountSums) → IsSoundBook book
    → IsSome (value_of account book.accounts) → rows ≡ register_of account book.transactions → sums.account ≡ account
    → AreSums (rows_in period rows) sums.by_currency.entries → IsSummed book period sums
unfolding value_in
summed_by book period account rows sums sound there same own are = record {
  there = subst (λ (n : ℕ). IsSome (value_of n book.accounts)) (sym own) there;
  small = λ currency. subst (λ (z : ℤ). unsigned_abs z ≤ largest_sum) (sym (is currency))
      (value_small book period currency sums.account sound);
  each = λ currency. is currency;
}
  where
    is : (currency : ℕ) → sum_at currency sums.by_currency.entries ≡ value_in book period currency sums.account
    is currency =
        are.each currency ∙ ap (λ (l : List Entry). value_of_rows currency (rows_in period l)) same
        ∙ ap (λ (n : ℕ). value_of_rows currency (rows_in period (register_of n book.transactions))) (sym own)

-- one account more, and its sums
pub listed_more :
    (all new : List AccountSums) (s : AccountSums) (order : List ℕ) (i : ℕ) → new ≡ all ++ s ∷ []
    → map (λ (x : AccountSums). x.account) all ≡ take i order → i < length order → s.account ≡ get_or order i 0
    → map (λ (x : AccountSums). x.account) new ≡ take (i + 1) order
listed_more all new s order i added same lt own =
    ap (map (λ (x : AccountSums). x.account)) added
    ∙ map-append (λ (x : AccountSums). x.account) all (s ∷ [])
    ∙ ap (λ (l : List ℕ). l ++ s.account ∷ []) same
    ∙ ap (λ (n : ℕ). take i order ++ n ∷ []) own
    ∙ sym (take_more order i 0 lt)

pub summed_more :
    (P : AccountSums → Type 0) (all new : List AccountSums) (s : AccountSums) → new ≡ all ++ s ∷ [] → All P all → P s
    → All P new
summed_more P all new s added before last =
    subst (All P) (sym added) (All-append P all (s ∷ []) before (All-cons P s [] last (All-nil P)))

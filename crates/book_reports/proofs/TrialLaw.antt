-- In a trial balance of a sound book the debits add up to the same as the credits: the values of each transaction sum
-- to zero.
use Rattle.std.proofs.Common.{◌≡◌, ℕ, zero, suc, ◌==◌, ℤ, pos, negsuc, neg_ℤ, ◌+ℤ◌, int_lt, Bool, true, false, if◌then◌else◌}
use Rattle.std.proofs.Common.{List, [], ◌∷◌, map, filter, Some, None, refl, ap, ◌∙◌, arith}
use Rattle.std.proofs.Math.IntN.{+ℤ_idr}
use Rattle.std.specs.List.{cons_option, filter_map}
use Rattle.std.specs.Ordering.{int_eq}
use Rattle.std.proofs.lemmas.Bool.Decides.{Decides-int_eq, nat_tests}
use Rattle.std.proofs.lemmas.Int.{ints}
use Rattle.std.proofs.lemmas.List.Elements.{All-weaker}
use Rattle.book_accounts.specs.Order.{depth_first}
use Rattle.book_accounts.specs.Path.{path}
use Rattle.book_ledger.specs.Ledger.{register_of}
use Rattle.book_register.specs.declared.entry.Entry.{Entry}
use Rattle.book_sound.proofs.OwnFrames.{all_of_each}
use Rattle.book_sound.proofs.SoundFacts.{transactions_balance}
use Rattle.book_sound.specs.Soundness.{IsSoundBook}
use Rattle.book_splits.specs.Balance.{sum_of_values, total}
use Rattle.book_splits.specs.declared.split.Split.{Split}
use Rattle.book_splits.specs.declared.transaction.Txn.{Txn}
use Rattle.book_undo.specs.Book.{Book}
use Rattle.book_reports.specs.Measure.{is_in, rows_in, value_in, value_of_rows}
use Rattle.book_reports.specs.Sheet.{until}
use Rattle.book_reports.specs.Trial.{IsBalanced, credits, debits, line_of, lines_of, positive}
use Rattle.book_reports.specs.declared.period.Period.{Period}
use Rattle.book_reports.specs.declared.trial_balance.TrialLine.{TrialLine}
use Rattle.book_reports.proofs.RowLemmas.{amount_of}
use Rattle.book_reports.proofs.SplitFacts.{IsZeroVoided, accounts_are_listed, voided_are_zero}
use Rattle.book_reports.proofs.SumLemmas.{AllGiveUnvoided, GivesUnvoided, total_of_registers, total_of_zeros, total_same, total_zero}

positive_suc : (n : ℕ) → positive (pos (suc n)) ≡ pos (suc n)
positive_suc n =
    let test : int_lt (pos 0) (pos (suc n)) ≡ true = grind (arith, ints, nat_tests) in
    ap (λ (t : Bool). if t then pos (suc n) else pos 0) test

-- what is on one side less what is on the other is the amount
sides_of : (sum : ℤ) → positive sum ≡ positive (neg_ℤ sum) +ℤ sum
sides_of (pos zero) = refl
sides_of (pos (suc n)) = let is = positive_suc n in omega (arith, ints, is)
sides_of (negsuc n) = let is = positive_suc n in omega (arith, ints, is)

with_line :
    (path : List ℕ) (sum more : ℤ) (rest : List TrialLine) (t : Bool) → int_eq sum (pos 0) ≡ t
    → total (map (λ (l : TrialLine). l.debit) rest) ≡ total (map (λ (l : TrialLine). l.credit) rest) +ℤ more
    → total (map (λ (l : TrialLine). l.debit) (cons_option (if t then None else Some (record { path = path; debit = positive sum; credit = positive (neg_ℤ sum) })) rest))
    ≡ total (map (λ (l : TrialLine). l.credit) (cons_option (if t then None else Some (record { path = path; debit = positive sum; credit = positive (neg_ℤ sum) })) rest))
    +ℤ (sum +ℤ more)
with_line path sum more rest true is same =
    let none : sum ≡ pos 0 = (Decides-int_eq sum (pos 0)).0 is in omega (arith, ints, same, none)
with_line path sum more rest false is same = omega (arith, ints, same, sides_of sum)

-- so the debits are the credits and what the accounts change by
debits_are :
    (book : Book) (day : ℤ) (currency : ℕ) (order : List ℕ)
    → debits (filter_map (line_of book day currency) order)
    ≡ credits (filter_map (line_of book day currency) order) +ℤ total (map (value_in book (until day) currency) order)
unfolding debits credits
debits_are book day currency [] = refl
debits_are book day currency (a ∷ order) =
    let sum = value_in book (until day) currency a in
    with_line (path book.accounts a) sum (total (map (value_in book (until day) currency) order))
    (filter_map (line_of book day currency) order) (int_eq sum (pos 0)) refl (debits_are book day currency order)

-- the sum of the values of rows in a period and a currency, row by row
value_total :
    (period : Period) (currency : ℕ) (rows : List Entry)
    → value_of_rows currency (rows_in period rows) ≡ total (map (amount_of period currency) rows)
value_total period currency [] = refl
value_total period currency (row ∷ rows) =
    let more = value_total period currency rows in
    let picked = rows_in period rows in
    let test = λ (r : Entry). r.currency == currency in
    elim (is_in period row.day) as
    (λ b. value_of_rows currency (if b then row ∷ picked else picked)
    ≡ (if b then (if row.currency == currency then row.value else pos 0) else pos 0)
    +ℤ total (map (amount_of period currency) rows)) [
      | true ↦ elim (row.currency == currency) as
          (λ b. total (map (λ (r : Entry). r.value) (if b then row ∷ filter test picked else filter test picked))
          ≡ (if b then row.value else pos 0) +ℤ total (map (amount_of period currency) rows)) [
            | true ↦ omega (arith, ints, more)
            | false ↦ omega (arith, ints, more)
          ]
      | false ↦ omega (arith, ints, more)
    ]

-- what a split gives to the values of a period in a currency
abbrev value_given : Period → ℕ → Txn → Split → ℤ
value_given period currency t split =
    if is_in period t.day then (if t.currency == currency then split.value else pos 0) else pos 0

given_none : (period : Period) (currency : ℕ) (t : Txn) → sum_of_values t.splits ≡ pos 0
    → total (map (value_given period currency t) t.splits) ≡ pos 0
given_none period currency t balanced =
    elim (is_in period t.day) as
    (λ b. total (map (λ (s : Split). if b then (if t.currency == currency then s.value else pos 0) else pos 0) t.splits)
    ≡ pos 0) [
      | true ↦ elim (t.currency == currency) as
          (λ b. total (map (λ (s : Split). if b then s.value else pos 0) t.splits) ≡ pos 0) [
            | true ↦ balanced
            | false ↦ total_zero t.splits
          ]
      | false ↦ total_zero t.splits
    ]

-- a split without a value gives nothing
value_none :
    (period : Period) (currency : ℕ) (t : Txn) (split : Split) → split.value ≡ pos 0
    → value_given period currency t split ≡ pos 0
value_none period currency t split none =
    elim (is_in period t.day) as
    (λ b. (if b then (if t.currency == currency then split.value else pos 0) else pos 0) ≡ pos 0) [
      | true ↦ elim (t.currency == currency) as (λ b. (if b then split.value else pos 0) ≡ pos 0) [
        | true ↦ none
        | false ↦ refl
      ]
      | false ↦ refl
    ]

-- What the accounts change by in a period in one currency adds up to nothing.
values_cancel :
    (book : Book) (period : Period) (currency : ℕ) → IsSoundBook book
    → total (map (value_in book period currency) (depth_first book.accounts)) ≡ pos 0
unfolding value_in
values_cancel book period currency is =
    total_same (λ (a : ℕ). value_of_rows currency (rows_in period (register_of a book.transactions)))
    (λ (a : ℕ). total (map (amount_of period currency) (register_of a book.transactions)))
    (λ a. value_total period currency (register_of a book.transactions)) (depth_first book.accounts)
    ∙ total_of_registers (amount_of period currency) (value_given period currency) (λ n t place split. refl)
    (depth_first book.accounts) book.transactions (accounts_are_listed book is)
    (all_of_each (AllGiveUnvoided (value_given period currency)) book.transactions is.transactions.rise
    (λ n t there.
    All-weaker IsZeroVoided (GivesUnvoided (value_given period currency) t)
    (λ split zero voided. value_none period currency t split (zero voided).0) t.splits
    (voided_are_zero book n t is there)))
    ∙ total_of_zeros (value_given period currency) book.transactions
    (all_of_each (λ (e : ℕ × Txn). total (map (value_given period currency e.1) e.1.splits) ≡ pos 0)
    book.transactions is.transactions.rise
    (λ n t there. given_none period currency t (transactions_balance book n t is there).balanced))

-- So the debits of each currency add up to the same as its credits.
pub trial_is_balanced : (book : Book) (day : ℤ) → IsSoundBook book → IsBalanced book day
unfolding lines_of
trial_is_balanced book day is currency =
    let order = depth_first book.accounts in
    debits_are book day currency order
    ∙ ap (λ (z : ℤ). credits (filter_map (line_of book day currency) order) +ℤ z)
    (values_cancel book (until day) currency is)
    ∙ +ℤ_idr (credits (filter_map (line_of book day currency) order))

-- Worked rows: salary and a market on two accounts, and the market moved to an earlier day; how many rows differ where
-- it is put, taken back, noted, voided and moved.
use Rattle.std.proofs.Common.{◌≡◌, ℕ, ◌-◌, ◌^◌, List, [], ◌∷◌, ℤ, pos, negsuc, None, map, refl}
use Rattle.book_register.specs.Register.{balance as sum_of}
use Rattle.book_register.specs.declared.entry.Entry.{Entry}
use Rattle.book_splits.specs.Balance.{balance}
use Rattle.book_splits.specs.declared.split.Mark.TheVariants.{New, Voided}
use Rattle.book_splits.specs.declared.split.Split.{Split}
use Rattle.book_splits.specs.declared.transaction.Txn.{Txn}
use Rattle.book_ledger.specs.Changes.{RisesBy, differing}
use Rattle.book_ledger.specs.Ledger.{register_of}
use Rattle.book_ledger.specs.Lots.{checkpoint_before, common}

abbrev split : ℕ → ℕ → ℤ → Split
split id account amount = record {
  id = id;
  account = account;
  memo = [];
  action = [];
  mark = New;
  recon = None;
  value = amount;
  quantity = amount;
}

abbrev transaction : ℤ → List Split → Txn
transaction day splits = record { currency = 1; day = day; num = []; description = []; splits = splits; voided = None }

abbrev salary : ℕ × Txn
salary = (5, transaction (pos 5) (split 6 3 (pos 250000) ∷ split 7 4 (negsuc 249999) ∷ []))

abbrev market : ℤ → Txn
market day = transaction day (split 21 6 (pos 5150) ∷ split 22 3 (negsuc 5149) ∷ [])

-- on day 5 a salary of 2,500.00 on account 3 from account 4, and on a day 51.50 from account 3 to account 6
abbrev book : ℤ → List (ℕ × Txn)
book day = salary ∷ (20, market day) ∷ []

-- each row's transaction and place
abbrev places : ℕ → List (ℕ × Txn) → List (ℕ × ℕ)
places account transactions = map (λ (row : Entry). (row.txn, row.place)) (register_of account transactions)

later_day : places 3 (book (pos 9)) ≡ (5, 0) ∷ (20, 1) ∷ []
later_day = refl

-- a transaction that moves to an earlier day stands in front
earlier_day : places 3 (book (pos 2)) ≡ (20, 1) ∷ (5, 0) ∷ []
earlier_day = refl

-- on one day the smaller number stands in front
same_day : places 3 (book (pos 5)) ≡ (5, 0) ∷ (20, 1) ∷ []
same_day = refl

-- the rows of other accounts don't stand there, and one without splits has none
other_account : places 6 (book (pos 9)) ≡ (20, 0) ∷ []
other_account = refl

no_splits : register_of 2 (book (pos 9)) ≡ []
no_splits = refl

sum_is_balance : sum_of (register_of 3 (book (pos 2))) ≡ balance (book (pos 2)) 3
sum_is_balance = refl

balance_is : balance (book (pos 2)) 3 ≡ pos 244850
balance_is = refl

-- the market with its splits voided
abbrev voided_market : ℤ → Txn
voided_market day =
    transaction day (map (λ (s : Split). record s { mark = Voided; value = pos 0; quantity = pos 0 }) (market day).splits)

-- a voided split has no row
voided_out : (register_of 6 (salary ∷ (20, voided_market (pos 9)) ∷ []) ≡ [])
    × (places 3 (salary ∷ (20, voided_market (pos 9)) ∷ []) ≡ (5, 0) ∷ [])
voided_out = (refl, refl)

-- ---- rows that differ
-- how many rows of an account differ between two lists of transactions
abbrev differ : ℕ → List (ℕ × Txn) → List (ℕ × Txn) → ℕ
differ account before after = differing (register_of account before) (register_of account after)

-- the market puts one row on each of its accounts, and none on another,
posted : (differ 3 (salary ∷ []) (book (pos 9)) ≡ 1) × (differ 6 (salary ∷ []) (book (pos 9)) ≡ 1)
posted = (refl, refl)

elsewhere : differ 4 (salary ∷ []) (book (pos 9)) ≡ 0
elsewhere = refl

-- where it is taken back one is taken out, and where it is made again one is put in
taken_back : (differ 3 (book (pos 9)) (salary ∷ []) ≡ 1) × (differ 6 (book (pos 9)) (salary ∷ []) ≡ 1)
taken_back = (refl, refl)

made_again : (differ 3 (salary ∷ []) (book (pos 9)) ≡ 1) × (differ 6 (salary ∷ []) (book (pos 9)) ≡ 1)
made_again = (refl, refl)

-- a note is in no row
noted : differ 3 (book (pos 9)) (salary ∷ (20, record (market (pos 9)) { description = 65 ∷ [] }) ∷ []) ≡ 0
noted = refl

-- where it is voided its rows are taken out
voided : (differ 3 (book (pos 9)) (salary ∷ (20, voided_market (pos 9)) ∷ []) ≡ 1)
    × (differ 6 (book (pos 9)) (salary ∷ (20, voided_market (pos 9)) ∷ []) ≡ 1)
voided = (refl, refl)

-- on another day the row is another
moved : (differ 3 (book (pos 9)) (book (pos 2)) ≡ 2) × (differ 6 (book (pos 9)) (book (pos 2)) ≡ 2)
moved = (refl, refl)

-- so after a post, an undo and a redo the changes of an account are one, two and three,
counted : RisesBy 1 0 1 × RisesBy 1 1 2 × RisesBy 1 2 3
counted = (refl, refl, refl)

-- a note leaves them, another day adds two, and at the last number they stay
counted_later : RisesBy 0 3 3 × RisesBy 2 3 5
counted_later = (refl, refl)

stays : RisesBy 2 (2 ^ 64 - 2) (2 ^ 64 - 1)
stays = refl

-- ---- lots that are left
-- a checkpoint comes after each 256 rows
checkpoints : (checkpoint_before 255 ≡ 0) × (checkpoint_before 300 ≡ 256) × (checkpoint_before 512 ≡ 512)
checkpoints = (refl, refl, refl)

-- a row behind the salary's leaves that in common, and one in front of it nothing
in_common : (common (register_of 3 (salary ∷ [])) (register_of 3 (book (pos 9))) ≡ 1)
    × (common (register_of 3 (book (pos 9))) (register_of 3 (book (pos 2))) ≡ 0)
in_common = (refl, refl)

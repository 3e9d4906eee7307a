-- The register of an account: what is found in it at a key, that it is in order, and its sum.
use Rattle.std.proofs.Common.{◌≡◌, ℕ, zero, suc, ◌+◌, ◌<◌, ◌==◌, ◌&&◌, not, Bool, true, false, cond, if◌then◌else◌}
use Rattle.std.proofs.Common.{List, [], ◌∷◌, ◌++◌, Option, Some, None, is_some, find, option_map, slice_get, refl}
use Rattle.std.proofs.Common.{sym, ap, ◌∙◌}
use Rattle.std.proofs.Common.{◌+ℤ◌, arith, map}
use Rattle.std.specs.Option.{option_and_then, option_or}
use Rattle.std.specs.Prelude.{filter}
use Rattle.std.proofs.Math.IntN.{+ℤ_assoc, +ℤ_idl}
use Rattle.std.proofs.lemmas.Bool.{eqb-true}
use Rattle.std.proofs.lemmas.Bool.Decides.{nat_tests}
use Rattle.book_commodity.specs.Table.{Rises, value_of}
use Rattle.book_commodity.proofs.TableLemmas.{above_value}
use Rattle.book_register.specs.Register.{IsSorted, RowKey, has_key, key_of}
use Rattle.book_ledger.specs.Page.{Page}
use Rattle.book_register.specs.Register as rows
use Rattle.book_register.specs.declared.entry.Entry.{Entry}
use Rattle.book_splits.specs.Balance.{balance, counts_on, quantity_on, splits_of, total}
use Rattle.book_splits.specs.TransactionRules.{is_voided}
use Rattle.book_splits.specs.declared.split.Split.{Split}
use Rattle.book_splits.specs.declared.transaction.Txn.{Txn}
use Rattle.book_splits.proofs.BalanceLemmas.{quantity_on-append}
use Rattle.book_undo.specs.Book.{Book}
use Rattle.book_ledger.specs.Change.{pick, placed, placed_split, row_in}
use Rattle.book_ledger.specs.Ledger.{Keeps, live_register, register_of, row_of, rows_at, rows_from, rows_in}
use Rattle.book_ledger.specs.Ledger.{rows_on}
use Rattle.book_ledger.proofs.FoundLemmas.{false_of, find_append, find_either, or_none, place_is, txn_is}
use Rattle.book_ledger.proofs.OrderLemmas.{AreApart, balance_sorted, found_sorted, sorted_sorted}

-- ---- the rows of one transaction
-- none stands at a place before the first
found_before :
    (account number : ℕ) (t : Txn) (key : RowKey) (place : ℕ) (splits : List Split) → key.place < place
    → find (has_key key) (rows_from account number t place splits) ≡ None
found_before account number t key place [] before = refl
found_before account number t key place (split ∷ more) before =
    let row = row_of number t place split in
    let other = false_of (has_key key row)
    (λ is. let same = place_is key row is in absurd (omega (arith, same, before))) in
    let rest = found_before account number t key (place + 1) more (omega (arith, before)) in
    find_either (has_key key) (counts_on account split) row (rows_from account number t (place + 1) more)
    ∙ fails (counts_on account split) (has_key key row) row _ other ∙ rest
  where
    fails :
        (s u : Bool) (x : Entry) (o : Option Entry) → u ≡ false → cond (s && u) (Some x) o ≡ o
    fails true u x o is = ap (λ b. cond b (Some x) o) is
    fails false u x o is = refl

-- none has the number of another transaction
found_other :
    (account number : ℕ) (t : Txn) (key : RowKey) (place : ℕ) (splits : List Split) → (key.txn ≡ number → ⊥)
    → find (has_key key) (rows_from account number t place splits) ≡ None
found_other account number t key place [] other = refl
found_other account number t key place (split ∷ more) other =
    let row = row_of number t place split in
    let none = false_of (has_key key row) (λ is. other (txn_is key row is)) in
    find_either (has_key key) (counts_on account split) row (rows_from account number t (place + 1) more)
    ∙ fails (counts_on account split) (has_key key row) row _ none
    ∙ found_other account number t key (place + 1) more other
  where
    fails :
        (s u : Bool) (x : Entry) (o : Option Entry) → u ≡ false → cond (s && u) (Some x) o ≡ o
    fails true u x o is = ap (λ b. cond b (Some x) o) is
    fails false u x o is = refl

-- a row is picked where it is that of an account and stands at a key, and its split isn't voided
picked :
    (account : ℕ) (key : RowKey) (at : ℕ × Entry) (voided : Bool)
    → cond (((at.0 == account) && not voided) && has_key key at.1) (Some at.1) None
    ≡ pick account key (if voided then None else Some at)
picked account key at true =
    elim (at.0 == account) as (λ b. cond ((b && false) && has_key key at.1) (Some at.1) None ≡ None) [
      | true ↦ refl
      | false ↦ refl
    ]
picked account key at false =
    elim (at.0 == account) as
    (λ b. cond ((b && true) && has_key key at.1) (Some at.1) None
    ≡ (if b && has_key key at.1 then Some at.1 else None)) [ true ↦ refl | false ↦ refl ]

-- at a place stands the row of the split there, where that counts on the account and is on the day
found_from :
    (account number : ℕ) (t : Txn) (key : RowKey) (place k : ℕ) (splits : List Split) → key.place ≡ place + k
    → find (has_key key) (rows_from account number t place splits)
    ≡ pick account key (option_and_then (placed_split number t key.place) (slice_get splits k))
found_from account number t key place k [] is = refl
found_from account number t key place zero (split ∷ more) is =
    let here : key.place ≡ place = omega (arith, is) in
    let rest = found_before account number t key (place + 1) more (omega (arith, here)) in
    find_either (has_key key) (counts_on account split) (row_of number t place split)
    (rows_from account number t (place + 1) more)
    ∙ ap (λ (o : Option Entry). cond ((counts_on account split) && has_key key (row_of number t place split))
    (Some (row_of number t place split)) o) rest
    ∙ picked account key (split.account, row_of number t place split) (is_voided split.mark)
    ∙ ap (λ (n : ℕ). pick account key (placed_split number t n split)) (sym here)
found_from account number t key place (suc k) (split ∷ more) is =
    let row = row_of number t place split in
    let other = false_of (has_key key row) (λ same. let at = place_is key row same in absurd (omega (arith, at, is))) in
    let next : key.place ≡ (place + 1) + k = omega (arith, is) in
    find_either (has_key key) (counts_on account split) row (rows_from account number t (place + 1) more)
    ∙ fails (counts_on account split) (has_key key row) row _ other
    ∙ found_from account number t key (place + 1) k more next
  where
    fails :
        (s u : Bool) (x : Entry) (o : Option Entry) → u ≡ false → cond (s && u) (Some x) o ≡ o
    fails true u x o is = ap (λ b. cond b (Some x) o) is
    fails false u x o is = refl

-- ---- the rows of all transactions
pub found_on :
    (account : ℕ) (key : RowKey) (ts : List (ℕ × Txn)) → Rises ts
    → find (has_key key) (rows_on account ts) ≡ row_in account key ts
found_on account key [] rises = refl
found_on account key (e ∷ es) rises =
    find_append (has_key key) (rows_from account e.0 e.1 0 e.1.splits) (rows_on account es)
    ∙ here (key.txn == e.0) refl (found_on account key es rises.1)
  where
    here :
        (t : Bool) → (key.txn == e.0) ≡ t → find (has_key key) (rows_on account es) ≡ row_in account key es
        → option_or (find (has_key key) (rows_from account e.0 e.1 0 e.1.splits))
        (find (has_key key) (rows_on account es))
        ≡ pick account key (placed key.txn (if t then Some e.1 else value_of key.txn es) key.place)
    here true is rest =
        let same = eqb-true key.txn e.0 is in
        let none : value_of key.txn es ≡ None =
        ap (λ (n : ℕ). value_of n es) same ∙ above_value e.0 es rises.0 in
        let start : key.place ≡ 0 + key.place = omega arith in
        ap (option_or (find (has_key key) (rows_from account e.0 e.1 0 e.1.splits)))
        (rest ∙ ap (λ (o : Option Txn). pick account key (placed key.txn o key.place)) none)
        ∙ or_none (find (has_key key) (rows_from account e.0 e.1 0 e.1.splits))
        ∙ found_from account e.0 e.1 key 0 key.place e.1.splits start
        ∙ ap (λ (n : ℕ). pick account key (placed n (Some e.1) key.place)) (sym same)
    here false is rest =
        let apart : key.txn ≡ e.0 → ⊥ = λ same. grind (arith, nat_tests, is, same) in
        ap (λ (o : Option Entry). option_or o (find (has_key key) (rows_on account es)))
        (found_other account e.0 e.1 key 0 e.1.splits apart) ∙ rest

-- what is found in the register at a key is the row of the split there
pub found_in_register :
    (account : ℕ) (key : RowKey) (ts : List (ℕ × Txn)) → Rises ts
    → find (has_key key) (register_of account ts) ≡ row_in account key ts
found_in_register account key ts rises = found_sorted key (rows_on account ts) ∙ found_on account key ts rises

-- ---- in order
apart_from :
    (account number : ℕ) (t : Txn) (place : ℕ) (splits : List Split) (rest : List Entry) → AreApart rest
    → ((key : RowKey) → key.txn ≡ number → find (has_key key) rest ≡ None)
    → AreApart (rows_from account number t place splits ++ rest)
apart_from account number t place [] rest apart none = apart
apart_from account number t place (split ∷ more) rest apart none =
    let row = row_of number t place split in
    let later = rows_from account number t (place + 1) more in
    let tail = apart_from account number t (place + 1) more rest apart none in
    elim (counts_on account split) as (λ b. AreApart ((if b then row ∷ later else later) ++ rest)) [
      | true ↦ (
        find_append (has_key (key_of row)) later rest
            ∙ ap (λ (o : Option Entry). option_or o (find (has_key (key_of row)) rest))
            (found_before account number t (key_of row) (place + 1) more (omega arith)) ∙ none (key_of row) refl,
        tail,
      )
      | false ↦ tail
    ]

apart_on : (account : ℕ) (ts : List (ℕ × Txn)) → Rises ts → AreApart (rows_on account ts)
apart_on account [] rises = tt
apart_on account (e ∷ es) rises =
    apart_from account e.0 e.1 0 e.1.splits (rows_on account es) (apart_on account es rises.1)
    (λ key same. found_on account key es rises.1
    ∙ ap (λ (o : Option Txn). pick account key (placed key.txn o key.place))
    (ap (λ (n : ℕ). value_of n es) same ∙ above_value e.0 es rises.0))

pub register_sorted : (account : ℕ) (ts : List (ℕ × Txn)) → Rises ts → IsSorted (register_of account ts)
register_sorted account ts rises = sorted_sorted (rows_on account ts) (apart_on account ts rises)

-- ---- the sum
balance_append : (xs ys : List Entry) → rows.balance (xs ++ ys) ≡ rows.balance xs +ℤ rows.balance ys
balance_append [] ys = sym (+ℤ_idl (rows.balance ys))
balance_append (x ∷ xs) ys =
    ap (λ z. x.quantity +ℤ z) (balance_append xs ys) ∙ sym (+ℤ_assoc x.quantity (rows.balance xs) (rows.balance ys))

balance_from :
    (account number : ℕ) (t : Txn) (place : ℕ) (splits : List Split)
    → rows.balance (rows_from account number t place splits) ≡ quantity_on account splits
balance_from account number t place [] = refl
balance_from account number t place (split ∷ more) =
    let row = row_of number t place split in
    let later = rows_from account number t (place + 1) more in
    let rest = balance_from account number t (place + 1) more in
    elim (counts_on account split) as
    (λ b. rows.balance (if b then row ∷ later else later)
    ≡ total (map (λ (s : Split). s.quantity) (if b then split ∷ filter (counts_on account) more
    else filter (counts_on account) more))) [
      | true ↦ ap (λ z. split.quantity +ℤ z) rest
      | false ↦ rest
    ]

balance_on :
    (account : ℕ) (ts : List (ℕ × Txn)) → rows.balance (rows_on account ts) ≡ quantity_on account (splits_of ts)
balance_on account [] = refl
balance_on account (e ∷ es) =
    balance_append (rows_from account e.0 e.1 0 e.1.splits) (rows_on account es)
    ∙ ap (λ z. z +ℤ rows.balance (rows_on account es)) (balance_from account e.0 e.1 0 e.1.splits)
    ∙ ap (λ z. quantity_on account e.1.splits +ℤ z) (balance_on account es)
    ∙ sym (quantity_on-append account e.1.splits (splits_of es))

-- the sum of the quantities of a register is the balance of its account
pub balance_of_register :
    (account : ℕ) (ts : List (ℕ × Txn)) → rows.balance (register_of account ts) ≡ balance ts account
balance_of_register account ts = balance_sorted (rows_on account ts) ∙ balance_on account ts

-- so the sum of the rows that are kept for an account of a book is its balance there
pub kept_balance :
    (registers : List (ℕ × Page)) (b : Book) (account : ℕ) → Keeps registers b
    → rows.balance (rows_at account registers) ≡ balance b.transactions account
kept_balance registers b account kept =
    ap rows.balance (kept.rows account) ∙ balance_of_register account b.transactions

-- the register that is kept for an account of the book is that account's, and there is one
pub kept_live :
    (registers : List (ℕ × Page)) (b : Book) (account : ℕ) → Keeps registers b
    → is_some (value_of account b.accounts) ≡ true
    → option_map (λ (r : Page). r.rows) (value_of account registers) ≡ live_register b account
kept_live registers b account kept live =
    here (value_of account registers) (kept.live account live) (kept.rows account)
    ∙ sym (ap (λ (t : Bool). if t then Some (register_of account b.transactions) else None) live)
  where
    here :
        (o : Option Page) → is_some o ≡ true → rows_in o ≡ register_of account b.transactions
        → option_map (λ (r : Page). r.rows) o ≡ Some (register_of account b.transactions)
    here None there same = absurd cc
    here (Some r) there same = ap (λ (l : List Entry). Some l) same

pub not_live :
    (b : Book) (account : ℕ) → is_some (value_of account b.accounts) ≡ false → None ≡ live_register b account
not_live b account none =
    sym (ap (λ (t : Bool). if t then Some (register_of account b.transactions) else None) none)

-- What splits give to their accounts, and the balance of an account once one transaction stands in the place of another.
use Rattle.std.proofs.Common.{◌&&◌}
use Rattle.std.proofs.Common.{◌≡◌, ℕ, ◌+◌, ◌<◌, ◌≤◌, ◌==◌, ℤ, pos, ◌+ℤ◌, ◌-ℤ◌, Bool, true, false, if◌then◌else◌}
use Rattle.std.proofs.Common.{List, [], ◌∷◌, ◌++◌, All, length, map, take, get_or, Option, Some, None, IfSome, refl, sym, ap}
use Rattle.std.proofs.Common.{◌∙◌, subst, arith, not}
use Rattle.std.specs.Prelude.{filter, unsigned_abs}
use Rattle.std.proofs.Math.IntN.{+ℤ_idr}
use Rattle.std.proofs.lemmas.Bool.{and_right, eqb-true}
use Rattle.std.proofs.lemmas.Bool.Decides.{nat_tests}
use Rattle.std.proofs.lemmas.Int.{ints}
use Rattle.std.proofs.lemmas.List.{map-append, length-map}
use Rattle.std.proofs.lemmas.List.Filters.{length-filter_both}
use Rattle.std.proofs.lemmas.List.Elements.{All-filter, All-map, All-weaker}
use Rattle.book_commodity.specs.Table.{AllAbove, Rises, value_of, with_entry}
use Rattle.book_commodity.proofs.ListLemmas.{take-item}
use Rattle.book_commodity.proofs.TableLemmas.{above_value, value_of_with}
use Rattle.book_ledger.specs.Ledger.{HasPlaces}
use Rattle.book_sound.specs.Soundness.{IsSoundBook}
use Rattle.book_sound.proofs.SoundFacts.{IsAtMost, sum_is_small, transactions_balance}
use Rattle.book_splits.specs.TransactionRules.{is_voided}
use Rattle.book_splits.specs.Balance.{counts_on, quantity_on, splits_beside, splits_of}
use Rattle.book_splits.specs.Check.{HasAmounts}
use Rattle.book_splits.specs.Check as transaction
use Rattle.book_splits.specs.declared.split.Split.{Split}
use Rattle.book_splits.specs.declared.transaction.Txn.{Txn}
use Rattle.book_splits.proofs.BalanceLemmas.{quantity_on-append, quantity_on-one, quantity_on-with}
use Rattle.book_undo.specs.Book.{Book}
use Rattle.book_limits.specs.Limits.{largest_split_amount}
use Rattle.book_balances.specs.Balances.{IsMoved, given, largest_move, moved, sum_in}

-- ---- one account

pub moved_by :
    (account : ℕ) (quantity sum : ℤ) (old new : List (ℕ × ℤ)) → new ≡ with_entry account sum old
    → sum ≡ moved account old +ℤ quantity → IsMoved account quantity old new
moved_by account quantity sum old new is same = record {
  values = λ other.
      ap (value_of other) is ∙ value_of_with other account sum old
      ∙ ap (λ (n : ℤ). if other == account then Some n else value_of other old) same;
}

moved_one :
    (account : ℕ) (quantity : ℤ) (old new : List (ℕ × ℤ)) (other : ℕ) → IsMoved account quantity old new
    → moved other new ≡ moved other old +ℤ (if account == other then quantity else pos 0)
moved_one account quantity old new other more =
    ap sum_in (more.values other) ∙ by_test (other == account) (account == other) refl refl
  where
    by_test :
        (s t : Bool) → (other == account) ≡ s → (account == other) ≡ t
        → sum_in (if s then Some (moved account old +ℤ quantity) else value_of other old)
        ≡ moved other old +ℤ (if t then quantity else pos 0)
    by_test true true one two = ap (λ (n : ℕ). moved n old +ℤ quantity) (eqb-true account other two)
    by_test true false one two = absurd (let same = eqb-true other account one in
        let turned : (account == other) ≡ true = grind (arith, nat_tests, same) in cc)
    by_test false true one two = absurd (let same = eqb-true account other two in
        let turned : (other == account) ≡ true = grind (arith, nat_tests, same) in cc)
    by_test false false one two = sym (+ℤ_idr (moved other old))

-- ---- splits

-- A split counts on its account where it is not voided, and on none where it is.
counts_unvoided : (a : ℕ) (split : Split) → is_voided split.mark ≡ false → counts_on a split ≡ (split.account == a)
counts_unvoided a split unvoided = ap (λ (b : Bool). (split.account == a) && not b) unvoided ∙ and_true (split.account == a)
  where
    and_true : (b : Bool) → (b && true) ≡ b
    and_true true = refl
    and_true false = refl

counts_voided : (a : ℕ) (split : Split) → is_voided split.mark ≡ true → counts_on a split ≡ false
counts_voided a split voided =
    ap (λ (b : Bool). (split.account == a) && not b) voided ∙ and_right (split.account == a) false refl

-- So one that is voided gives nothing,
pub voided_adds :
    (a : ℕ) (split : Split) (had : ℤ) → is_voided split.mark ≡ true → had ≡ had +ℤ quantity_on a (split ∷ [])
voided_adds a split had voided =
    let none : quantity_on a (split ∷ []) ≡ pos 0 = quantity_on-one a split
    ∙ ap (λ (b : Bool). if b then split.quantity else pos 0) (counts_voided a split voided) in
    sym (ap (λ (z : ℤ). had +ℤ z) none ∙ +ℤ_idr had)

-- and another its quantity.
pub split_adds :
    (a : ℕ) (split : Split) (old new : List (ℕ × ℤ)) → is_voided split.mark ≡ false
    → IsMoved split.account split.quantity old new → moved a new ≡ moved a old +ℤ quantity_on a (split ∷ [])
split_adds a split old new unvoided more =
    moved_one split.account split.quantity old new a more
    ∙ ap (λ (z : ℤ). moved a old +ℤ z)
    (sym (quantity_on-one a split ∙ ap (λ (b : Bool). if b then split.quantity else pos 0) (counts_unvoided a split unvoided)))

-- One split more.
pub moved_more :
    (before : List Split) (split : Split) (after : List Split) (old new : List (ℕ × ℤ)) → before ++ split ∷ [] ≡ after
    → ((a : ℕ) → moved a old ≡ quantity_on a before)
    → ((a : ℕ) → moved a new ≡ moved a old +ℤ quantity_on a (split ∷ []))
    → (a : ℕ) → moved a new ≡ quantity_on a after
moved_more before split after old new is so_far more a =
    more a ∙ ap (λ (z : ℤ). z +ℤ quantity_on a (split ∷ [])) (so_far a)
    ∙ sym (quantity_on-append a before (split ∷ [])) ∙ ap (quantity_on a) is

-- What 500 splits give is small.
pub given_small :
    (account : ℕ) (splits : List Split) → All HasAmounts splits → length splits ≤ 500
    → IsAtMost largest_move (quantity_on account splits)
given_small account splits small few =
    let Small : ℤ → Type 0 = λ a. unsigned_abs a ≤ largest_split_amount in
    let quantity : Split → ℤ = λ s. s.quantity in
    let test : Split → Bool = counts_on account in
    let picked = filter test splits in
    let kept = All-filter test HasAmounts splits small in
    let quantities = All-map Small quantity picked
    (All-weaker HasAmounts (λ (s : Split). Small s.quantity) (λ s small. small.1) picked kept) in
    let sum = sum_is_small (map quantity picked) quantities in
    let same : length (map quantity picked) ≡ length picked = length-map picked quantity in
    let fewer = length-filter_both test (λ s. not (test s)) (λ s. refl) splits in
    (omega (arith, ints, sum.0, same, fewer, few), omega (arith, ints, sum.1, same, fewer, few))

-- ---- the transactions of a sound book

-- One that stands under a number has the form of a sound one.
pub old_form :
    (book : Book) (n : ℕ) (found : Option Txn) → IsSoundBook book → found ≡ value_of n book.transactions
    → IfSome found (λ old. transaction.IsSound old.splits)
old_form book n None is there = tt
old_form book n (Some t) is there = transactions_balance book n t is (sym there)

-- Each place in one is a number of 32 bits.
pub has_places : (book : Book) → IsSoundBook book → HasPlaces book.transactions
has_places book is = record {
  each = λ n t there. (let form = transactions_balance book n t is there in omega (arith, form.few));
}

-- So what it gives to an account is small.
pub form_small :
    (account : ℕ) (found : Option Txn) → IfSome found (λ old. transaction.IsSound old.splits)
    → IsAtMost largest_move (given account found)
form_small account None form = (omega (arith, ints), omega (arith, ints))
form_small account (Some t) form = given_small account t.splits form.amounts form.few

-- ---- one transaction in the place of another

-- What an account has is what the other transactions give to it, and what this one does.
beside_and :
    (account n : ℕ) (ts : List (ℕ × Txn)) → Rises ts
    → quantity_on account (splits_of ts)
    ≡ quantity_on account (splits_beside n ts) +ℤ given account (value_of n ts)
beside_and account n [] rises = refl
beside_and account n (e ∷ es) rises =
    let Past : Bool → Type 0 = λ same. (n == e.0) ≡ same
    → quantity_on account (e.1.splits ++ splits_of es)
    ≡ quantity_on account (splits_of (if not same then e ∷ filter (λ entry. not (n == entry.0)) es else filter
    (λ entry. not (n == entry.0)) es))
    +ℤ given account (if same then Some e.1 else value_of n es) in
    let both = quantity_on-append account e.1.splits (splits_of es) in
    let rest = beside_and account n es rises.1 in
    elim (n == e.0) as Past [
      | true ↦ λ is.
          let same : n ≡ e.0 = eqb-true n e.0 is in
          let none = above_value n es (subst (λ (m : ℕ). AllAbove m es) (sym same) rises.0) in
          let past = ap (given account) none in
          omega (arith, ints, both, rest, past)
      | false ↦ λ is.
          let behind = quantity_on-append account e.1.splits (splits_beside n es) in
          omega (arith, ints, both, rest, behind)
    ] refl

-- Once a transaction stands under a number, its account has what it had, less what the one there gave, and what this
-- one gives.
pub balance_moved :
    (account n : ℕ) (new : Txn) (ts : List (ℕ × Txn)) (was lost gained : ℤ) → Rises ts
    → was ≡ quantity_on account (splits_of ts) → lost ≡ given account (value_of n ts)
    → gained ≡ quantity_on account new.splits
    → (was -ℤ lost) +ℤ gained ≡ quantity_on account (splits_of (with_entry n new ts))
balance_moved account n new ts was lost gained rises is_was is_lost is_gained =
    let parts = beside_and account n ts rises in
    let after = quantity_on-with account n new ts rises in
    let both = quantity_on-append account (splits_beside n ts) new.splits in
    omega (arith, ints, parts, after, both, is_was, is_lost, is_gained)

-- One balance more.
pub balances_more :
    (f : Split → ℤ) (sums : List ℤ) (balance : ℤ) (splits : List Split) (i : ℕ) (split : Split)
    → sums ≡ map f (take i splits) → balance ≡ f split → i < length splits → split ≡ get_or splits i split
    → sums ++ balance ∷ [] ≡ map f (take (i + 1) splits)
balances_more f sums balance splits i split so_far here below is =
    ap (λ (zs : List ℤ). zs ++ balance ∷ []) so_far
    ∙ ap (λ (z : ℤ). map f (take i splits) ++ z ∷ []) here
    ∙ sym (map-append f (take i splits) (split ∷ []))
    ∙ ap (map f) (take-item splits i split below is)

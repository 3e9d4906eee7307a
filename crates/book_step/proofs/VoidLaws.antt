-- What is listed of a transaction that was voided: each of its splits on the account, with what it had.
use Rattle.std.proofs.Common.{◌≡◌, ℕ, ◌==◌, Bool, true, false, if◌then◌else◌, List, [], ◌∷◌, map, filter, refl, ap}
use Rattle.book_splits.specs.declared.split.Split.{Split}
use Rattle.book_splits.specs.declared.transaction.Txn.{Txn}
use Rattle.book_command.specs.declared.answer.VoidedShown.{VoidedShown}
use Rattle.book_void.specs.Voiding.{kept_of, voided_for, voided_split}
use Rattle.book_step.specs.Voiding.{shown_on, shown_where, voided_shown}

abbrev is_on : ℕ → Split → Bool
is_on account split = split.account == account

-- A split as it was before it was voided, as it is shown after that.
abbrev as_it_was : ℕ → List ℕ → Split → VoidedShown
as_it_was transaction reason split = voided_shown transaction reason split (kept_of split)

listed_splits :
    (account number : ℕ) (reason : List ℕ) (splits : List Split)
    → shown_on account number reason (map voided_split splits) (map kept_of splits)
    ≡ map (as_it_was number reason) (filter (is_on account) splits)
listed_splits account number reason [] = refl
listed_splits account number reason (split ∷ more) =
    let rest = listed_splits account number reason more in
    let first = as_it_was number reason split in
    let shown = shown_on account number reason (map voided_split more) (map kept_of more) in
    let others = filter (is_on account) more in
    elim (split.account == account) as
    (λ (b : Bool).
    (if b then first ∷ shown else shown)
    ≡ map (as_it_was number reason) (if b then split ∷ others else others))
    [ true ↦ ap (λ l. first ∷ l) rest | false ↦ rest ]

-- Where a transaction is voided, `voided` lists its splits on an account, with the values and the quantities that they
-- had and with the reason, by place.
pub listed_after_void :
    (account number : ℕ) (reason : List ℕ) (transaction : Txn)
    → shown_where account number (voided_for reason transaction).splits (voided_for reason transaction).voided
    ≡ map (as_it_was number reason) (filter (is_on account) transaction.splits)
listed_after_void account number reason transaction =
    listed_splits account number reason transaction.splits

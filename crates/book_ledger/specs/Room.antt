-- The room that an edit needs in the registers.
use Rattle.std.specs.Prelude.{◌≡◌, ℕ, ◌+◌, ◌^◌, ◌≤◌, ◌==◌, Bool, true, false, if◌then◌else◌, count_by, length, All}
use Rattle.std.specs.Prelude.{List, [], ◌∷◌, Option, Some, None, ⊤}
use Rattle.book_commodity.specs.Table.{Rises, value_of}
use Rattle.book_register.specs.Register.{IsSorted}
use Rattle.book_ledger.specs.Page.{Page}
use Rattle.book_register.specs.declared.entry.Entry.{Entry}
use Rattle.book_splits.specs.declared.split.Split.{Split}
use Rattle.book_splits.specs.declared.transaction.Txn.{Txn}
use Rattle.book_undo.specs.Book.{Book}
use Rattle.book_undo.specs.Edit.{Leaf, OfCurrency, OfPut, OfGone}
use Rattle.book_undo.specs.declared.thing.Thing.{Thing}
use Rattle.book_undo.specs.declared.thing.Thing.TheVariants as thing
use Rattle.book_undo.specs.declared.thing.ThingKind.{ThingKind}
use Rattle.book_undo.specs.declared.thing.ThingKind.TheVariants as kind
use Rattle.book_undo.proofs.EditLaws.{after_leaf, after_leaves}
use Rattle.book_ledger.specs.Change.{Holds, is_there}
use Rattle.book_ledger.specs.Changes.{changes_of}
use Rattle.book_ledger.specs.Ledger.{HasPlaces, rows_at}
use Rattle.book_ledger.specs.Lots.{reckoned_of, work_of}

-- The rows of each register stand in order.
abbrev pub AreSorted : List (ℕ × Page) → Type 0
AreSorted registers = All (λ (entry : ℕ × Page). IsSorted entry.1.rows) registers

-- How many more rows a register has room for; none where there is no register.
abbrev pub room_in : Option Page → ℕ
room_in None = 0
room_in (Some register) = register.spare

-- How many more rows the register of an account has room for.
abbrev pub room_of : ℕ → List (ℕ × Page) → ℕ
room_of account registers = room_in (value_of account registers)

-- Registers have the rows that others have, were changed as often, have room for as many more, and as many rows of them
-- are reckoned; those that were kept still are.
pub record Extends (old new : List (ℕ × Page)) : Type 0 where
  pub rows : (account : ℕ) → rows_at account new ≡ rows_at account old
  pub kept : (account : ℕ) → is_there account old ≡ true → is_there account new ≡ true
  pub changes : (account : ℕ) → changes_of account new ≡ changes_of account old
  pub reckoned : (account : ℕ) → reckoned_of account new ≡ reckoned_of account old
  pub work : (account : ℕ) → work_of account new ≡ work_of account old
  pub room : (account : ℕ) → room_of account old ≤ room_of account new

-- One, where a row is given and is on the account.
abbrev pub one_on : ℕ → Option (ℕ × Entry) → ℕ
one_on account None = 0
one_on account (Some at) = if at.0 == account then 1 else 0

-- How many of the splits are on the account.
abbrev pub splits_on : ℕ → List Split → ℕ
splits_on account splits = count_by (λ split. split.account == account) splits

-- How many splits on the account a transaction has, if there is one.
abbrev pub txn_splits_on : ℕ → Option Txn → ℕ
txn_splits_on account None = 0
txn_splits_on account (Some transaction) = splits_on account transaction.splits

-- A transaction has at most 2^32 splits, if there is one.
abbrev pub FitsPlaces : Option Txn → Type 0
FitsPlaces None = ⊤
FitsPlaces (Some transaction) = length transaction.splits ≤ 2 ^ 32

-- There is room for a row, if one is given.
abbrev pub HasRoomForRow : Option (ℕ × Entry) → List (ℕ × Page) → Type 0
HasRoomForRow None registers = ⊤
HasRoomForRow (Some at) registers = 1 ≤ room_of at.0 registers

-- How many splits on the account stand in a thing, where that is a transaction.
abbrev pub splits_in : ℕ → Thing → ℕ
splits_in account (thing.Txn transaction) = splits_on account transaction.splits
splits_in account (thing.Commodity commodity) = 0
splits_in account (thing.Account other) = 0
splits_in account (thing.Price price) = 0
splits_in account (thing.Schedule schedule) = 0
splits_in account (thing.Held statement) = 0
splits_in account (thing.Line line) = 0
splits_in account (thing.Binding binding) = 0
splits_in account (thing.Recon reconciliation) = 0

-- How many splits on the account the leaves put.
abbrev pub puts_on : ℕ → List Leaf → ℕ
puts_on account [] = 0
puts_on account (OfCurrency currency ∷ more) = puts_on account more
puts_on account (OfPut number thing ∷ more) = splits_in account thing + puts_on account more
puts_on account (OfGone kind number ∷ more) = puts_on account more

-- Whether it is an account.
abbrev pub is_account : Thing → Bool
is_account (thing.Account account) = true
is_account (thing.Commodity commodity) = false
is_account (thing.Txn transaction) = false
is_account (thing.Price price) = false
is_account (thing.Schedule schedule) = false
is_account (thing.Held statement) = false
is_account (thing.Line line) = false
is_account (thing.Binding binding) = false
is_account (thing.Recon reconciliation) = false

-- Something is kept for each account that the leaves put.
abbrev pub HasPut : {T : Type 0} → List (ℕ × T) → List Leaf → Type 0
HasPut kept [] = ⊤
HasPut kept (OfCurrency currency ∷ more) = HasPut kept more
HasPut kept (OfPut number thing ∷ more) =
    (is_account thing ≡ true → is_there number kept ≡ true) × HasPut kept more
HasPut kept (OfGone kind number ∷ more) = HasPut kept more

-- The registers have room for the splits that the leaves put.
abbrev pub HasRoomFor : List (ℕ × Page) → List Leaf → Type 0
HasRoomFor registers changes = (account : ℕ) → puts_on account changes ≤ room_of account registers

-- The registers are ready for the leaves: they have room for the splits that these put, and each account that they put
-- has a register.
pub record IsReady (registers : List (ℕ × Page)) (changes : List Leaf) : Type 0 where
  pub rows : HasRoomFor registers changes
  pub accounts : HasPut registers changes

-- A thing that is a transaction has at most 2^32 splits.
abbrev pub ThingHasPlaces : Thing → Type 0
ThingHasPlaces (thing.Txn transaction) = length transaction.splits ≤ 2 ^ 32
ThingHasPlaces (thing.Commodity commodity) = ⊤
ThingHasPlaces (thing.Account account) = ⊤
ThingHasPlaces (thing.Price price) = ⊤
ThingHasPlaces (thing.Schedule schedule) = ⊤
ThingHasPlaces (thing.Held statement) = ⊤
ThingHasPlaces (thing.Line line) = ⊤
ThingHasPlaces (thing.Binding binding) = ⊤
ThingHasPlaces (thing.Recon reconciliation) = ⊤

-- Each transaction that the leaves put has at most 2^32 splits.
abbrev pub LeavesHavePlaces : List Leaf → Type 0
LeavesHavePlaces [] = ⊤
LeavesHavePlaces (OfCurrency currency ∷ more) = LeavesHavePlaces more
LeavesHavePlaces (OfPut number thing ∷ more) = ThingHasPlaces thing × LeavesHavePlaces more
LeavesHavePlaces (OfGone kind number ∷ more) = LeavesHavePlaces more

-- Whether it is the kind of transactions.
abbrev pub is_txn_kind : ThingKind → Bool
is_txn_kind kind.Txn = true
is_txn_kind kind.Commodity = false
is_txn_kind kind.Account = false
is_txn_kind kind.Price = false
is_txn_kind kind.Schedule = false
is_txn_kind kind.Held = false
is_txn_kind kind.Line = false
is_txn_kind kind.Binding = false
is_txn_kind kind.Recon = false

-- Whether it is a transaction.
abbrev pub is_txn : Thing → Bool
is_txn (thing.Txn transaction) = true
is_txn (thing.Commodity commodity) = false
is_txn (thing.Account account) = false
is_txn (thing.Price price) = false
is_txn (thing.Schedule schedule) = false
is_txn (thing.Held statement) = false
is_txn (thing.Line line) = false
is_txn (thing.Binding binding) = false
is_txn (thing.Recon reconciliation) = false

-- What stands under a number among the transactions of a book is what stood there before.
abbrev pub IsAsBefore : List (ℕ × Txn) → ℕ → Book → Type 0
IsAsBefore before number now = value_of number now.transactions ≡ value_of number before

-- Each leaf that changes a transaction finds it, in the book to which the leaves before lead, as it stood at first.
abbrev pub ChangeOnce : List (ℕ × Txn) → List Leaf → Book → Type 0
ChangeOnce before [] now = ⊤
ChangeOnce before (OfCurrency currency ∷ more) now = ChangeOnce before more (after_leaf (OfCurrency currency) now)
ChangeOnce before (OfPut number thing ∷ more) now =
    (is_txn thing ≡ true → IsAsBefore before number now) × ChangeOnce before more (after_leaf (OfPut number thing) now)
ChangeOnce before (OfGone kind number ∷ more) now =
    (is_txn_kind kind ≡ true → IsAsBefore before number now)
    × ChangeOnce before more (after_leaf (OfGone kind number) now)

-- Registers that followed some leaves hold the rows of the book to which these led; the others lead on from there.
pub record IsOnWay (before : List (ℕ × Txn)) (registers : List (ℕ × Page)) (others : List Leaf)
    (last : Book) : Type 0 where
  pub mid : Book
  pub rises : Rises mid.transactions
  pub once : ChangeOnce before others mid
  pub holds : Holds registers mid.transactions
  pub leads : after_leaves others mid ≡ last

-- Registers can follow leaves that change some transactions: they have room for the splits that these put, and each
-- transaction, those put too, has at most 2^32 splits.
pub record CanFollow (before : List (ℕ × Txn)) (registers : List (ℕ × Page)) (changes : List Leaf) : Type 0 where
  pub places : HasPlaces before
  pub new_places : LeavesHavePlaces changes
  pub room : HasRoomFor registers changes

-- A count, or 0 where there is none.
abbrev pub count_in : Option ℕ → ℕ
count_in None = 0
count_in (Some count) = count

-- How many rows are counted for an account.
abbrev pub counted : ℕ → List (ℕ × ℕ) → ℕ
counted account counts = count_in (value_of account counts)

-- So many more rows are counted for an account.
pub record IsAdded (account extra : ℕ) (old new : List (ℕ × ℕ)) : Type 0 where
  pub values :
      (other : ℕ)
      → value_of other new ≡ (if other == account then Some (counted account old + extra) else value_of other old)

-- The rows of some splits are counted.
pub record AreCounted (splits : List Split) (old new : List (ℕ × ℕ)) : Type 0 where
  pub rows : (account : ℕ) → counted account new ≡ counted account old + splits_on account splits
  pub kept : (account : ℕ) → is_there account old ≡ true → is_there account new ≡ true

-- The rows that leaves put are counted, and there is a count for each account that they put.
pub record IsCounted (changes : List Leaf) (old new : List (ℕ × ℕ)) : Type 0 where
  pub rows : (account : ℕ) → counted account new ≡ counted account old + puts_on account changes
  pub kept : (account : ℕ) → is_there account old ≡ true → is_there account new ≡ true
  pub accounts : HasPut new changes

-- Each of these accounts has a register with room for so many more rows.
pub record AreMade (registers : List (ℕ × Page)) (counts : List (ℕ × ℕ)) : Type 0 where
  pub each :
      (account count : ℕ) → value_of account counts ≡ Some count
      → (is_there account registers ≡ true) × (count ≤ room_of account registers)

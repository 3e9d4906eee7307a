-- The room that the rows of a transaction need, place by place.
use Rattle.std.proofs.Common.{◌≡◌, ℕ, zero, suc, ◌+◌, ◌<◌, ◌≤◌, ◌==◌, ◌&&◌, Bool, true, false, if◌then◌else◌}
use Rattle.std.proofs.Common.{List, [], ◌∷◌, length, drop, Option, Some, None, slice_get, refl, sym, ap}
use Rattle.std.proofs.Common.{◌∙◌}
use Rattle.std.proofs.Common.{subst, arith}
use Rattle.std.specs.Option.{option_and_then}
use Rattle.std.proofs.lemmas.Bool.Decides.{nat_tests}
use Rattle.std.proofs.lemmas.List.Sums.{sum_by-cons}
use Rattle.book_commodity.proofs.ListLemmas.{drop_at}
use Rattle.book_ledger.specs.Page.{Page}
use Rattle.book_register.specs.declared.entry.Entry.{Entry}
use Rattle.book_splits.specs.TransactionRules.{is_voided}
use Rattle.book_splits.specs.declared.split.Split.{Split}
use Rattle.book_splits.specs.declared.transaction.Txn.{Txn}
use Rattle.book_ledger.specs.Change.{is_same, left_at, left_of, placed, placed_split}
use Rattle.book_ledger.specs.Ledger.{row_of}
use Rattle.book_ledger.specs.Room.{HasRoomForRow, one_on, room_of, splits_on}

-- what is left of a row takes the room of that row at most
left_one :
    (account : ℕ) (at : ℕ × Entry) (other : Option (ℕ × Entry))
    → one_on account (left_of (Some at) other) ≤ (if at.0 == account then 1 else 0)
left_one account at None = omega arith
left_one account at (Some other) =
    elim ((at.0 == other.0) && is_same at.1 other.1) as
    (λ t. one_on account (if t then None else Some at) ≤ (if at.0 == account then 1 else 0)) [
      | true ↦ omega arith
      | false ↦ omega arith
    ]

left_room :
    (registers : List (ℕ × Page)) (at : ℕ × Entry) (other : Option (ℕ × Entry)) → 1 ≤ room_of at.0 registers
    → HasRoomForRow (left_of (Some at) other) registers
left_room registers at None room = room
left_room registers at (Some other) room =
    elim ((at.0 == other.0) && is_same at.1 other.1) as
    (λ t. HasRoomForRow (if t then None else Some at) registers) [ true ↦ tt | false ↦ room ]

-- the same of the row of a split, of which there is none where it is voided
placed_one :
    (account number place : ℕ) (t : Txn) (split : Split) (other : Option (ℕ × Entry))
    → one_on account (left_of (placed_split number t place split) other) ≤ (if split.account == account then 1 else 0)
placed_one account number place t split other =
    let at : ℕ × Entry = (split.account, row_of number t place split) in
    elim (is_voided split.mark) as
    (λ v. one_on account (left_of (if v then None else Some at) other) ≤ (if split.account == account then 1 else 0)) [
      | true ↦ omega arith
      | false ↦ left_one account at other
    ]

placed_room :
    (registers : List (ℕ × Page)) (number place : ℕ) (t : Txn) (split : Split) (other : Option (ℕ × Entry))
    → 1 ≤ room_of split.account registers
    → HasRoomForRow (left_of (placed_split number t place split) other) registers
placed_room registers number place t split other room =
    let at : ℕ × Entry = (split.account, row_of number t place split) in
    elim (is_voided split.mark) as
    (λ v. HasRoomForRow (left_of (if v then None else Some at) other) registers) [
      | true ↦ tt
      | false ↦ left_room registers at other room
    ]

some_within : {X : Type 0} (xs : List X) (i : ℕ) → i < length xs → (x : X) × (slice_get xs i ≡ Some x)
some_within [] i lt = absurd (omega (arith, lt))
some_within (x ∷ xs) zero lt = (x, refl)
some_within (x ∷ xs) (suc i) lt = some_within xs i (omega (arith, lt))

-- the splits from a place on are the one there and those behind it
splits_from :
    (account place : ℕ) (splits : List Split) (split : Split) → slice_get splits place ≡ Some split
    → splits_on account (drop place splits)
    ≡ (if split.account == account then 1 else 0) + splits_on account (drop (place + 1) splits)
splits_from account place splits split there =
    ap (splits_on account) (drop_at splits place split there)
    ∙ sum_by-cons (λ (s : Split). if s.account == account then 1 else 0) split (drop (place + 1) splits)

left_is :
    (number place : ℕ) (t : Txn) (other : Option Txn) (split : Split) → slice_get t.splits place ≡ Some split
    → left_at number (Some t) other place
    ≡ left_of (placed_split number t place split) (placed number other place)
left_is number place t other split there =
    ap (λ (o : Option Split). left_of (option_and_then (placed_split number t place) o) (placed number other place))
    there

-- a row that is put at a place takes the room of the split there
pub one_less :
    (account number place : ℕ) (t : Txn) (other : Option Txn) (row : Option (ℕ × Entry))
    → row ≡ left_at number (Some t) other place → place < length t.splits
    → one_on account row + splits_on account (drop (place + 1) t.splits) ≤ splits_on account (drop place t.splits)
one_less account number place t other row is lt =
    let found = some_within t.splits place lt in
    let one = ap (one_on account) (is ∙ left_is number place t other found.0 found.1) in
    let less = placed_one account number place t found.0 (placed number other place) in
    omega (arith, splits_from account place t.splits found.0 found.1, one, less)

-- and there is room for it
pub room_for_row :
    (number place : ℕ) (t : Txn) (other : Option Txn) (row : Option (ℕ × Entry)) (registers : List (ℕ × Page))
    → row ≡ left_at number (Some t) other place → place < length t.splits
    → ((account : ℕ) → splits_on account (drop place t.splits) ≤ room_of account registers)
    → HasRoomForRow row registers
room_for_row number place t other row registers is lt room =
    let found = some_within t.splits place lt in
    let account : ℕ = found.0.account in
    let itself : (account == account) ≡ true = grind (arith, nat_tests) in
    let one = ap {B = ℕ} (λ (b : Bool). if b then 1 else 0) itself in
    let enough : 1 ≤ room_of account registers =
    omega (arith, splits_from account place t.splits found.0 found.1, one, room account) in
    subst (λ (o : Option (ℕ × Entry)). HasRoomForRow o registers)
    (sym (is ∙ left_is number place t other found.0 found.1))
    (placed_room registers number place t found.0 (placed number other place) enough)

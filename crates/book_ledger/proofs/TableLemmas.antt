-- A register that is lent, changed and given back: what becomes of the rows and the room of all.
use Rattle.std.proofs.Common.{◌≡◌, ℕ, ◌+◌, ◌≤◌, ◌==◌, ◌&&◌, Bool, true, false, if◌then◌else◌, List}
use Rattle.std.proofs.Common.{Option, Some, None, is_some, find, refl, sym, ap, ◌∙◌, arith}
use Rattle.std.specs.Option.{option_or}
use Rattle.std.proofs.lemmas.Bool.Decides.{nat_tests}
use Rattle.book_commodity.specs.Table.{value_of, with_entry}
use Rattle.book_commodity.proofs.TableLemmas.{value_of_with}
use Rattle.book_register.specs.Register.{has_key}
use Rattle.book_ledger.specs.Page.{Page}
use Rattle.book_register.specs.declared.entry.Entry.{Entry}
use Rattle.book_register.specs.Register.{RowKey}
use Rattle.book_ledger.specs.Change.{IsBeside, IsPut, IsReplaced, IsTaken, cut, is_there, row_at}
use Rattle.book_ledger.specs.Ledger.{rows_in}
use Rattle.book_ledger.specs.Room.{one_on, room_in, room_of}

-- a register put in place of an account's
pub replaced_by :
    (account : ℕ) (register : Page) (old mid new : List (ℕ × Page)) → IsBeside account old mid
    → IsReplaced account register mid new → IsReplaced account register old new
replaced_by account register old mid new beside here = record {
  values = λ other. by_test other (other == account) refl;
}
  where
    by_test :
        (other : ℕ) (t : Bool) → (other == account) ≡ t
        → value_of other new ≡ (if t then Some register else value_of other old)
    by_test other true is =
        here.values other ∙ ap (λ (b : Bool). if b then Some register else value_of other mid) is
    by_test other false is =
        here.values other ∙ ap (λ (b : Bool). if b then Some register else value_of other mid) is
        ∙ beside.values other is

pub with_replaced :
    (account : ℕ) (register : Page) (old new : List (ℕ × Page)) → new ≡ with_entry account register old
    → IsReplaced account register old new
with_replaced account register old new is = record {
  values = λ other. ap (value_of other) is ∙ value_of_with other account register old;
}

-- an empty one in the place of an account's, which is kept
pub lent_beside :
    (account : ℕ) (empty : Page) (old new : List (ℕ × Page)) → new ≡ with_entry account empty old
    → is_there account old ≡ true → IsBeside account old new
lent_beside account empty old new is there = record {
  values = λ other apart.
      ap (value_of other) is ∙ value_of_with other account empty old
      ∙ ap (λ (t : Bool). if t then Some empty else value_of other old) apart;
  there =
      ap (is_there account) is ∙ ap is_some (value_of_with account account empty old)
      ∙ (let itself : (account == account) ≡ true = grind (arith, nat_tests) in
      ap (λ (t : Bool). is_some (if t then Some empty else value_of account old)) itself) ∙ sym there;
}

swapped_test : (a b : ℕ) → (a == b) ≡ (b == a)
swapped_test a b = grind (arith, nat_tests)

-- so the rows of that account are those of the register, and all others stay
row_replaced :
    (account : ℕ) (register was : Page) (old new : List (ℕ × Page)) (a : ℕ) (key : RowKey)
    → IsReplaced account register old new → value_of account old ≡ Some was → (found : Bool → Option Entry)
    → find (has_key key) register.rows ≡ found true → find (has_key key) was.rows ≡ found false
    → row_at a key new ≡ (if account == a then found true else row_at a key old)
row_replaced account register was old new a key here there found one two =
    ap (λ (o : Option Page). find (has_key key) (rows_in o)) (here.values a) ∙ by_test (a == account) refl
    ∙ ap (λ (t : Bool). if t then found true else row_at a key old) (swapped_test a account)
  where
    by_test :
        (t : Bool) → (a == account) ≡ t
        → find (has_key key) (rows_in (if t then Some register else value_of a old))
        ≡ (if t then found true else row_at a key old)
    by_test true is = one
    by_test false is = refl

row_there :
    (account a : ℕ) (was : Page) (old : List (ℕ × Page)) (key : RowKey) → value_of account old ≡ Some was
    → (account == a) ≡ true → row_at a key old ≡ find (has_key key) was.rows
row_there account a was old key there is =
    ap (λ (n : ℕ). find (has_key key) (rows_in (value_of n old))) (sym same)
    ∙ ap (λ (o : Option Page). find (has_key key) (rows_in o)) there
  where
    same : account ≡ a
    same = grind (arith, nat_tests, is)

pub taken_row :
    (account : ℕ) (row : Entry) (register was : Page) (old new : List (ℕ × Page))
    → IsReplaced account register old new → value_of account old ≡ Some was
    → ((key : RowKey) → find (has_key key) register.rows
    ≡ (if has_key key row then None else find (has_key key) was.rows))
    → IsTaken (Some (account, row)) old new
taken_row account row register was old new here there found = record {
  rows = λ a key.
      row_replaced account register was old new a key here there
      (λ t. if t then find (has_key key) register.rows else find (has_key key) was.rows) refl refl
      ∙ by_tests a key (account == a) (has_key key row) refl refl;
}
  where
    by_tests :
        (a : ℕ) (key : RowKey) (s t : Bool) → (account == a) ≡ s → has_key key row ≡ t
        → (if s then find (has_key key) register.rows else row_at a key old)
        ≡ cut (if s && t then Some row else None) (row_at a key old)
    by_tests a key true true one two =
        found key ∙ ap (λ (t : Bool). if t then None else find (has_key key) was.rows) two
    by_tests a key true false one two =
        found key ∙ ap (λ (t : Bool). if t then None else find (has_key key) was.rows) two
        ∙ sym (row_there account a was old key there one)
    by_tests a key false t one two = refl

pub put_row :
    (account : ℕ) (row : Entry) (register was : Page) (old new : List (ℕ × Page))
    → IsReplaced account register old new → value_of account old ≡ Some was
    → ((key : RowKey) → find (has_key key) register.rows
    ≡ (if has_key key row then Some row else find (has_key key) was.rows))
    → IsPut (Some (account, row)) old new
put_row account row register was old new here there found = record {
  rows = λ a key.
      row_replaced account register was old new a key here there
      (λ t. if t then find (has_key key) register.rows else find (has_key key) was.rows) refl refl
      ∙ by_tests a key (account == a) (has_key key row) refl refl;
}
  where
    by_tests :
        (a : ℕ) (key : RowKey) (s t : Bool) → (account == a) ≡ s → has_key key row ≡ t
        → (if s then find (has_key key) register.rows else row_at a key old)
        ≡ option_or (if s && t then Some row else None) (row_at a key old)
    by_tests a key true true one two =
        found key ∙ ap (λ (t : Bool). if t then Some row else find (has_key key) was.rows) two
    by_tests a key true false one two =
        found key ∙ ap (λ (t : Bool). if t then Some row else find (has_key key) was.rows) two
        ∙ sym (row_there account a was old key there one)
    by_tests a key false t one two = refl

-- where no register is kept for the account, there is no row to take
pub none_to_take :
    (account : ℕ) (row : Entry) (registers : List (ℕ × Page)) → value_of account registers ≡ None
    → IsTaken (Some (account, row)) registers registers
none_to_take account row registers none = record { rows = λ a key. by_test a key (account == a) (has_key key row) refl }
  where
    by_test :
        (a : ℕ) (key : RowKey) (s t : Bool) → (account == a) ≡ s
        → row_at a key registers ≡ cut (if s && t then Some row else None) (row_at a key registers)
    by_test a key true true is =
        ap (λ (o : Option Page). find (has_key key) (rows_in o))
        (let same : account ≡ a = grind (arith, nat_tests, is) in
        ap (λ (n : ℕ). value_of n registers) (sym same) ∙ none)
    by_test a key true false is = refl
    by_test a key false t is = refl

pub none_taken_row : (registers : List (ℕ × Page)) → IsTaken None registers registers
none_taken_row registers = record { rows = λ a key. refl }

pub none_put_row : (registers : List (ℕ × Page)) → IsPut None registers registers
none_put_row registers = record { rows = λ a key. refl }

-- the same registers are kept
pub there_replaced :
    (account : ℕ) (register was : Page) (old new : List (ℕ × Page)) → IsReplaced account register old new
    → value_of account old ≡ Some was → (a : ℕ) → is_there a new ≡ is_there a old
there_replaced account register was old new here there a =
    ap is_some (here.values a) ∙ by_test (a == account) refl
  where
    by_test :
        (t : Bool) → (a == account) ≡ t → is_some (if t then Some register else value_of a old) ≡ is_there a old
    by_test true is =
        sym (let same : a ≡ account = grind (arith, nat_tests, is) in
        ap is_some (ap (λ (n : ℕ). value_of n old) same ∙ there))
    by_test false is = refl

-- and their room is what it was, but for that register's
pub room_replaced :
    (account : ℕ) (register was : Page) (old new : List (ℕ × Page)) (row : Entry)
    → IsReplaced account register old new → value_of account old ≡ Some was → was.spare ≤ register.spare + 1
    → (a : ℕ) → room_of a old ≤ room_of a new + one_on a (Some (account, row))
room_replaced account register was old new row here there less a = by_test (a == account) refl
  where
    by_test :
        (t : Bool) → (a == account) ≡ t → room_of a old ≤ room_of a new + (if account == a then 1 else 0)
    by_test true is =
        let same : a ≡ account = grind (arith, nat_tests, is) in
        let itself : (account == a) ≡ true = grind (arith, nat_tests, same) in
        let before = ap room_in (ap (λ (n : ℕ). value_of n old) same ∙ there) in
        let after = ap room_in (here.values a ∙ ap (λ (b : Bool). if b then Some register else value_of a old) is) in
        let one = ap {B = ℕ} (λ (b : Bool). if b then 1 else 0) itself in
        omega (arith, before, after, one, less)
    by_test false is =
        let after = ap room_in (here.values a ∙ ap (λ (b : Bool). if b then Some register else value_of a old) is) in
        omega (arith, after)

pub room_kept :
    (account : ℕ) (register was : Page) (old new : List (ℕ × Page)) → IsReplaced account register old new
    → value_of account old ≡ Some was → was.spare ≤ register.spare → (a : ℕ) → room_of a old ≤ room_of a new
room_kept account register was old new here there less a = by_test (a == account) refl
  where
    by_test : (t : Bool) → (a == account) ≡ t → room_of a old ≤ room_of a new
    by_test true is =
        let same : a ≡ account = grind (arith, nat_tests, is) in
        let before = ap room_in (ap (λ (n : ℕ). value_of n old) same ∙ there) in
        let after = ap room_in (here.values a ∙ ap (λ (b : Bool). if b then Some register else value_of a old) is) in
        omega (arith, before, after, less)
    by_test false is =
        let after = ap room_in (here.values a ∙ ap (λ (b : Bool). if b then Some register else value_of a old) is) in
        omega (arith, after)

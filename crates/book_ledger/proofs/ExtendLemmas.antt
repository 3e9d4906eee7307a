-- Registers with the same rows and no less room.
use Rattle.std.proofs.Common.{◌≡◌, ℕ, suc, ◌+◌, ◌<◌, ◌≤◌, ◌==◌, nat_lt, Bool, true, false, if◌then◌else◌, List, [], ◌∷◌}
use Rattle.std.proofs.Common.{Option, Some, None, is_some, length, option_map, slice_get}
use Rattle.std.proofs.Common.{refl, sym, ap, ◌∙◌, arith}
use Rattle.std.proofs.lemmas.Bool.{eqb-true}
use Rattle.std.proofs.lemmas.Bool.Decides.{nat_tests}
use Rattle.book_accounts.specs.declared.account.Account.{Account}
use Rattle.book_commodity.specs.Table.{value_of, with_entry}
use Rattle.book_commodity.proofs.TableLemmas.{value_of_with}
use Rattle.book_ledger.specs.Page.{Page}
use Rattle.book_undo.specs.Book.{Book}
use Rattle.book_ledger.specs.Change.{IsReplaced, is_there}
use Rattle.book_ledger.specs.Changes.{changes_in}
use Rattle.book_ledger.specs.Ledger.{Keeps, rows_at, rows_in}
use Rattle.book_ledger.specs.Lots.{reckoned_in, work_in}
use Rattle.book_ledger.specs.Opening.{HasAll}
use Rattle.book_ledger.specs.Room.{Extends, room_in, room_of}

pub extends_itself : (registers : List (ℕ × Page)) → Extends registers registers
extends_itself registers = record {
  rows = λ account. refl;
  kept = λ account there. there;
  changes = λ account. refl;
  reckoned = λ account. refl;
  work = λ account. refl;
  room = λ account. omega arith;
}

pub extends_by : (old mid new : List (ℕ × Page)) → Extends old mid → Extends mid new → Extends old new
extends_by old mid new one two = record {
  rows = λ account. two.rows account ∙ one.rows account;
  kept = λ account there. two.kept account (one.kept account there);
  changes = λ account. two.changes account ∙ one.changes account;
  reckoned = λ account. two.reckoned account ∙ one.reckoned account;
  work = λ account. two.work account ∙ one.work account;
  room = λ account. omega (arith, one.room account, two.room account);
}

-- with an empty one for an account that had none
pub extends_begun :
    (account : ℕ) (empty : Page) (old new : List (ℕ × Page)) → new ≡ with_entry account empty old
    → value_of account old ≡ None → empty.rows ≡ [] → empty.changes ≡ 0 → empty.reckoned ≡ 0 → empty.work ≡ 0
    → Extends old new
extends_begun account empty old new is none no_rows no_changes no_reckoned no_work = record {
  rows = λ a. value a ∙ rows a (a == account) refl;
  kept = λ a there. ap is_some (found a) ∙ kept a (a == account) there;
  changes = λ a. ap changes_in (found a) ∙ count changes_in refl no_changes a (a == account) refl;
  reckoned = λ a. ap reckoned_in (found a) ∙ count reckoned_in refl no_reckoned a (a == account) refl;
  work = λ a. ap work_in (found a) ∙ count work_in refl no_work a (a == account) refl;
  room = λ a. let here = ap room_in (found a) in let less = room a (a == account) refl in omega (arith, here, less);
}
  where
    found : (a : ℕ) → value_of a new ≡ (if a == account then Some empty else value_of a old)
    found a = ap (value_of a) is ∙ value_of_with a account empty old

    value : (a : ℕ) → rows_at a new ≡ rows_in (if a == account then Some empty else value_of a old)
    value a = ap rows_in (ap (value_of a) is ∙ value_of_with a account empty old)

    rows : (a : ℕ) (t : Bool) → (a == account) ≡ t → rows_in (if t then Some empty else value_of a old) ≡ rows_at a old
    rows a true same =
        no_rows ∙ sym (ap rows_in (ap (λ (n : ℕ). value_of n old) (eqb-true a account same) ∙ none))
    rows a false same = refl

    kept : (a : ℕ) (t : Bool) → is_there a old ≡ true → is_some (if t then Some empty else value_of a old) ≡ true
    kept a true there = refl
    kept a false there = there

    count :
        (count_in : Option Page → ℕ) → count_in None ≡ 0 → count_in (Some empty) ≡ 0 → (a : ℕ) (t : Bool)
        → (a == account) ≡ t → count_in (if t then Some empty else value_of a old) ≡ count_in (value_of a old)
    count count_in zero here a true same =
        here ∙ sym (ap count_in (ap (λ (n : ℕ). value_of n old) (eqb-true a account same) ∙ none) ∙ zero)
    count count_in zero here a false same = refl

    room : (a : ℕ) (t : Bool) → (a == account) ≡ t → room_of a old ≤ room_in (if t then Some empty else value_of a old)
    room a true same =
        let nothing = ap room_in (ap (λ (n : ℕ). value_of n old) (eqb-true a account same) ∙ none) in
        omega (arith, nothing)
    room a false same = omega arith

-- with one of the same rows, as many changes and no less room in the place of an account's
pub extends_replaced :
    (account : ℕ) (register was : Page) (old new : List (ℕ × Page)) → IsReplaced account register old new
    → value_of account old ≡ Some was → register.rows ≡ was.rows → register.changes ≡ was.changes
    → register.reckoned ≡ was.reckoned → register.work ≡ was.work → was.spare ≤ register.spare → Extends old new
extends_replaced account register was old new here there same changes reckoned work less = record {
  rows = λ a. ap rows_in (here.values a) ∙ rows a (a == account) refl;
  kept = λ a is. ap is_some (here.values a) ∙ kept a (a == account) is;
  changes = λ a. ap changes_in (here.values a) ∙ count changes_in changes a (a == account) refl;
  reckoned = λ a. ap reckoned_in (here.values a) ∙ count reckoned_in reckoned a (a == account) refl;
  work = λ a. ap work_in (here.values a) ∙ count work_in work a (a == account) refl;
  room = λ a.
      let found = ap room_in (here.values a) in let more = room a (a == account) refl in omega (arith, found, more);
}
  where
    rows :
        (a : ℕ) (t : Bool) → (a == account) ≡ t
        → rows_in (if t then Some register else value_of a old) ≡ rows_at a old
    rows a true is =
        same ∙ sym (ap rows_in (ap (λ (n : ℕ). value_of n old) (eqb-true a account is) ∙ there))
    rows a false is = refl

    kept : (a : ℕ) (t : Bool) → is_there a old ≡ true → is_some (if t then Some register else value_of a old) ≡ true
    kept a true is = refl
    kept a false is = is

    count :
        (count_in : Option Page → ℕ) → count_in (Some register) ≡ count_in (Some was) → (a : ℕ) (t : Bool)
        → (a == account) ≡ t → count_in (if t then Some register else value_of a old) ≡ count_in (value_of a old)
    count count_in stays a true is =
        stays ∙ sym (ap count_in (ap (λ (n : ℕ). value_of n old) (eqb-true a account is) ∙ there))
    count count_in stays a false is = refl

    room :
        (a : ℕ) (t : Bool) → (a == account) ≡ t
        → room_of a old ≤ room_in (if t then Some register else value_of a old)
    room a true is =
        let was_room = ap room_in (ap (λ (n : ℕ). value_of n old) (eqb-true a account is) ∙ there) in
        omega (arith, was_room, less)
    room a false is = omega arith

-- what is kept for a book still is
pub kept_extended : (old new : List (ℕ × Page)) (b : Book) → Extends old new → Keeps old b → Keeps new b
kept_extended old new b extends kept = record {
  rows = λ account. extends.rows account ∙ kept.rows account;
  live = λ account there. extends.kept account (kept.live account there);
}

pub begun_there :
    (account : ℕ) (empty : Page) (old new : List (ℕ × Page)) → new ≡ with_entry account empty old
    → is_there account new ≡ true
begun_there account empty old new is =
    let itself : (account == account) ≡ true = grind (arith, nat_tests) in
    ap (is_there account) is ∙ ap is_some (value_of_with account account empty old)
    ∙ ap (λ (t : Bool). is_some (if t then Some empty else value_of account old)) itself

-- ---- a register for each account
-- an account that is there stands at a place
place_of :
    {T : Type 0} (n : ℕ) (es : List (ℕ × T)) → is_some (value_of n es) ≡ true
    → (k : ℕ) × (k < length es) × (option_map (λ (e : ℕ × T). e.0) (slice_get es k) ≡ Some n)
place_of n [] there = absurd cc
place_of {T} n (e ∷ es) there =
    let Here : Bool → Type 0 = λ t. (n == e.0) ≡ t → is_some (if t then Some e.1 else value_of n es) ≡ true
    → (k : ℕ) × (k < length (e ∷ es)) × (option_map (λ (x : ℕ × T). x.0) (slice_get (e ∷ es) k) ≡ Some n) in
    elim (n == e.0) as Here [
      | true ↦ λ same found. (0, omega arith, ap (λ (m : ℕ). Some m) (sym (eqb-true n e.0 same)))
      | false ↦ λ other found. let rest = place_of n es found in (suc rest.0, omega (arith, rest.1), rest.2)
    ] refl there

-- The accounts at the places before one have registers.
pub record AreBegun (registers : List (ℕ × Page)) (accounts : List (ℕ × Account)) (place : ℕ) : Type 0 where
  pub each :
      (k n : ℕ) → k < place → option_map (λ (e : ℕ × Account). e.0) (slice_get accounts k) ≡ Some n
      → is_there n registers ≡ true

pub begun_none : (registers : List (ℕ × Page)) (accounts : List (ℕ × Account)) → AreBegun registers accounts 0
begun_none registers accounts = record { each = λ k n less is. absurd (omega (arith, less)) }

pub begun_more :
    (old new : List (ℕ × Page)) (accounts : List (ℕ × Account)) (place number : ℕ) → AreBegun old accounts place
    → Extends old new → option_map (λ (e : ℕ × Account). e.0) (slice_get accounts place) ≡ Some number
    → is_there number new ≡ true → AreBegun new accounts (place + 1)
begun_more old new accounts place number before extends is there = record {
  each = λ k n less here. by_test k n (nat_lt k place) refl less here;
}
  where
    by_test :
        (k n : ℕ) (t : Bool) → nat_lt k place ≡ t → k < place + 1
        → option_map (λ (e : ℕ × Account). e.0) (slice_get accounts k) ≡ Some n → is_there n new ≡ true
    by_test k n true lt less here =
        extends.kept n (before.each k n (grind (arith, nat_tests, lt)) here)
    by_test k n false ge less here =
        let past : place ≤ k = grind (arith, nat_tests, ge) in
        let same : k ≡ place = omega (arith, past, less) in
        let both = sym is ∙ ap (λ (i : ℕ). option_map (λ (e : ℕ × Account). e.0) (slice_get accounts i)) (sym same)
        ∙ here in
        let number_is : number ≡ n = cc in ap (λ (m : ℕ). is_there m new) (sym number_is) ∙ there

pub begun_all :
    (registers : List (ℕ × Page)) (accounts : List (ℕ × Account)) (place : ℕ) → length accounts ≤ place
    → AreBegun registers accounts place → HasAll registers accounts
begun_all registers accounts place end begun = record {
  each = λ account there.
      let found = place_of account accounts there in
      begun.each found.0 account (omega (arith, found.1, end)) found.2;
}

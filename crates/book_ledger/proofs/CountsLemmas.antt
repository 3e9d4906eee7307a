-- How far the changes of each register rise, where the rows of one transaction come in the place of those of another.
use Rattle.std.proofs.Common.{◌≡◌, ℕ, ◌+◌, ◌-◌, ◌^◌, ◌<◌, ◌≤◌, ◌==◌, ◌&&◌, min, nat_lt, Bool, true, false}
use Rattle.std.proofs.Common.{if◌then◌else◌, List, ◌++◌, Option, Some, None, is_some, find, slice_get}
use Rattle.std.proofs.Common.{refl, sym, ap, ◌∙◌, subst, arith}
use Rattle.std.specs.Option.{option_and_then, option_or}
use Rattle.std.proofs.lemmas.Bool.{eqb-true}
use Rattle.std.proofs.lemmas.Bool.Decides.{nat_tests}
use Rattle.book_commodity.specs.Table.{value_of, with_entry}
use Rattle.book_commodity.proofs.TableLemmas.{value_of_with}
use Rattle.book_register.specs.Register.{IsSorted, RowKey, has_key, key_of}
use Rattle.book_ledger.specs.Page.{Page}
use Rattle.book_register.specs.declared.entry.Entry.{Entry}
use Rattle.book_splits.specs.TransactionRules.{is_voided}
use Rattle.book_splits.specs.declared.split.Split.{Split}
use Rattle.book_splits.specs.declared.transaction.Txn.{Txn}
use Rattle.book_undo.specs.Book.{Book}
use Rattle.book_undo.specs.Edit.{Leaf}
use Rattle.book_ledger.specs.Change.{AllTaken, AreTaken, ArePut, Holds, IsReplaced, cut, is_same, left_at, left_before}
use Rattle.book_ledger.specs.Change.{left_of, pick, placed, placed_split, row_at}
use Rattle.book_ledger.specs.Changes.{AreBounded, RisesBy, changes_in, changes_of, differing, has_row}
use Rattle.book_ledger.specs.Counts.{AreFree, CountsFrom, CountsOn, HasRow, HasRowsOf, IsFree, LacksRow}
use Rattle.book_ledger.specs.Ledger.{Keeps, register_of, row_of, rows_at, rows_in}
use Rattle.book_ledger.specs.Lots.{AreLeft, checkpoint_before, common, reckoned_in, reckoned_of, work_in, work_of}
use Rattle.book_ledger.specs.Room.{AreSorted, ChangeOnce, IsOnWay}
use Rattle.book_ledger.proofs.ChangeLemmas.{cut_itself, pair_is, pair_itself}
use Rattle.book_ledger.proofs.DifferenceLemmas.{differing_none, found_has}
use Rattle.book_ledger.proofs.EditLemmas.{once_parts}
use Rattle.book_ledger.proofs.FoundLemmas.{false_of, key_itself}
use Rattle.book_ledger.proofs.SortedLemmas.{sorted_at}

-- ---- counts that rise by one
one_more :
    (first old new d e : ℕ) → old ≡ min (first + d) (2 ^ 64 - 1) → e ≡ d + 1 → new ≡ min (old + 1) (2 ^ 64 - 1)
    → new ≡ min (first + e) (2 ^ 64 - 1)
one_more first old new d e was more is = omega (arith, was, more, is)

no_more : (count d : ℕ) → count < 2 ^ 64 → d ≡ 0 → count ≡ min (count + d) (2 ^ 64 - 1)
no_more count d less none = omega (arith, less, none)

-- nothing differs at first
pub counts_start :
    (registers : List (ℕ × Page)) → AreSorted registers → AreBounded registers → CountsFrom registers registers
counts_start registers sorted bounded = record {
  sorted = sorted;
  each = λ account.
      no_more (changes_of account registers) (differing (rows_at account registers) (rows_at account registers))
      (bounded.each account) (differing_none (rows_at account registers));
  left = λ account.
      let reckoned : ℕ = reckoned_of account registers in
      let most : ℕ = checkpoint_before (common (rows_at account registers) (rows_at account registers)) in
      let less : min reckoned most ≤ reckoned = omega arith in less;
  work = λ account. refl;
}

-- What holds of the page put in an account's place, and of all others before, holds of all then.
at_each :
    (P : ℕ → Option Page → Type 0) (account : ℕ) (page : Page) (old new : List (ℕ × Page))
    → IsReplaced account page old new → P account (Some page) → ((a : ℕ) → P a (value_of a old))
    → (a : ℕ) → P a (value_of a new)
at_each P account page old new here own others a = by_test (a == account) refl (here.values a)
  where
    by_test :
        (t : Bool) → (a == account) ≡ t → value_of a new ≡ (if t then Some page else value_of a old)
        → P a (value_of a new)
    by_test true is value =
        subst (P a) (sym value) (subst (λ (n : ℕ). P n (Some page)) (sym (eqb-true a account is)) own)
    by_test false is value = subst (P a) (sym value) (others a)

-- The register of an account was changed as often as rows differ from those at first.
abbrev CountedAt : List (ℕ × Page) → ℕ → Option Page → Type 0
CountedAt first account page =
    RisesBy (differing (rows_at account first) (rows_in page)) (changes_of account first) (changes_in page)

-- Of the lots of an account those are left that stand before the last checkpoint in the common part.
abbrev LeftAt : List (ℕ × Page) → ℕ → Option Page → Type 0
LeftAt first account page =
    AreLeft (rows_at account first) (reckoned_of account first) (rows_in page) (reckoned_in page)

-- Nothing was reckoned for an account.
abbrev WorkedAt : List (ℕ × Page) → ℕ → Option Page → Type 0
WorkedAt first account page = work_in page ≡ work_of account first

-- A page on which one row more differs from those at first, with one change more, in the place of another.
record IsChangedOnce (first : List Entry) (was page : Page) : Type 0 where
  rows : differing first page.rows ≡ differing first was.rows + 1
  changes : page.changes ≡ min (was.changes + 1) (2 ^ 64 - 1)
  left : (most : ℕ) → AreLeft first most was.rows was.reckoned → AreLeft first most page.rows page.reckoned
  work : page.work ≡ was.work

counts_once :
    (account : ℕ) (page was : Page) (first old new : List (ℕ × Page)) → IsReplaced account page old new
    → value_of account old ≡ Some was → IsChangedOnce (rows_at account first) was page
    → CountsFrom first old → CountsFrom first new
counts_once account page was first old new here there once counts = record {
  sorted = counts.sorted;
  each = at_each (CountedAt first) account page old new here
      (one_more (changes_of account first) was.changes page.changes
      (differing (rows_at account first) was.rows) (differing (rows_at account first) page.rows)
      (subst (CountedAt first account) there (counts.each account)) once.rows once.changes) counts.each;
  left = at_each (LeftAt first) account page old new here
      (once.left (reckoned_of account first) (subst (LeftAt first account) there (counts.left account))) counts.left;
  work = at_each (WorkedAt first) account page old new here
      (once.work ∙ subst (WorkedAt first account) there (counts.work account)) counts.work;
}

there_found :
    (account : ℕ) (key : RowKey) (was : Page) (old : List (ℕ × Page)) (o : Option Entry)
    → value_of account old ≡ Some was → row_at account key old ≡ o → find (has_key key) was.rows ≡ o
there_found account key was old o there is =
    sym (ap (λ (r : Option Page). find (has_key key) (rows_in r)) there) ∙ is

pub counts_taken :
    (account : ℕ) (row : Entry) (page was : Page) (first old new : List (ℕ × Page))
    → IsReplaced account page old new → value_of account old ≡ Some was
    → ((rows : List Entry) → IsSorted rows → find (has_key (key_of row)) rows ≡ Some row
    → find (has_key (key_of row)) was.rows ≡ Some row
    → differing rows page.rows ≡ differing rows was.rows + 1)
    → page.changes
    ≡ (if is_some (find (has_key (key_of row)) was.rows) then min (was.changes + 1) (2 ^ 64 - 1) else was.changes)
    → ((rows : List Entry) → IsSorted rows → find (has_key (key_of row)) rows ≡ Some row
    → find (has_key (key_of row)) was.rows ≡ Some row → (most : ℕ)
    → AreLeft rows most was.rows was.reckoned → AreLeft rows most page.rows page.reckoned)
    → page.work ≡ was.work
    → HasRow (Some (account, row)) first → HasRow (Some (account, row)) old → CountsFrom first old
    → CountsFrom first new
counts_taken account row page was first old new here there differs changes left work has_first has_old counts =
    let found = there_found account (key_of row) was old (Some row) there has_old in
    let sorted = sorted_at account first counts.sorted in
    counts_once account page was first old new here there
    (record {
      rows = differs (rows_at account first) sorted has_first found;
      changes = changes
          ∙ ap (λ (o : Option Entry). if is_some o then min (was.changes + 1) (2 ^ 64 - 1) else was.changes) found;
      left = left (rows_at account first) sorted has_first found;
      work = work;
    })
    counts

pub counts_put :
    (account : ℕ) (row : Entry) (page was : Page) (first old new : List (ℕ × Page))
    → IsReplaced account page old new → value_of account old ≡ Some was
    → ((rows : List Entry) → has_row row rows ≡ false → find (has_key (key_of row)) was.rows ≡ None
    → differing rows page.rows ≡ differing rows was.rows + 1)
    → (find (has_key (key_of row)) was.rows ≡ None → page.changes ≡ min (was.changes + 1) (2 ^ 64 - 1))
    → ((rows : List Entry) → has_row row rows ≡ false → find (has_key (key_of row)) was.rows ≡ None
    → (most : ℕ) → AreLeft rows most was.rows was.reckoned → AreLeft rows most page.rows page.reckoned)
    → page.work ≡ was.work
    → LacksRow (Some (account, row)) first → IsFree (Some (account, row)) old → CountsFrom first old
    → CountsFrom first new
counts_put account row page was first old new here there differs changes left work lacks free counts =
    let none = there_found account (key_of row) was old None there free in
    let rows : List Entry = rows_at account first in
    let lacks_row = false_of (has_row row rows)
    (λ has. lacks (found_has row rows (sorted_at account first counts.sorted) has)) in
    counts_once account page was first old new here there
    (record {
      rows = differs rows lacks_row none;
      changes = changes none;
      left = left rows lacks_row none;
      work = work;
    })
    counts

-- where no register is kept for the account, the row doesn't stand there
pub none_there :
    (account : ℕ) (row : Entry) (registers : List (ℕ × Page)) → value_of account registers ≡ None
    → HasRow (Some (account, row)) registers → ⊥
none_there account row registers none has =
    let nothing = ap (λ (r : Option Page). find (has_key (key_of row)) (rows_in r)) none in
    let both = sym nothing ∙ has in cc

-- ---- the rows of one transaction
-- the row at a place stands at the number and the place
placed_is :
    (number place : ℕ) (t : Option Txn) (at : ℕ × Entry) → placed number t place ≡ Some at
    → ((key_of at.1).txn ≡ number) × ((key_of at.1).place ≡ place)
placed_is number place None at is = absurd cc
placed_is number place (Some t) at is = here (slice_get t.splits place) is
  where
    here :
        (o : Option Split) → option_and_then (placed_split number t place) o ≡ Some at
        → ((key_of at.1).txn ≡ number) × ((key_of at.1).place ≡ place)
    here None is = absurd cc
    here (Some split) is =
        let own : ℕ × Entry = (split.account, row_of number t place split) in
        elim (is_voided split.mark) as
        (λ v. (if v then None else Some own) ≡ Some at
        → ((key_of at.1).txn ≡ number) × ((key_of at.1).place ≡ place)) [
          | true ↦ λ none. absurd cc
          | false ↦ λ some.
              let same : own ≡ at = cc in (
                sym (ap (λ (x : ℕ × Entry). (key_of x.1).txn) same),
                sym (ap (λ (x : ℕ × Entry). (key_of x.1).place) same),
              )
        ] is

-- what is left of a row is that row, and not the other
left_parts :
    (row other : Option (ℕ × Entry)) (at : ℕ × Entry) → left_of row other ≡ Some at
    → (row ≡ Some at) × (other ≡ Some at → ⊥)
left_parts None other at is = absurd cc
left_parts (Some x) None at is = (is, λ same. absurd cc)
left_parts (Some x) (Some y) at is = here ((x.0 == y.0) && is_same x.1 y.1) refl is
  where
    here :
        (t : Bool) → ((x.0 == y.0) && is_same x.1 y.1) ≡ t → (if t then None else Some x) ≡ Some at
        → (Some x ≡ Some at) × (Some y ≡ Some at → ⊥)
    here true test some = absurd cc
    here false test some = (
      some,
      λ same.
          let one : y ≡ x = cc in
          let itself = ap (λ (p : ℕ × Entry). (x.0 == p.0) && is_same x.1 p.1) one ∙ pair_itself x in
          let both = sym test ∙ itself in cc,
    )

pick_own : (at : ℕ × Entry) → pick at.0 (key_of at.1) (Some at) ≡ Some at.1
pick_own at =
    let number : (at.0 == at.0) ≡ true = grind (arith, nat_tests) in
    ap (λ t. if t && has_key (key_of at.1) at.1 then Some at.1 else None) number
    ∙ ap (λ t. if t then Some at.1 else None) (key_itself at.1)

pick_is :
    (account : ℕ) (key : RowKey) (o : Option (ℕ × Entry)) (row : Entry) → pick account key o ≡ Some row
    → o ≡ Some (account, row)
pick_is account key None row is = absurd cc
pick_is account key (Some at) row is = here (at.0 == account) (has_key key at.1) refl is
  where
    here :
        (s t : Bool) → (at.0 == account) ≡ s → (if s && t then Some at.1 else None) ≡ Some row
        → Some at ≡ Some (account, row)
    here true true one some =
        let same : at.1 ≡ row = cc in
        ap (λ (n : ℕ). Some (n, at.1)) (eqb-true at.0 account one) ∙ ap (λ (e : Entry). Some (account, e)) same
    here true false one some = absurd cc
    here false t one some = absurd cc

-- a row that one of two transactions has and the other hasn't stands in registers with the rows of the first,
pub has_left :
    (number place : ℕ) (t other : Option Txn) (row : Option (ℕ × Entry)) (registers : List (ℕ × Page))
    → row ≡ left_at number t other place → HasRowsOf number t registers → HasRow row registers
has_left number place t other None registers is holds = tt
has_left number place t other (Some at) registers is holds =
    let parts = left_parts (placed number t place) (placed number other place) at (sym is) in
    let keys = placed_is number place t at parts.0 in
    holds.rows at.0 (key_of at.1) keys.0
    ∙ ap (λ (p : ℕ). pick at.0 (key_of at.1) (placed number t p)) keys.1
    ∙ ap (pick at.0 (key_of at.1)) parts.0 ∙ pick_own at

-- and not in those with the rows of the other
pub lacks_left :
    (number place : ℕ) (t other : Option Txn) (row : Option (ℕ × Entry)) (registers : List (ℕ × Page))
    → row ≡ left_at number t other place → HasRowsOf number other registers → LacksRow row registers
lacks_left number place t other None registers is holds = tt
lacks_left number place t other (Some at) registers is holds = λ there.
    let parts = left_parts (placed number t place) (placed number other place) at (sym is) in
    let keys = placed_is number place t at parts.0 in
    let picked = sym (holds.rows at.0 (key_of at.1) keys.0
    ∙ ap (λ (p : ℕ). pick at.0 (key_of at.1) (placed number other p)) keys.1) ∙ there in
    parts.1 (pick_is at.0 (key_of at.1) (placed number other place) at.1 picked)

before_none :
    (account : ℕ) (key : RowKey) (number place : ℕ) (t other : Option Txn) → key.place ≡ place
    → left_before account key number t other place ≡ None
before_none account key number place t other is =
    let past : nat_lt key.place place ≡ false = grind (arith, nat_tests, is) in
    ap (λ b. if b then pick account key (left_at number t other key.place) else None) past

-- it stands there still where those at the places before are taken out,
pub has_left_before :
    (number place : ℕ) (t other : Option Txn) (row : Option (ℕ × Entry)) (old now : List (ℕ × Page))
    → row ≡ left_at number t other place → HasRowsOf number t old → AreTaken number t other place old now
    → HasRow row now
has_left_before number place t other None old now is holds taken = tt
has_left_before number place t other (Some at) old now is holds taken =
    let parts = left_parts (placed number t place) (placed number other place) at (sym is) in
    let keys = placed_is number place t at parts.0 in
    taken.rows at.0 (key_of at.1)
    ∙ ap (λ (o : Option Entry). cut o (row_at at.0 (key_of at.1) old))
    (before_none at.0 (key_of at.1) number place t other keys.1)
    ∙ has_left number place t other (Some at) old is holds

-- and its place is free still where those at the places before are put in
pub free_left_before :
    (number place : ℕ) (t other : Option Txn) (row : Option (ℕ × Entry)) (old now : List (ℕ × Page))
    → row ≡ left_at number t other place → AreFree number t other old → ArePut number t other place old now
    → IsFree row now
free_left_before number place t other None old now is free put = tt
free_left_before number place t other (Some at) old now is free put =
    let parts = left_parts (placed number t place) (placed number other place) at (sym is) in
    let keys = placed_is number place t at parts.0 in
    let some = ap is_some (ap (λ (p : ℕ). pick at.0 (key_of at.1) (left_at number t other p)) keys.1
    ∙ ap (pick at.0 (key_of at.1)) (sym is) ∙ pick_own at) in
    put.rows at.0 (key_of at.1)
    ∙ ap (λ (o : Option Entry). option_or o (row_at at.0 (key_of at.1) old))
    (before_none at.0 (key_of at.1) number place t other keys.1)
    ∙ free.rows at.0 (key_of at.1) keys.0 some

-- where the rows of the old one that the new one hasn't are taken out, the places of the others are free
freed_row :
    (account : ℕ) (key : RowKey) (new old : Option (ℕ × Entry)) → is_some (pick account key (left_of new old)) ≡ true
    → cut (pick account key (left_of old new)) (pick account key old) ≡ None
freed_row account key None old some = absurd cc
freed_row account key (Some x) None some = refl
freed_row account key (Some x) (Some y) some =
    here ((x.0 == y.0) && is_same x.1 y.1) ((y.0 == x.0) && is_same y.1 x.1) refl refl some
  where
    here :
        (s t : Bool) → ((x.0 == y.0) && is_same x.1 y.1) ≡ s → ((y.0 == x.0) && is_same y.1 x.1) ≡ t
        → is_some (pick account key (if s then None else Some x)) ≡ true
        → cut (pick account key (if t then None else Some y)) (pick account key (Some y)) ≡ None
    here true t one two is = absurd cc
    here false false one two is = cut_itself (pick account key (Some y))
    here false true one two is =
        absurd (let same = ap (λ (p : ℕ × Entry). (p.0 == y.0) && is_same p.1 y.1) (sym (pair_is y x two)) in
        let other = sym one ∙ same ∙ pair_itself y in cc)

pub freed :
    (number : ℕ) (old new : Option Txn) (before mid : List (ℕ × Page)) → HasRowsOf number old before
    → AllTaken number old new before mid → AreFree number new old mid
freed number old new before mid holds taken = record {
  rows = λ account key same some.
      taken.rows account key
      ∙ ap (cut (pick account key (left_at number old new key.place))) (holds.rows account key same)
      ∙ freed_row account key (placed number new key.place) (placed number old key.place) some;
}

-- the registers of some transactions have the rows of each under its number
pub rows_held :
    (number : ℕ) (t : Option Txn) (registers : List (ℕ × Page)) (ts : List (ℕ × Txn)) → Holds registers ts
    → value_of number ts ≡ t → HasRowsOf number t registers
rows_held number t registers ts holds there = record {
  rows = λ account key same.
      holds.rows account key
      ∙ ap (λ (n : ℕ). pick account key (placed n (value_of n ts) key.place)) same
      ∙ ap (λ (o : Option Txn). pick account key (placed number o key.place)) there;
}

-- ---- leaves one after another
-- registers on the way that follow the leaves of one part more are counted on
pub on_way_counts :
    (before : List (ℕ × Txn)) (first old new : List (ℕ × Page)) (part others all : List Leaf) (last : Book)
    → all ≡ part ++ others → IsOnWay before old all last → CountsOn before part old new → Holds first before
    → CountsFrom first old → CountsFrom first new
on_way_counts before first old new part others all last is way follows there counts =
    let once = once_parts before part others way.mid (subst (λ (l : List Leaf). ChangeOnce before l way.mid) is
    way.once) in
    follows first way.mid way.rises once.0 there way.holds counts

-- ---- from registers of a book to those of another
pub counts_kept :
    (old new : List (ℕ × Page)) (before after : Book) → Keeps old before → Keeps new after → CountsFrom old new
    → (account : ℕ)
    → RisesBy (differing (register_of account before.transactions) (register_of account after.transactions))
    (changes_of account old) (changes_of account new)
counts_kept old new before after kept_old kept_new counts account =
    subst (λ (rows : List Entry). RisesBy (differing rows (register_of account after.transactions))
    (changes_of account old) (changes_of account new)) (kept_old.rows account)
    (subst (λ (rows : List Entry). RisesBy (differing (rows_at account old) rows) (changes_of account old)
    (changes_of account new)) (kept_new.rows account) (counts.each account))

pub left_kept :
    (old new : List (ℕ × Page)) (before after : Book) → Keeps old before → Keeps new after → CountsFrom old new
    → (account : ℕ)
    → AreLeft (register_of account before.transactions) (reckoned_of account old)
    (register_of account after.transactions) (reckoned_of account new)
left_kept old new before after kept_old kept_new counts account =
    subst (λ (rows : List Entry). AreLeft rows (reckoned_of account old) (register_of account after.transactions)
    (reckoned_of account new)) (kept_old.rows account)
    (subst (λ (rows : List Entry). AreLeft (rows_at account old) (reckoned_of account old) rows
    (reckoned_of account new)) (kept_new.rows account) (counts.left account))

-- ---- counts of 64 bits
pub bounded_with :
    (account : ℕ) (register : Page) (old new : List (ℕ × Page)) → new ≡ with_entry account register old
    → register.changes < 2 ^ 64 → AreBounded old → AreBounded new
bounded_with account register old new is less bounded = record {
  each = λ a.
      let value = ap changes_in (ap (value_of a) is ∙ value_of_with a account register old) in
      let here = by_test a (a == account) in omega (arith, value, here);
}
  where
    by_test : (a : ℕ) (t : Bool) → changes_in (if t then Some register else value_of a old) < 2 ^ 64
    by_test a true = less
    by_test a false = bounded.each a

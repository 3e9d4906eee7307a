-- The rows that an edit puts, counted for each account, and the room made for them.
use Rattle.std.proofs.Common.{◌≡◌, ℕ, suc, ◌+◌, ◌<◌, ◌≤◌, ◌==◌, nat_lt, Bool, true, false, if◌then◌else◌}
use Rattle.std.proofs.Common.{List, [], ◌∷◌, ◌++◌, length, Option, Some, None, is_some, slice_get, refl, sym, ap}
use Rattle.std.proofs.Common.{◌∙◌, subst, arith, Result, Ok, Err, OnOk}
use Rattle.std.proofs.lemmas.Bool.{eqb-true}
use Rattle.std.proofs.lemmas.Bool.Decides.{nat_tests}
use Rattle.std.proofs.lemmas.List.Sums.{sum_by_push}
use Rattle.book_commodity.specs.Table.{value_of, with_entry}
use Rattle.book_commodity.proofs.TableLemmas.{value_of_with}
use Rattle.book_ledger.specs.Page.{Page}
use Rattle.book_splits.specs.declared.split.Split.{Split}
use Rattle.book_undo.specs.Edit.{Leaf, OfCurrency, OfPut, OfGone}
use Rattle.book_ledger.specs.Change.{is_there}
use Rattle.book_ledger.specs.Room.{AreCounted, AreMade, Extends, HasPut, IsAdded, IsCounted, IsReady, count_in, counted}
use Rattle.book_ledger.specs.Room.{puts_on, room_of, splits_on}
use Rattle.book_ledger.proofs.EditLemmas.{puts-append}

-- ---- one account
pub added_by :
    (account extra sum : ℕ) (old new : List (ℕ × ℕ)) → new ≡ with_entry account sum old
    → sum ≡ counted account old + extra → IsAdded account extra old new
added_by account extra sum old new is same = record {
  values = λ other.
      ap (value_of other) is ∙ value_of_with other account sum old
      ∙ ap (λ (n : ℕ). if other == account then Some n else value_of other old) same;
}

added_count :
    (account extra : ℕ) (old new : List (ℕ × ℕ)) (other : ℕ) → IsAdded account extra old new
    → counted other new ≡ counted other old + (if account == other then extra else 0)
added_count account extra old new other added =
    ap count_in (added.values other) ∙ by_test (other == account) (account == other) refl refl
  where
    by_test :
        (s t : Bool) → (other == account) ≡ s → (account == other) ≡ t
        → count_in (if s then Some (counted account old + extra) else value_of other old)
        ≡ counted other old + (if t then extra else 0)
    by_test true true one two =
        ap (λ (n : ℕ). counted n old + extra) (eqb-true account other two)
    by_test true false one two = absurd (let same = eqb-true other account one in
        let turned : (account == other) ≡ true = grind (arith, nat_tests, same) in cc)
    by_test false true one two = absurd (let same = eqb-true account other two in
        let turned : (other == account) ≡ true = grind (arith, nat_tests, same) in cc)
    by_test false false one two = omega arith

added_kept :
    (account extra : ℕ) (old new : List (ℕ × ℕ)) (other : ℕ) → IsAdded account extra old new
    → is_there other old ≡ true → is_there other new ≡ true
added_kept account extra old new other added there =
    ap is_some (added.values other)
    ∙ elim (other == account) as
    (λ t. is_some (if t then Some (counted account old + extra) else value_of other old) ≡ true) [
      | true ↦ refl
      | false ↦ there
    ]

-- ---- splits
pub counted_none : (counts : List (ℕ × ℕ)) → AreCounted [] counts counts
counted_none counts = record { rows = λ account. omega arith; kept = λ account there. there }

pub counted_more :
    (splits : List Split) (split : Split) (all : List Split) (old mid new : List (ℕ × ℕ)) → splits ++ split ∷ [] ≡ all
    → AreCounted splits old mid → IsAdded split.account 1 mid new → AreCounted all old new
counted_more splits split all old mid new is before added = record {
  rows = λ account.
      let one = added_count split.account 1 mid new account added in
      let sum = sum_by_push (λ (s : Split). if s.account == account then 1 else 0) splits split in
      let end = ap (splits_on account) is in
      omega (arith, one, sum, end, before.rows account);
  kept = λ account there. added_kept split.account 1 mid new account added (before.kept account there);
}

-- what holds of a result holds where it follows
pub on_ok_then : {T E P Q : Type 0} (result : Result T E) → OnOk result P → (P → Q) → OnOk result Q
on_ok_then (Ok x) p next = next p
on_ok_then (Err e) p next = tt

-- ---- leaves
pub has_more :
    {S T : Type 0} (old : List (ℕ × S)) (new : List (ℕ × T)) (ls : List Leaf)
    → ((n : ℕ) → is_there n old ≡ true → is_there n new ≡ true) → HasPut old ls → HasPut new ls
has_more old new [] kept has = tt
has_more old new (OfCurrency c ∷ ls) kept has = has_more old new ls kept has
has_more old new (OfPut n t ∷ ls) kept has = (λ is. kept n (has.0 is), has_more old new ls kept has.1)
has_more old new (OfGone k n ∷ ls) kept has = has_more old new ls kept has

has_both :
    {T : Type 0} (kept : List (ℕ × T)) (xs ys : List Leaf) → HasPut kept xs → HasPut kept ys → HasPut kept (xs ++ ys)
has_both kept [] ys one two = two
has_both kept (OfCurrency c ∷ xs) ys one two = has_both kept xs ys one two
has_both kept (OfPut n t ∷ xs) ys one two = (one.0, has_both kept xs ys one.1 two)
has_both kept (OfGone k n ∷ xs) ys one two = has_both kept xs ys one two

pub nothing_counted : (counts : List (ℕ × ℕ)) → IsCounted [] counts counts
nothing_counted counts = record { rows = λ account. omega arith; kept = λ account there. there; accounts = tt }

pub leaves_counted :
    (xs ys all : List Leaf) (old mid new : List (ℕ × ℕ)) → xs ++ ys ≡ all → IsCounted xs old mid
    → IsCounted ys mid new → IsCounted all old new
leaves_counted xs ys all old mid new is one two = record {
  rows = λ account.
      let sum = puts-append account xs ys in
      let end = ap (puts_on account) is in
      omega (arith, sum, end, one.rows account, two.rows account);
  kept = λ account there. two.kept account (one.kept account there);
  accounts =
      subst (HasPut new) is (has_both new xs ys (has_more mid new xs two.kept one.accounts) two.accounts);
}

-- ---- the room that is made
-- registers with room for what was counted are ready
pub ready_made :
    (registers : List (ℕ × Page)) (counts : List (ℕ × ℕ)) (ls : List Leaf) → IsCounted ls [] counts
    → AreMade registers counts → IsReady registers ls
ready_made registers counts ls count made = record {
  rows = λ account. here account (value_of account counts) refl (count.rows account);
  accounts = has_more counts registers ls (λ n there. there_is n (value_of n counts) refl there) count.accounts;
}
  where
    here :
        (account : ℕ) (o : Option ℕ) → value_of account counts ≡ o
        → counted account counts ≡ 0 + puts_on account ls → puts_on account ls ≤ room_of account registers
    here account None is sum = let none = ap count_in is in omega (arith, none, sum)
    here account (Some n) is sum =
        let some = ap count_in is in omega (arith, some, sum, (made.each account n is).1)

    there_is : (n : ℕ) (o : Option ℕ) → value_of n counts ≡ o → is_some o ≡ true → is_there n registers ≡ true
    there_is n None is some = absurd cc
    there_is n (Some k) is some = (made.each n k is).0

-- The entries at the places before one have their room.
pub record MadeBefore (registers : List (ℕ × Page)) (counts : List (ℕ × ℕ)) (place : ℕ) : Type 0 where
  pub each :
      (k : ℕ) (e : ℕ × ℕ) → k < place → slice_get counts k ≡ Some e
      → (is_there e.0 registers ≡ true) × (e.1 ≤ room_of e.0 registers)

pub made_none : (registers : List (ℕ × Page)) (counts : List (ℕ × ℕ)) → MadeBefore registers counts 0
made_none registers counts = record { each = λ k e less is. absurd (omega (arith, less)) }

pub made_more :
    (old new : List (ℕ × Page)) (counts : List (ℕ × ℕ)) (place : ℕ) (entry : ℕ × ℕ) → MadeBefore old counts place
    → Extends old new → slice_get counts place ≡ Some entry → is_there entry.0 new ≡ true
    → entry.1 ≤ room_of entry.0 new → MadeBefore new counts (place + 1)
made_more old new counts place entry before extends is there room = record {
  each = λ k e less here. by_test k e (nat_lt k place) refl less here;
}
  where
    by_test :
        (k : ℕ) (e : ℕ × ℕ) (t : Bool) → nat_lt k place ≡ t → k < place + 1 → slice_get counts k ≡ Some e
        → (is_there e.0 new ≡ true) × (e.1 ≤ room_of e.0 new)
    by_test k e true lt less here =
        let was = before.each k e (grind (arith, nat_tests, lt)) here in
        (extends.kept e.0 was.0, omega (arith, was.1, extends.room e.0))
    by_test k e false ge less here =
        let past : place ≤ k = grind (arith, nat_tests, ge) in
        let same : k ≡ place = omega (arith, past, less) in
        let both = sym is ∙ ap (slice_get counts) (sym same) ∙ here in
        let entry_is : entry ≡ e = cc in (
          subst (λ (x : ℕ × ℕ). is_there x.0 new ≡ true) entry_is there,
          subst (λ (x : ℕ × ℕ). x.1 ≤ room_of x.0 new) entry_is room,
        )

entry_at :
    (n count : ℕ) (es : List (ℕ × ℕ)) → value_of n es ≡ Some count
    → (k : ℕ) × (k < length es) × (slice_get es k ≡ Some (n, count))
entry_at n count [] there = absurd cc
entry_at n count (e ∷ es) there =
    let Here : Bool → Type 0 = λ t. (n == e.0) ≡ t → (if t then Some e.1 else value_of n es) ≡ Some count
    → (k : ℕ) × (k < length (e ∷ es)) × (slice_get (e ∷ es) k ≡ Some (n, count)) in
    elim (n == e.0) as Here [
      | true ↦ λ same found.
          let value : e.1 ≡ count = cc in (
            0,
            omega arith,
            ap (λ (m : ℕ). Some (m, e.1)) (sym (eqb-true n e.0 same))
                ∙ ap (λ (m : ℕ). Some (n, m)) value,
          )
      | false ↦ λ other found.
          let rest = entry_at n count es found in (suc rest.0, omega (arith, rest.1), rest.2)
    ] refl there

pub made_all :
    (registers : List (ℕ × Page)) (counts : List (ℕ × ℕ)) (place : ℕ) → length counts ≤ place
    → MadeBefore registers counts place → AreMade registers counts
made_all registers counts place end made = record {
  each = λ account count is.
      let found = entry_at account count counts is in
      made.each found.0 (account, count) (omega (arith, found.1, end)) found.2;
}

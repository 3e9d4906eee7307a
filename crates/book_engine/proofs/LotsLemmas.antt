-- Which lots an engine shows, and that a question for them brings them up to their register.
use Rattle.std.proofs.Common.{◌≡◌, ℕ, ◌==◌, ◌⊎◌, inl, inr, Bool, true, false, if◌then◌else◌, All, List}
use Rattle.std.proofs.Common.{length, take, Option, Some, None, is_some, option_map, refl, sym, ap, ◌∙◌}
use Rattle.std.proofs.Common.{subst, arith, ⊎_elim, Result, Ok, Err, OnOk, is_ok}
use Rattle.std.proofs.lemmas.Bool.{eqb-true}
use Rattle.std.proofs.lemmas.Bool.Decides.{nat_tests}
use Rattle.std.proofs.lemmas.List.Elements.{All-weaker}
use Rattle.std.specs.Option.{option_map_or}
use Rattle.book_accounts.specs.Group.{is_security}
use Rattle.book_accounts.specs.declared.account.Account.{Account}
use Rattle.book_commodity.specs.Table.{value_of}
use Rattle.book_free.specs.Kept.{Kept as FreeKept}
use Rattle.book_ledger.specs.Changes.{changes_in, changes_of}
use Rattle.book_ledger.specs.Ledger.{Keeps, register_of, rows_in}
use Rattle.book_ledger.specs.Lots.{IsBroughtUp, reckoned_in, reckoned_of, work_in, work_of}
use Rattle.book_ledger.specs.Page.{Page, brought_up, lots_on}
use Rattle.book_lots.specs.Lots.{IsSmall, Reckoned}
use Rattle.book_register.specs.declared.entry.Entry.{Entry}
use Rattle.book_reports.proofs.RowLemmas.{IsSmallRow}
use Rattle.book_reports.specs.Measure.{CanBeSummed}
use Rattle.book_engine.specs.Changed.{AreKeptUp, AreLeft, AreReckoned, HasAllLots, HasSameLots, is_live_security}
use Rattle.book_engine.specs.Changed.{live_lots}
use Rattle.book_engine.specs.Kept.{Kept}

-- a security account is an account
security_there :
    (found : Option Account) → option_map_or (λ (a : Account). is_security a.kind) found false ≡ true
    → is_some found ≡ true
security_there None is = absurd cc
security_there (Some account) is = refl

-- the lots on the page of a security account are those of the first rows of its register
pub lots_live :
    (kept : Kept) (account : ℕ) → Keeps kept.registers kept.state.book
    → is_live_security kept.state.book account ≡ true
    → option_map lots_on (value_of account kept.registers) ≡ live_lots kept account
lots_live kept account keeps live =
    at (value_of account kept.registers) refl ∙ sym (ap (λ (t : Bool). if t then Some all else None) live)
  where
    rows : List Entry
    rows = register_of account kept.state.book.transactions

    lots_of : List Entry → ℕ → ℕ → Reckoned
    lots_of all count work = record { entries = take count all; work = work }

    all : Reckoned
    all = lots_of rows (reckoned_of account kept.registers) (work_of account kept.registers)

    at : (o : Option Page) → value_of account kept.registers ≡ o → option_map lots_on o ≡ Some all
    at None none =
        absurd (let there = keeps.live account (security_there (value_of account kept.state.book.accounts) live) in
        let both = sym there ∙ ap is_some none in cc)
    at (Some page) is =
        let same_rows : page.rows ≡ rows = sym (ap rows_in is) ∙ keeps.rows account in
        let count : page.reckoned ≡ reckoned_of account kept.registers = sym (ap reckoned_in is) in
        let work : page.work ≡ work_of account kept.registers = sym (ap work_in is) in
        ap (λ (l : List Entry). Some (lots_of l page.reckoned page.work)) same_rows
        ∙ ap (λ (n : ℕ). Some (lots_of rows n page.work)) count
        ∙ ap (λ (n : ℕ). Some (lots_of rows (reckoned_of account kept.registers) n)) work

pub not_live :
    (kept : Kept) (account : ℕ) → is_live_security kept.state.book account ≡ false → live_lots kept account ≡ None
not_live kept account not =
    ap (λ (t : Bool). if t then Some (record {
      entries = take (reckoned_of account kept.registers) (register_of account kept.state.book.transactions);
      work = work_of account kept.registers;
    }) else None) not

-- ---- lots that are brought up
-- The page of an account, where this is done with all its rows reckoned.
abbrev up : Bool → Page → Page
up done page = if done then brought_up page else page

changes_up : (done : Bool) (o : Option Page) → changes_in (option_map (up done) o) ≡ changes_in o
changes_up done None = refl
changes_up true (Some page) = refl
changes_up false (Some page) = refl

-- The lots of one account are brought up where this is done, and all else stays.
record IsReckonedFor (before now : Kept) (account : ℕ) (done : Bool) : Type 0 where
  keeps : Keeps before.registers before.state.book
  is : IsBroughtUp account done before.registers now.registers

page_of :
    (before now : Kept) (account : ℕ) (done : Bool) → IsReckonedFor before now account done
    → value_of account now.registers ≡ option_map (up done) (value_of account before.registers)
page_of before now account done by =
    let itself : (account == account) ≡ true = grind (arith, nat_tests) in
    by.is.values account
    ∙ ap (λ (t : Bool). if t then option_map (up done) (value_of account before.registers)
    else value_of account before.registers) itself

all_lots :
    (before now : Kept) (account : ℕ) → IsReckonedFor before now account true → HasAllLots before now account
all_lots before now account by = here (value_of account before.registers) refl (page_of before now account true by)
  where
    here :
        (o : Option Page) → value_of account before.registers ≡ o
        → value_of account now.registers ≡ option_map (up true) o → HasAllLots before now account
    here None was new =
        let count = ap {B = ℕ} length (sym (ap rows_in was) ∙ by.keeps.rows account) in
        let reckoned = ap reckoned_in was in
        let work = ap work_in was in
        let later = ap work_in new in
        record { reckoned = ap reckoned_in new ∙ count; work = omega (arith, later, count, reckoned, work) }
    here (Some page) was new =
        let count = ap {B = ℕ} length (sym (ap rows_in was) ∙ by.keeps.rows account) in
        let reckoned = ap reckoned_in was in
        let work = ap work_in was in
        let later = ap work_in new in
        record { reckoned = ap reckoned_in new ∙ count; work = omega (arith, later, count, reckoned, work) }

same_lots :
    (before now : Kept) (account : ℕ) → IsReckonedFor before now account false → HasSameLots before now account
same_lots before now account by =
    let same = page_of before now account false by ∙ as_it_is (value_of account before.registers) in
    record { reckoned = ap reckoned_in same; work = ap work_in same }
  where
    as_it_is : (o : Option Page) → option_map (up false) o ≡ o
    as_it_is None = refl
    as_it_is (Some page) = refl

one_of_both :
    (before now : Kept) (account : ℕ) (done : Bool) → IsReckonedFor before now account done
    → HasSameLots before now account ⊎ HasAllLots before now account
one_of_both before now account true by = inr (all_lots before now account by)
one_of_both before now account false by = inl (same_lots before now account by)

some_is : (one other : ℕ) → Some one ≡ Some other → one ≡ other
some_is one other is = ap (λ (o : Option ℕ). option_or_else o one) is
  where
    option_or_else : Option ℕ → ℕ → ℕ
    option_or_else None n = n
    option_or_else (Some m) n = m

pub kept_up :
    (before now : Kept) (account : ℕ) (done : Bool) (asked : Option ℕ) → asked ≡ Some account
    → Keeps before.registers before.state.book → IsBroughtUp account done before.registers now.registers
    → now.free ≡ before.free → AreKeptUp before now asked
kept_up before now account done asked asks keeps is free = record {
  free = ap (λ (kept : FreeKept). kept.index.changes) free;
  each = λ a. ap changes_in (is.values a) ∙ changes a (a == account) refl;
  others = λ a other. others a other (a == account) refl;
  one = λ a this.
      subst (λ (n : ℕ). HasSameLots before now n ⊎ HasAllLots before now n) (some_is account a (sym asks ∙ this))
      (one_of_both before now account done (record { keeps = keeps; is = is }));
}
  where
    old : List (ℕ × Page)
    old = before.registers

    changes :
        (a : ℕ) (t : Bool) → (a == account) ≡ t
        → changes_in (if t then option_map (up done) (value_of account old) else value_of a old) ≡ changes_of a old
    changes a true same =
        changes_up done (value_of account old)
        ∙ sym (ap (λ (n : ℕ). changes_of n old) (eqb-true a account same))
    changes a false other = refl

    others : (a : ℕ) → (asked ≡ Some a → ⊥) → (t : Bool) → (a == account) ≡ t → HasSameLots before now a
    others a other true same = absurd (other (asks ∙ ap (λ (n : ℕ). Some n) (sym (eqb-true a account same))))
    others a other false apart =
        let value = is.values a
        ∙ ap (λ (b : Bool). if b then option_map (up done) (value_of account old) else value_of a old) apart in
        record { reckoned = ap reckoned_in value; work = ap work_in value }

pub are_reckoned :
    (before now : Kept) (account : ℕ) (asked : Option ℕ) → asked ≡ Some account
    → Keeps before.registers before.state.book → IsBroughtUp account true before.registers now.registers
    → AreReckoned before now asked
are_reckoned before now account asked asks keeps is = record {
  one = λ a this.
      subst (HasAllLots before now) (some_is account a (sym asks ∙ this))
      (all_lots before now account (record { keeps = keeps; is = is }));
}

-- where no account is asked for nothing is brought up
pub none_asked :
    (before now : Kept) (asked : Option ℕ) → asked ≡ None → now.registers ≡ before.registers
    → now.free ≡ before.free → AreKeptUp before now asked × AreReckoned before now asked
none_asked before now asked none same free = (
  record {
    free = ap (λ (kept : FreeKept). kept.index.changes) free;
    each = λ a. ap (changes_of a) same;
    others = λ a other. record { reckoned = ap (reckoned_of a) same; work = ap (work_of a) same };
    one = λ a this. absurd (let both = sym none ∙ this in cc);
  },
  record { one = λ a this. absurd (let both = sym none ∙ this in cc) },
)

-- lots that are kept up and then left are kept up
pub kept_up_left :
    (before mid now : Kept) (asked : Option ℕ) → AreKeptUp before mid asked → AreLeft mid now
    → AreKeptUp before now asked
kept_up_left before mid now asked up left = record {
  free = left.free ∙ up.free;
  each = λ a. left.each a ∙ up.each a;
  others = λ a other.
      let same = up.others a other in
      record { reckoned = left.reckoned a ∙ same.reckoned; work = left.work a ∙ same.work };
  one = λ a this.
      ⊎_elim
      (λ same. inl (record { reckoned = left.reckoned a ∙ same.reckoned; work = left.work a ∙ same.work }))
      (λ all. inr (record { reckoned = left.reckoned a ∙ all.reckoned; work = left.work a ∙ all.work }))
      (up.one a this);
}

pub reckoned_left :
    (before mid now : Kept) (asked : Option ℕ) → AreReckoned before mid asked → AreLeft mid now
    → AreReckoned before now asked
reckoned_left before mid now asked up left = record {
  one = λ a this.
      let all = up.one a this in
      record { reckoned = left.reckoned a ∙ all.reckoned; work = left.work a ∙ all.work };
}

-- what holds where a call succeeds
pub where_done : {T E P : Type 0} (r : Result T E) → (is_ok r ≡ true → P) → OnOk r P
where_done (Ok x) holds = holds refl
where_done (Err e) holds = tt

-- ---- rows that can be reckoned
pub small_rows : (rows : List Entry) → CanBeSummed rows → All IsSmall rows
small_rows rows can =
    All-weaker IsSmallRow IsSmall (λ row small. record { quantity = small.1; value = small.0 }) rows can.small

-- What no change of the transactions does: it makes no split one that a reconciliation of the book marked.
use Rattle.std.proofs.Common.{◌≡◌, ℕ, ◌+◌, ◌<◌, ◌==◌, ◌&&◌, ◌||◌, not, ℤ, Bool, true, false, All, List, [], ◌∷◌}
use Rattle.std.proofs.Common.{if◌then◌else◌, map, Option, Some, None, is_none, find, refl, sym, ap, subst, ◌∙◌, arith}
use Rattle.std.specs.Option.{option_and_then}
use Rattle.std.specs.Ordering.{int_eq}
use Rattle.std.proofs.lemmas.Bool.{and_left, and_parts, and_right, eqb-true}
use Rattle.std.proofs.lemmas.Bool.Decides.{Decides-int_eq, nat_tests}
use Rattle.std.proofs.lemmas.List.Elements.{All-append, All-cons, All-head, All-map, All-nil, All-tail, All-weaker}
use Rattle.book_commodity.specs.Table.{value_of, with_entry, without_entry}
use Rattle.book_commodity.proofs.ListLemmas.{all_back, all_front}
use Rattle.book_splits.specs.Balance.{splits_of}
use Rattle.book_splits.specs.declared.reconciliation.MarkedSplit.{MarkedSplit}
use Rattle.book_splits.specs.declared.split.Mark.{Mark}
use Rattle.book_splits.specs.declared.split.Mark.TheVariants.{New, Cleared, Reconciled, Voided}
use Rattle.book_splits.specs.declared.split.Split.{Split}
use Rattle.book_splits.specs.declared.transaction.Txn.{Txn}
use Rattle.book_splits.specs.declared.void.KeptSplit.{KeptSplit}
use Rattle.book_splits.specs.declared.void.Void.{Void}
use Rattle.book_void.specs.Voiding.{restored, restored_split, restored_splits, restored_with, voided_for, voided_split}
use Rattle.book_splits.proofs.ReplacedLemmas.{all_of_one, all_splits_with, all_splits_without}
use Rattle.book_statement.specs.declared.line.Line.{Line}
use Rattle.book_reconcile.specs.Reconciliation.{has_mark, is_kept_by, is_mark, is_under}
use Rattle.book_sound.specs.MarkedTransactionRules.{is_reconciled}
use Rattle.book_sound.proofs.SplitFrames.{found_holds}
use Rattle.book_command.specs.declared.command.GivenOther.{GivenOther}
use Rattle.book_command.specs.declared.command.GivenSplit.{GivenSplit}
use Rattle.book_step.specs.AutoMatching as auto
use Rattle.book_step.specs.Editing as editing
use Rattle.book_step.specs.LineAdding as adding
use Rattle.book_step.specs.Marking as marking
use Rattle.book_step.specs.Posting.{new_splits}
use Rattle.book_step.specs.Reconciling as reconciling
use Rattle.book_step.specs.Remarking.{all_remarked}
use Rattle.book_step.specs.ScheduleRuns as runs
use Rattle.book_step.specs.Schedules.{Run}

-- A split isn't the marked one as it was.
abbrev pub IsOther : ℕ → ℕ → MarkedSplit → Split → Type 0
IsOther n account m split = is_kept_by n account m split ≡ false

-- Where no split of some transactions is a marked one as it was when a reconciliation with a number below the next
-- marked it, none of others is.
pub record MakesNone (next : ℕ) (old new : List (ℕ × Txn)) : Type 0 where
  pub each : (n account : ℕ) (m : MarkedSplit) → n < next → All (IsOther n account m) (splits_of old)
      → All (IsOther n account m) (splits_of new)

pub none-same : (next : ℕ) (ts : List (ℕ × Txn)) → MakesNone next ts ts
none-same next ts = record { each = λ n account m below all. all }

-- ---- splits that aren't reconciled

-- A split isn't reconciled.
abbrev IsOpen : Split → Type 0
IsOpen split = is_reconciled split.mark ≡ false

open-mark : (mark : Mark) → is_reconciled mark ≡ false → is_mark mark Reconciled ≡ false
open-mark New is = refl
open-mark Cleared is = refl
open-mark Reconciled is = absurd cc
open-mark Voided is = refl

open-other : (n account : ℕ) (m : MarkedSplit) (split : Split) → IsOpen split → IsOther n account m split
open-other n account m split is =
    let named = is_under n split.recon && int_eq split.quantity m.quantity in
    and_right (split.id == m.split) (has_mark Reconciled account split && named)
    (and_left (has_mark Reconciled account split) named
    (and_right (split.account == account) (is_mark split.mark Reconciled) (open-mark split.mark is)))

all-open :
    (n account : ℕ) (m : MarkedSplit) (splits : List Split) → All IsOpen splits
    → All (IsOther n account m) splits
all-open n account m splits all = All-weaker IsOpen (IsOther n account m) (open-other n account m) splits all

-- those of a post
new-open : (number : ℕ) (given : List GivenSplit) → All IsOpen (new_splits number given)
new-open number [] = All-nil IsOpen
new-open number (x ∷ given) = All-cons IsOpen _ (new_splits (number + 1) given) refl (new-open (number + 1) given)

-- those of a line's transaction
line-open : (number : ℕ) (line : Line) (others : List GivenOther) → All IsOpen (adding.line_splits number line others)
line-open number line others =
    All-cons IsOpen (adding.own_split number line) _ refl (new-open (number + 1) (map adding.given_split others))

-- those that schedules make
made-open : (number : ℕ) (template : List Split) → All IsOpen (runs.made_splits number template)
made-open number [] = All-nil IsOpen
made-open number (s ∷ template) =
    All-cons IsOpen (runs.made_split number s) (runs.made_splits (number + 1) template) refl
    (made-open (number + 1) template)

-- ---- a transaction more

-- A transaction whose splits aren't reconciled is put.
pub none-put :
    (next k : ℕ) (t : Txn) (ts : List (ℕ × Txn)) → All IsOpen t.splits → MakesNone next ts (with_entry k t ts)
none-put next k t ts open_ones = record {
  each = λ n account m below all.
      all_splits_with (IsOther n account m) k t ts (all-open n account m t.splits open_ones) all;
}

pub none-posted :
    (next k number : ℕ) (t : Txn) (given : List GivenSplit) (ts : List (ℕ × Txn)) → t.splits ≡ new_splits number given
    → MakesNone next ts (with_entry k t ts)
none-posted next k number t given ts is =
    none-put next k t ts (subst (All IsOpen) (sym is) (new-open number given))

pub none-added :
    (next k number : ℕ) (t : Txn) (line : Line) (others : List GivenOther) (ts : List (ℕ × Txn))
    → t.splits ≡ adding.line_splits number line others → MakesNone next ts (with_entry k t ts)
none-added next k number t line others ts is =
    none-put next k t ts (subst (All IsOpen) (sym is) (line-open number line others))

-- ---- the transactions of schedules

-- The splits of all entries aren't reconciled.
abbrev AreOpen : ℕ × Txn → Type 0
AreOpen e = All IsOpen e.1.splits

on-open : (next : ℕ) (template : Txn) (days : List ℤ) → All AreOpen (runs.made_on next template days)
on-open next template [] = All-nil AreOpen
on-open next template (day ∷ days) =
    All-cons AreOpen (next, runs.made_transaction next day template)
    (runs.made_on (next + runs.drawn_of template) template days) (made-open (next + 1) template.splits)
    (on-open (next + runs.drawn_of template) template days)

by-open : (next : ℕ) (all : List Run) → All AreOpen (runs.made_by next all)
by-open next [] = All-nil AreOpen
by-open next (run ∷ more) =
    All-append AreOpen (runs.made_on next run.schedule.template run.days) (runs.made_by (next + runs.drawn_on run) more)
    (on-open next run.schedule.template run.days) (by-open (next + runs.drawn_on run) more)

entries-others :
    (n account : ℕ) (m : MarkedSplit) (made ts : List (ℕ × Txn)) → All AreOpen made
    → All (IsOther n account m) (splits_of ts) → All (IsOther n account m) (splits_of (runs.with_entries made ts))
entries-others n account m [] ts open_ones all = all
entries-others n account m (e ∷ made) ts open_ones all =
    entries-others n account m made (with_entry e.0 e.1 ts) (All-tail AreOpen e made open_ones)
    (all_splits_with (IsOther n account m) e.0 e.1 ts
    (all-open n account m e.1.splits (All-head AreOpen e made open_ones)) all)

pub none-run :
    (next number : ℕ) (all : List Run) (ts : List (ℕ × Txn))
    → MakesNone next ts (runs.with_entries (runs.made_by number all) ts)
none-run next number all ts = record {
  each = λ n account m below others.
      entries-others n account m (runs.made_by number all) ts (by-open number all) others;
}

-- ---- an edit, and a deletion

abbrev test_of : ℕ → ℕ → MarkedSplit → ℕ → ℕ → ℤ → Mark → Option ℕ → Bool
test_of n account m id on amount mark recon =
    (id == m.split) && (((on == account) && is_mark mark Reconciled) && (is_under n recon
    && int_eq amount m.quantity))

kept-other :
    (n account : ℕ) (m : MarkedSplit) (split : Split) (given : GivenSplit) → IsOther n account m split
    → IsOther n account m (editing.kept_split split given)
kept-other n account m split given other =
    let test : ℕ → ℤ → Mark → Option ℕ → Bool = test_of n account m split.id in
    let Kept : Bool → Type 0 = λ b. editing.keeps_mark split given.account given.quantity ≡ b
    → test given.account given.quantity (if b then split.mark else New) (if b then split.recon else None) ≡ false in
    (elim (editing.keeps_mark split given.account given.quantity) as Kept [
      | true ↦ λ keeps.
          let same = (given.account == split.account) && int_eq given.quantity split.quantity in
          let Was : Bool → Type 0 = λ b. is_reconciled split.mark ≡ b → (not b || same) ≡ true
          → test given.account given.quantity split.mark split.recon ≡ false in
          (elim (is_reconciled split.mark) as Was [
            | true ↦ λ was both.
                let parts = and_parts (given.account == split.account) (int_eq given.quantity split.quantity) both in
                let account_same = eqb-true given.account split.account parts.0 in
                let amount_same = (Decides-int_eq given.quantity split.quantity).0 parts.1 in
                ap (λ (a : ℕ). test a given.quantity split.mark split.recon) account_same
                ∙ ap (λ (q : ℤ). test split.account q split.mark split.recon) amount_same
                ∙ other
            | false ↦ λ was both.
                open-other n account m
                (record split { account = given.account; quantity = given.quantity }) was
          ]) refl keeps
      | false ↦ λ loses.
          open-other n account m
          (record split { account = given.account; quantity = given.quantity; mark = New; recon = None }) refl
    ]) refl

kept-found :
    (n account : ℕ) (m : MarkedSplit) (splits : List Split) (given : Option ℕ) (split : Split)
    → option_and_then (λ id. find (λ (s : Split). s.id == id) splits) given ≡ Some split
    → All (IsOther n account m) splits → IsOther n account m split
kept-found n account m splits None split found all = absurd cc
kept-found n account m splits (Some id) split found all = found_holds (IsOther n account m) id splits split all found

one-edited :
    (n account : ℕ) (m : MarkedSplit) (next : ℕ) (given : GivenSplit) (found : Option Split)
    → ((split : Split) → found ≡ Some split → IsOther n account m split)
    → IsOther n account m (editing.edited_split next given found)
one-edited n account m next given None others = open-other n account m (editing.edited_split next given None) refl
one-edited n account m next given (Some split) others = kept-other n account m split given (others split refl)

all-edited :
    (n account : ℕ) (m : MarkedSplit) (splits : List Split) (next : ℕ) (given : List GivenSplit)
    → All (IsOther n account m) splits → All (IsOther n account m) (editing.edited_splits splits next given)
all-edited n account m splits next [] all = All-nil (IsOther n account m)
all-edited n account m splits next (x ∷ given) all =
    let found = editing.kept_by splits x in
    All-cons (IsOther n account m) (editing.edited_split next x found)
    (editing.edited_splits splits (next + editing.drawn_for found) given)
    (one-edited n account m next x found (λ split is. kept-found n account m splits x.id split is all))
    (all-edited n account m splits (next + editing.drawn_for found) given all)

-- A transaction is put whose splits are those of the one that stood there, edited.
pub none-edited :
    (next k number : ℕ) (old new : Txn) (given : List GivenSplit) (ts : List (ℕ × Txn)) → value_of k ts ≡ Some old
    → new.splits ≡ editing.edited_splits old.splits number given → MakesNone next ts (with_entry k new ts)
none-edited next k number old new given ts there is = record {
  each = λ n account m below all.
      let Others : List Split → Type 0 = All (IsOther n account m) in
      let own = all_of_one (IsOther n account m) k old ts there all in
      all_splits_with (IsOther n account m) k new ts
      (subst Others (sym is) (all-edited n account m old.splits number given own)) all;
}

-- ---- a transaction that is voided, and one that is brought back

voided-open : (splits : List Split) → All IsOpen (map voided_split splits)
voided-open [] = All-nil IsOpen
voided-open (s ∷ splits) = All-cons IsOpen (voided_split s) (map voided_split splits) refl (voided-open splits)

pub none-voided :
    (next k : ℕ) (reason : List ℕ) (old : Txn) (ts : List (ℕ × Txn))
    → MakesNone next ts (with_entry k (voided_for reason old) ts)
none-voided next k reason old ts = none-put next k (voided_for reason old) ts (voided-open old.splits)

restored-open : (splits : List Split) (kept : List KeptSplit) → All IsOpen (restored_splits splits kept)
restored-open [] kept = All-nil IsOpen
restored-open (s ∷ splits) [] = All-nil IsOpen
restored-open (s ∷ splits) (k ∷ kept) =
    All-cons IsOpen (restored_split s k) (restored_splits splits kept) refl (restored-open splits kept)

with-open : (t : Txn) (voided : Option Void) → is_none voided ≡ false → All IsOpen (restored_with t voided).splits
with-open t None is = absurd cc
with-open t (Some void) is = restored-open t.splits void.kept

pub none-restored :
    (next k : ℕ) (old : Txn) (ts : List (ℕ × Txn)) → is_none old.voided ≡ false
    → MakesNone next ts (with_entry k (restored old) ts)
none-restored next k old ts voided = none-put next k (restored old) ts (with-open old old.voided voided)

-- A transaction is taken.
pub none-left : (next k : ℕ) (ts : List (ℕ × Txn)) → MakesNone next ts (without_entry k ts)
none-left next k ts = record {
  each = λ n account m below all. all_splits_without (IsOther n account m) k ts all;
}

-- ---- splits that are marked otherwise

-- A rule makes no split the marked one as it was.
pub record RuleMakesNone (next : ℕ) (rule : ℤ → Split → Split) : Type 0 where
  pub each : (n account : ℕ) (m : MarkedSplit) → n < next → (day : ℤ) (split : Split) → IsOther n account m split
      → IsOther n account m (rule day split)

remarked-others :
    (P : Split → Type 0) (rule : ℤ → Split → Split) (ts : List (ℕ × Txn))
    → ((day : ℤ) (split : Split) → P split → P (rule day split)) → All P (splits_of ts)
    → All P (splits_of (all_remarked rule ts))
remarked-others P rule [] each all = all
remarked-others P rule (e ∷ ts) each all =
    let front = all_front P e.1.splits (splits_of ts) all in
    let back = all_back P e.1.splits (splits_of ts) all in
    All-append P (map (rule e.1.day) e.1.splits) (splits_of (all_remarked rule ts))
    (All-map P (rule e.1.day) e.1.splits
    (All-weaker P (λ (s : Split). P (rule e.1.day s)) (each e.1.day) e.1.splits front))
    (remarked-others P rule ts each back)

pub none-remarked :
    (next : ℕ) (rule : ℤ → Split → Split) (ts : List (ℕ × Txn)) → RuleMakesNone next rule
    → MakesNone next ts (all_remarked rule ts)
none-remarked next rule ts makes = record {
  each = λ n account m below all.
      remarked-others (IsOther n account m) rule ts (makes.each n account m below) all;
}

-- one of them is marked as new or as cleared
mark-makes :
    (next number : ℕ) (mark : Mark) → is_reconciled mark ≡ false
    → RuleMakesNone next (λ day. marking.marked_where number mark)
mark-makes next number mark not_yet = record {
  each = λ n account m below day split other.
      let Same : Bool → Type 0 =
      λ b. IsOther n account m (if b then marking.marked_as mark split else split) in
      elim (split.id == number) as Same [
        | true ↦ open-other n account m (marking.marked_as mark split) not_yet
        | false ↦ other
      ];
}

pub none-marked :
    (next number : ℕ) (mark : Mark) (ts : List (ℕ × Txn)) → is_reconciled mark ≡ false
    → MakesNone next ts (map (λ (e : ℕ × Txn). (e.0, marking.remarked number mark e.1)) ts)
none-marked next number mark ts not_yet =
    none-remarked next (λ day. marking.marked_where number mark) ts (mark-makes next number mark not_yet)

-- those that are taken are cleared
pub clearing-makes : (next : ℕ) (taken : ℕ → Bool) → RuleMakesNone next (auto.clearing taken)
clearing-makes next taken = record {
  each = λ n account m below day split other.
      let Clears : Bool → Type 0 = λ b. IsOther n account m (if b then auto.cleared split else split) in
      elim (auto.becomes_cleared taken split) as Clears [
        | true ↦ open-other n account m (auto.cleared split) refl
        | false ↦ other
      ];
}

-- those that a reconciliation marks are reconciled under the next number
pub marking-makes :
    (next account : ℕ) (upto : ℤ) → RuleMakesNone next (reconciling.marked_under next account upto)
marking-makes next of upto = record {
  each = λ n account m below day split other.
      let marked = reconciling.reconciled_under next split in
      let Marks : Bool → Type 0 = λ b. IsOther n account m (if b then marked else split) in
      let apart : (next == n) ≡ false = grind (arith, nat_tests, below) in
      let last = int_eq split.quantity m.quantity in
      elim (reconciling.is_to_mark of upto day split) as Marks [
        | true ↦ and_right (split.id == m.split) (has_mark Reconciled account marked && ((next == n) && last))
            (and_right (has_mark Reconciled account marked) ((next == n) && last) (and_left (next == n) last apart))
        | false ↦ other
      ];
}

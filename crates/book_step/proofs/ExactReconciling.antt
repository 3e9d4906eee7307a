-- The edit of a reconciliation is exact for a sound book, and leads to the book with the reconciliation and the splits
-- that it marks; and what the commands come to.
use Rattle.std.proofs.Common.{◌≡◌, ◌≢◌, ℕ, ◌==◌, ℤ, pos, int_le, not, Bool, true, false, if◌then◌else◌, List, [], ◌∷◌}
use Rattle.std.proofs.Common.{◌++◌, Option, Some, None, option_map, Result, Ok, Err, refl, sym, ap, subst, ◌∙◌, arith}
use Rattle.std.proofs.lemmas.Bool.{and_parts}
use Rattle.std.proofs.lemmas.Bool.Decides.{Decides-int_eq, nat_tests}
use Rattle.std.specs.Ordering.{int_eq}
use Rattle.std.specs.Result.{IsErrAnd}
use Rattle.book_commodity.specs.Rules.{broken_where, first_broken}
use Rattle.book_commodity.specs.Table.{value_of}
use Rattle.book_commodity.proofs.DrawnLemmas.{drawn_free}
use Rattle.book_commodity.proofs.RuleLemmas.{first-here, first-past}
use Rattle.book_splits.specs.declared.reconciliation.Recon.{Recon}
use Rattle.book_splits.specs.declared.split.Mark.{Mark}
use Rattle.book_splits.specs.declared.split.Mark.TheVariants.{Cleared}
use Rattle.book_splits.specs.declared.split.Split.{Split}
use Rattle.book_splits.specs.declared.transaction.Txn.{Txn}
use Rattle.book_statement.specs.declared.held.Held.{Held}
use Rattle.book_undo.specs.Book.{Book}
use Rattle.book_undo.specs.Edit.{OfPut, edited, is_nothing}
use Rattle.book_undo.specs.Exact.{IsExact}
use Rattle.book_undo.specs.declared.edit.Edit.{Edit, Put}
use Rattle.book_undo.specs.declared.thing.Thing.{Thing}
use Rattle.book_undo.specs.declared.thing.Thing.TheVariants as thing
use Rattle.book_reconcile.specs.Reconciliation.{has_mark, is_mark}
use Rattle.book_sound.proofs.SoundFacts.{tables_rise}
use Rattle.book_sound.specs.ReconciliationRules.{marked_numbers}
use Rattle.book_command.specs.declared.answer.Answer.{Answer}
use Rattle.book_command.specs.declared.answer.Answer.TheVariants as answer
use Rattle.book_command.specs.declared.refusal.Refusal.{Refusal}
use Rattle.book_command.specs.declared.refusal.Refusal.TheVariants as refusal
use Rattle.book_step.specs.Importing.{whole_edit}
use Rattle.book_step.specs.Outcome.{StepsTo, changing}
use Rattle.book_step.specs.Reconciling.{book_reconciled, differs, finish_rules, finished, is_to_mark, marked_under}
use Rattle.book_step.specs.Reconciling.{reconcile_at, reconcile_closed, reconcile_of, reconcile_statement}
use Rattle.book_step.specs.Reconciling.{reconciled_under, reconciling}
use Rattle.book_step.specs.Remarking.{ChangesMarksAlone, ChangesWhere, newly_remarked}
use Rattle.book_step.specs.ScheduleRuns.{transaction_edits}
use Rattle.book_step.specs.Schedules.{Finds}
use Rattle.book_step.specs.Soundness.{IsSound}
use Rattle.book_step.specs.State.{State}
use Rattle.book_command.specs.declared.rule.Rule.{Rule}
use Rattle.book_command.specs.declared.rule.Rule.TheVariants.{Difference}
use Rattle.book_step.specs.declared.step.Step.{Step}
use Rattle.book_step.proofs.ExactImport.{something_whole}
use Rattle.book_step.proofs.OutcomeLemmas.{broken-changing, past-changing}
use Rattle.book_step.proofs.RemarkTable.{IsBehind, all_remarked-edits, all_remarked-exact}

-- ---- what the rule of a reconciliation changes

pub marks_alone : (number account : ℕ) (upto : ℤ) → ChangesMarksAlone (marked_under number account upto)
marks_alone number account upto = record { each = λ day s. either (is_to_mark account upto day s) s }
  where
    either : (b : Bool) (s : Split)
        → (if b then reconciled_under number s else s)
        ≡ record s {
          mark = (if b then reconciled_under number s else s).mark;
          recon = (if b then reconciled_under number s else s).recon;
        }
    either true s = refl
    either false s = refl

-- a cleared split has another mark
cleared_is_not : (number account : ℕ) (s : Split) → has_mark Cleared account s ≡ true → reconciled_under number s ≢ s
cleared_is_not number account s has same =
    let cleared = (and_parts (s.account == account) (is_mark s.mark Cleared) has).1 in
    let other = ap (λ (m : Mark). is_mark m Cleared) (ap (λ (x : Split). x.mark) same) ∙ cleared in
    absurd cc

pub marks_where :
    (number account : ℕ) (upto : ℤ) → ChangesWhere (is_to_mark account upto) (marked_under number account upto)
marks_where number account upto = record {
  stays = λ day s none. ap (λ (b : Bool). if b then reconciled_under number s else s) none;
  changes = λ day s some same.
      cleared_is_not number account s (and_parts (has_mark Cleared account s) (int_le day upto) some).0
      (sym (ap (λ (b : Bool). if b then reconciled_under number s else s) some) ∙ same);
}

-- ---- the edit

none_some : (found : Option Recon) (y : Thing) → found ≡ None → option_map (λ r. thing.Recon r) found ≢ Some y
none_some None y none same = absurd cc
none_some (Some x) y none same = absurd cc

recon_behind :
    (book : Book) (n : ℕ) (recon : Recon) → value_of n book.reconciliations ≡ None
    → IsBehind book (Put n (thing.Recon recon) ∷ []) (OfPut n (thing.Recon recon) ∷ [])
recon_behind book n recon free = record {
  are = refl;
  flat = refl;
  there = refl;
  order = λ before less. grind (arith, nat_tests, less);
  change = (none_some (value_of n book.reconciliations) (thing.Recon recon) free, tt);
}

pub reconciling_exact :
    (state : State) (recon : Recon) → IsSound state → IsExact state.book (reconciling state.book state.next recon)
reconciling_exact state recon is =
    let book = state.book in
    let n = state.next in
    all_remarked-exact (is_to_mark recon.account recon.day) (marked_under n recon.account recon.day)
    (Put n (thing.Recon recon) ∷ []) (OfPut n (thing.Recon recon) ∷ []) book
    (marks_where n recon.account recon.day) (tables_rise book is.book)
    (recon_behind book n recon (drawn_free n book.reconciliations is.drawn.reconciliations))

pub reconciling_leads :
    (state : State) (recon : Recon) → IsSound state
    → edited (reconciling state.book state.next recon) state.book ≡ book_reconciled state.book state.next recon
reconciling_leads state recon is =
    let n = state.next in
    all_remarked-edits (is_to_mark recon.account recon.day) (marked_under n recon.account recon.day)
    (Put n (thing.Recon recon) ∷ []) state.book (marks_where n recon.account recon.day) is.book.transactions.rise

puts_something :
    (puts : List (ℕ × Txn)) (n : ℕ) (recon : Recon)
    → is_nothing (whole_edit (transaction_edits puts ++ Put n (thing.Recon recon) ∷ [])) ≡ false
puts_something [] n recon = refl
puts_something (put ∷ puts) n recon =
    something_whole (Put put.0 (thing.Txn put.1)) (transaction_edits puts ++ Put n (thing.Recon recon) ∷ []) refl

pub reconciling_something : (book : Book) (n : ℕ) (recon : Recon) → is_nothing (reconciling book n recon) ≡ false
reconciling_something book n recon =
    puts_something
    (newly_remarked (is_to_mark recon.account recon.day) (marked_under n recon.account recon.day) book.transactions)
    n recon

-- ---- the rules

pub no-difference : (by : ℤ) → by ≡ pos 0 → first_broken (differs by ∷ []) ≡ None
no-difference by is =
    ap (λ (b : Bool). first_broken (broken_where (not b) (Difference by) ∷ [])) ((Decides-int_eq by (pos 0)).1 is)

pub some-difference : (by : ℤ) → (by ≡ pos 0 → ⊥) → first_broken (differs by ∷ []) ≡ Some (Difference by)
some-difference by other =
    let Zero : Bool → Type 0 = λ b. int_eq by (pos 0) ≡ b
    → first_broken (broken_where (not b) (Difference by) ∷ []) ≡ Some (Difference by) in
    elim (int_eq by (pos 0)) as Zero [
      | true ↦ λ same. absurd (other ((Decides-int_eq by (pos 0)).0 same))
      | false ↦ λ differs. refl
    ] refl

-- what is refused by the first rules is refused by all
pub finds-refused :
    {T U : Type 0} (rules more : List (Option Rule)) (Holds : T → Type 0) (Others : U → Type 0) (error : Refusal)
    → Finds rules Holds (Err error) → Finds (rules ++ more) Others (Err error)
finds-refused rules more Holds Others (refusal.Broken rule) refused = first-here rules more rule refused
finds-refused rules more Holds Others refusal.Keeper refused = absurd refused
finds-refused rules more Holds Others refusal.OutOfMemory refused = tt

pub finds-broken :
    {T : Type 0} (rules : List (Option Rule)) (Holds : T → Type 0) (rule : Rule) (result : Result T Refusal)
    → IsErrAnd result (λ error. error ≡ refusal.Broken rule) → first_broken rules ≡ Some rule
    → Finds rules Holds result
finds-broken rules Holds rule (Ok x) is broken = absurd is
finds-broken {T} rules Holds rule (Err error) is broken =
    subst (λ (e : Refusal). Finds {T = T} rules Holds (Err e)) (sym is) broken

-- ---- what the commands come to

pub finish-refused :
    {T : Type 0} (state : State) (rules : List (Option Rule)) (answered : ℕ → List ℕ → Answer) (account : ℕ)
    (day closing : ℤ) (error : Refusal) (Holds : T → Type 0) → first_broken rules ≡ None
    → Finds (finish_rules state.book account day closing) Holds (Err error)
    → StepsTo state (reconcile_of state rules answered account day closing) (Err error)
finish-refused state rules answered account day closing (refusal.Broken rule) Holds unbroken broken =
    let recon = finished state.book account day closing in
    let more = finish_rules state.book account day closing in
    broken-changing state (rules ++ more) (book_reconciled state.book state.next recon) 1
    (answered state.next (marked_numbers recon.marked)) rule (first-past rules more unbroken ∙ broken)
finish-refused state rules answered account day closing refusal.Keeper Holds unbroken broken = absurd broken
finish-refused state rules answered account day closing refusal.OutOfMemory Holds unbroken broken = tt

pub finish-changed :
    (state : State) (rules : List (Option Rule)) (answered : ℕ → List ℕ → Answer) (account : ℕ) (day closing : ℤ)
    (edit : Edit) (number : ℕ) (marked : List ℕ) (result : Result Step Refusal) → IsSound state
    → first_broken rules ≡ None → first_broken (finish_rules state.book account day closing) ≡ None
    → edit ≡ reconciling state.book state.next (finished state.book account day closing)
    → number ≡ state.next
    → marked ≡ marked_numbers (finished state.book account day closing).marked
    → StepsTo state (changing state [] (edited edit state.book) 1 (answered number marked)) result
    → StepsTo state (reconcile_of state rules answered account day closing) result
finish-changed state rules answered account day closing edit number marked result is unbroken kept made numbered
    listed steps =
    let recon = finished state.book account day closing in
    let more = finish_rules state.book account day closing in
    let leads = ap (λ (e : Edit). edited e state.book) made ∙ reconciling_leads state recon is in
    let by_book = subst (λ (b : Book). StepsTo state (changing state [] b 1 (answered number marked)) result) leads
    steps in
    let by_number = subst (λ (n : ℕ). StepsTo state
    (changing state [] (book_reconciled state.book state.next recon) 1 (answered n marked)) result) numbered by_book in
    let whole = subst (λ (ns : List ℕ). StepsTo state
    (changing state [] (book_reconciled state.book state.next recon) 1 (answered state.next ns)) result) listed
    by_number in
    past-changing state (rules ++ more) (book_reconciled state.book state.next recon) 1
    (answered state.next (marked_numbers recon.marked)) result (first-past rules more unbroken ∙ kept) whole

-- of a statement that is there and has a closing balance
pub at-closed :
    (state : State) (n : ℕ) (held : Held) (said closing : ℤ) (result : Result Step Refusal)
    → value_of n state.book.statements ≡ Some held → held.closing ≡ Some closing → said ≡ closing
    → StepsTo state
    (reconcile_of state [] (λ number marked. answer.ReconcileStatement number marked) held.account held.day said) result
    → StepsTo state (reconcile_statement state n) result
at-closed state n held said closing result there closed same steps =
    subst (λ (found : Option Held). StepsTo state (reconcile_at state n found) result) (sym there)
    (subst (λ (balance : Option ℤ). StepsTo state (reconcile_closed state n held balance) result) (sym closed)
    (subst (λ (balance : ℤ). StepsTo state (reconcile_closed state n held (Some balance)) result) same steps))

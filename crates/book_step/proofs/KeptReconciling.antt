-- A reconciliation from the register of its account: the limits of a sound book hold for the register, and the
-- transactions found under the numbers of those with a split to mark are those that become others.
use Rattle.std.proofs.Common.{◌≡◌, ℕ, ℤ, Bool, true, false, if◌then◌else◌, List, [], ◌∷◌, ◌++◌, filter, flat_map, map}
use Rattle.std.proofs.Common.{◌+◌, ◌<◌, length, get_or, take, append-nil, Option, Some, None, option_map, refl, sym, ap}
use Rattle.std.proofs.Common.{◌∙◌, arith}
use Rattle.std.proofs.lemmas.List.{take_more}
use Rattle.std.proofs.lemmas.List.Concat.{flat_map-append}
use Rattle.std.proofs.lemmas.Bool.Decides.{nat_tests}
use Rattle.book_commodity.specs.Table.{Rises, value_of}
use Rattle.book_register.specs.Register.{Rows}
use Rattle.book_register.specs.declared.entry.Entry.{Entry}
use Rattle.book_splits.specs.declared.split.Split.{Split}
use Rattle.book_splits.specs.declared.transaction.Txn.{Txn}
use Rattle.book_undo.specs.Book.{Book}
use Rattle.book_undo.specs.declared.edit.Edit.{Edit, Put}
use Rattle.book_undo.specs.declared.thing.Thing.TheVariants as thing
use Rattle.book_sound.proofs.SoundFacts.{amounts_are_small}
use Rattle.book_sound.proofs.SplitFrames.{above_there}
use Rattle.book_ledger.specs.Ledger.{Keeps, register_of, rows_in}
use Rattle.book_ledger.specs.Page.{Page, register_on}
use Rattle.book_finish.specs.Kept.{AreWithinLimits, numbers_to_mark}
use Rattle.book_finish.proofs.LimitLemmas.{within-limits}
use Rattle.book_step.specs.Reconciling.{is_to_mark, marked_under}
use Rattle.book_step.specs.Remarking.{has_touched, remarked, remarked_where, remarking, remarking_one}
use Rattle.book_step.specs.ScheduleRuns.{transaction_edits}
use Rattle.book_step.specs.Soundness.{IsSound}
use Rattle.book_step.specs.State.{State}

-- the rows of the register that is kept for an account, or none, are those of its register
abbrev rows_found : Option Rows → List Entry
rows_found None = []
rows_found (Some register) = register.rows

pub kept-rows : (registers : List (ℕ × Page)) (book : Book) (account : ℕ) (found : Option Rows)
    → Keeps registers book → found ≡ option_map register_on (value_of account registers)
    → rows_found found ≡ register_of account book.transactions
kept-rows registers book account found keeps is =
    ap rows_found is ∙ same (value_of account registers) ∙ keeps.rows account
  where
    same : (page : Option Page) → rows_found (option_map register_on page) ≡ rows_in page
    same None = refl
    same (Some page) = refl

pub register-limits : (state : State) (account : ℕ) → IsSound state
    → AreWithinLimits (register_of account state.book.transactions)
register-limits state account is =
    within-limits account state.book.transactions (amounts_are_small state.book is.book) is.book.few_splits

-- The edits of the transactions under some numbers of a table, as a rule makes them.
abbrev pub remarking_at : (ℤ → Split → Split) → List (ℕ × Txn) → List ℕ → List Edit
remarking_at rule all numbers = flat_map (λ number. remarking_one rule number (value_of number all)) numbers

at-touched : (touches : ℤ → Split → Bool) (rule : ℤ → Split → Split) (all ts : List (ℕ × Txn)) → Rises ts
    → ((k : ℕ) (x : Txn) → value_of k ts ≡ Some x → value_of k all ≡ Some x)
    → remarking_at rule all (map (λ (e : ℕ × Txn). e.0) (filter (λ (e : ℕ × Txn). has_touched touches e.1) ts))
    ≡ remarking touches rule ts
at-touched touches rule all [] rises there = refl
at-touched touches rule all (e ∷ ts) rises there =
    let chosen = filter (λ (x : ℕ × Txn). has_touched touches x.1) ts in
    let more = remarked_where (has_touched touches) rule ts in
    let first : value_of e.0 (e ∷ ts) ≡ Some e.1 = grind (arith, nat_tests) in
    let rest = at-touched touches rule all ts rises.1
    (λ k x found.
    let past = above_there e.0 k x ts rises.0 found in
    let later : value_of k (e ∷ ts) ≡ Some x = grind (arith, nat_tests, past, found) in
    there k x later) in
    elim (has_touched touches e.1) as
    (λ (b : Bool). remarking_at rule all (map (λ (x : ℕ × Txn). x.0) (if b then e ∷ chosen else chosen))
    ≡ transaction_edits (if b then (e.0, remarked rule e.1) ∷ more else more)) [
      | true ↦ ap (λ (o : Option Txn). remarking_one rule e.0 o
          ++ remarking_at rule all (map (λ (x : ℕ × Txn). x.0) chosen)) (there e.0 e.1 first)
          ∙ ap (λ (l : List Edit). Put e.0 (thing.Txn (remarked rule e.1)) ∷ l) rest
      | false ↦ rest
    ]

pub at-numbers : (number account : ℕ) (upto : ℤ) (ts : List (ℕ × Txn)) → Rises ts
    → remarking_at (marked_under number account upto) ts (numbers_to_mark account upto ts)
    ≡ remarking (is_to_mark account upto) (marked_under number account upto) ts
at-numbers number account upto ts rises =
    at-touched (is_to_mark account upto) (marked_under number account upto) ts ts rises (λ k x found. found)

-- the edits so far and that of the next number are those up to it
pub edits-more : (rule : ℤ → Split → Split) (all : List (ℕ × Txn)) (numbers : List ℕ) (i : ℕ) (found : Option Txn)
    (done new : List Edit) → i < length numbers → found ≡ value_of (get_or numbers i 0) all
    → done ≡ remarking_at rule all (take i numbers) → new ≡ done ++ remarking_one rule (get_or numbers i 0) found
    → new ≡ remarking_at rule all (take (i + 1) numbers)
edits-more rule all numbers i found done new below there so_far more =
    let one : ℕ → List Edit = λ k. remarking_one rule k (value_of k all) in
    let n = get_or numbers i 0 in
    more
    ∙ ap (λ (o : Option Txn). done ++ remarking_one rule n o) there
    ∙ ap (λ (l : List Edit). l ++ one n) so_far
    ∙ ap (λ (l : List Edit). remarking_at rule all (take i numbers) ++ l) (sym (append-nil (one n)))
    ∙ sym (flat_map-append one (take i numbers) (n ∷ []))
    ∙ ap (remarking_at rule all) (sym (take_more numbers i 0 below))

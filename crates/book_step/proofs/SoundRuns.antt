-- A run of schedules leads from a sound state to a sound one: each transaction that is made keeps the rules of its
-- template, and each schedule its own.
use Rattle.std.proofs.Common.{◌≡◌, ℕ, suc, ◌+◌, ◌*◌, ◌<◌, ◌≤◌, ◌==◌, Bool, true, false, ℤ, All, List, [], ◌∷◌, ◌++◌}
use Rattle.std.proofs.Common.{if◌then◌else◌, length, map, Option, Some, refl, sym, ap, subst, ◌∙◌, arith}
use Rattle.std.specs.Prelude.{⊤}
use Rattle.std.proofs.Math.ListN.{length-append}
use Rattle.std.proofs.lemmas.Bool.Decides.{nat_tests}
use Rattle.std.proofs.lemmas.List.Elements.{All-head, All-tail}
use Rattle.book_commodity.specs.Table.{Rises, value_of, with_entry}
use Rattle.book_commodity.proofs.DrawnLemmas.{drawn_below, length_changed, length_drawn}
use Rattle.book_commodity.proofs.RuleLemmas.{kept_back, not-broken}
use Rattle.book_splits.specs.Balance.{splits_of}
use Rattle.book_splits.specs.TransactionRules.{numbers_of}
use Rattle.book_splits.specs.declared.transaction.Txn.{Txn}
use Rattle.book_splits.proofs.BalanceLemmas.{splits_last}
use Rattle.book_sound.specs.Tests.{passes_check}
use Rattle.book_sound.proofs.BookChanges.{schedule_put}
use Rattle.book_sound.proofs.BookFrames.{transaction_put}
use Rattle.book_sound.proofs.DrawnChanges.{schedule_drawn}
use Rattle.book_sound.proofs.DrawnFrames.{drawn_later, transaction_drawn}
use Rattle.book_sound.proofs.MarkLemmas.{unmarked_are_right}
use Rattle.book_sound.proofs.TransactionFrames.{drawn_from}
use Rattle.book_undo.specs.Book.{Book}
use Rattle.book_undo.specs.declared.schedule.Schedule.{Schedule}
use Rattle.book_command.specs.declared.answer.Answer.{Answer}
use Rattle.book_command.specs.declared.answer.Answer.TheVariants as answer
use Rattle.book_command.specs.declared.rule.Rule.{Rule}
use Rattle.book_step.specs.Outcome.{Done}
use Rattle.book_step.specs.ScheduleRuns.{AreRuns, MadeBelow, asked, asked_rules, book_ran, drawn_by, drawn_of, drawn_on}
use Rattle.book_step.specs.ScheduleRuns.{made_by, made_on}
use Rattle.book_step.specs.ScheduleRuns.{made_transaction, ran, ran_by, schedule_run, schedule_run_of, splits_by}
use Rattle.book_step.specs.ScheduleRuns.{too_many_made, too_many_splits_made, transactions_by, with_entries}
use Rattle.book_step.specs.Schedules.{Run, runs_of}
use Rattle.book_step.specs.Soundness.{AreDrawn, IsSound, IsSoundBook}
use Rattle.book_step.specs.State.{State}
use Rattle.book_step.proofs.RunLemmas.{asked_part, drawn_least, made_above, made_below, made_count, made_once}
use Rattle.book_step.proofs.RunLemmas.{made_passes, made_unmarked, runs_are, runs_beside, runs_rise}
use Rattle.book_step.proofs.SoundOutcome.{changing_done, leaving_done, sound_after}

-- A sound book whose numbers are below the next one, with so many transactions and splits.
record Stands (book : Book) (next count splits : ℕ) : Type 0 where
  pub sound : IsSoundBook book
  pub drawn : AreDrawn book next
  pub transactions : length book.transactions ≡ count
  pub all_splits : length (splits_of book.transactions) ≡ splits

stands_as :
    (book : Book) (next count splits later more many : ℕ) → next ≤ later → count ≡ more → splits ≡ many
    → Stands book next count splits → Stands book later more many
stands_as book next count splits later more many le one other is = record {
  sound = is.sound;
  drawn = drawn_later book next later le is.drawn;
  transactions = is.transactions ∙ one;
  all_splits = is.all_splits ∙ other;
}

-- ---- one transaction

abbrev with_made : Book → ℕ → ℤ → Txn → Book
with_made book n day template =
    record book { transactions = with_entry n (made_transaction n day template) book.transactions }

one_made :
    (book : Book) (n count splits : ℕ) (day : ℤ) (template : Txn)
    → passes_check book.commodities book.accounts template ≡ true → count + 1 ≤ 200000
    → splits + length template.splits ≤ 1000000 → Stands book n count splits
    → Stands (with_made book n day template) (n + drawn_of template) (count + 1) (splits + length template.splits)
one_made book n count splits day template passes few few_splits is =
    let new = made_transaction n day template in
    let size = made_count (n + 1) template.splits in
    let longer = length_drawn n new book.transactions is.sound.transactions.rise is.drawn.transactions in
    let last = ap length (splits_last n new book.transactions is.drawn.transactions)
    ∙ length-append (splits_of book.transactions) new.splits in
    record {
      sound = transaction_put book n new is.drawn
          (record {
            check = made_passes book.commodities book.accounts n day template passes;
            once = made_once (n + 1) template.splits;
            from = drawn_from n (numbers_of new.splits) (made_above n (n + 1) template.splits (omega arith));
            marks = unmarked_are_right book.reconciliations new.splits (made_unmarked (n + 1) template.splits);
            unvoided = refl;
          })
          (omega (arith, few, is.transactions)) (omega (arith, few_splits, size, is.all_splits)) is.sound;
      drawn = transaction_drawn book n (n + drawn_of template) new (omega arith)
          (made_below (n + 1) (n + drawn_of template) template.splits (omega arith))
          (drawn_later book n (n + drawn_of template) (omega arith) is.drawn);
      transactions = omega (arith, longer, is.transactions);
      all_splits = omega (arith, last, size, is.all_splits);
    }

-- ---- those of one schedule

times_more : (n k : ℕ) → suc n * k ≡ k + n * k
times_more n k = omega arith

all_made :
    (book : Book) (next count splits : ℕ) (template : Txn) (days : List ℤ)
    → passes_check book.commodities book.accounts template ≡ true → count + length days ≤ 200000
    → splits + length days * length template.splits ≤ 1000000 → Stands book next count splits
    → Stands (record book { transactions = with_entries (made_on next template days) book.transactions })
    (next + length days * drawn_of template) (count + length days) (splits + length days * length template.splits)
all_made book next count splits template [] passes few few_splits is =
    stands_as book next count splits _ _ _ (omega arith) (omega arith) (omega arith) is
all_made book next count splits template (day ∷ days) passes few few_splits is =
    let drawn = times_more (length days) (drawn_of template) in
    let many = times_more (length days) (length template.splits) in
    let one = one_made book next count splits day template passes (omega (arith, few)) (omega (arith, few_splits, many))
    is in
    let made = all_made (with_made book next day template) (next + drawn_of template) (count + 1)
    (splits + length template.splits) template days passes (omega (arith, few)) (omega (arith, few_splits, many)) one in
    stands_as
    (record book { transactions = with_entries (made_on next template (day ∷ days)) book.transactions })
    (next + drawn_of template + length days * drawn_of template) (count + 1 + length days)
    (splits + length template.splits + length days * length template.splits)
    (next + length (day ∷ days) * drawn_of template) (count + length (day ∷ days))
    (splits + length (day ∷ days) * length template.splits)
    (omega (arith, drawn)) (omega arith) (omega (arith, many)) made

-- ---- those of all schedules

entries_append :
    {T : Type 0} (xs ys es : List (ℕ × T)) → with_entries (xs ++ ys) es ≡ with_entries ys (with_entries xs es)
entries_append [] ys es = refl
entries_append (x ∷ xs) ys es = entries_append xs ys (with_entry x.0 x.1 es)

-- The templates of these break no rule of transactions.
abbrev Pass : Book → List Run → Type 0
Pass book [] = ⊤
Pass book (run ∷ more) =
    (passes_check book.commodities book.accounts run.schedule.template ≡ true) × Pass book more

runs_made :
    (book : Book) (next count splits : ℕ) (runs : List Run) → Pass book runs → count + transactions_by runs ≤ 200000
    → splits + splits_by runs ≤ 1000000 → Stands book next count splits
    → Stands (record book { transactions = with_entries (made_by next runs) book.transactions })
    (next + drawn_by runs) (count + transactions_by runs) (splits + splits_by runs)
runs_made book next count splits [] pass few few_splits is =
    stands_as book next count splits _ _ _ (omega arith) (omega arith) (omega arith) is
runs_made book next count splits (run ∷ more) pass few few_splits is =
    let template = run.schedule.template in
    let made = made_on next template run.days in
    let many = length run.days * length template.splits in
    let later = record book { transactions = with_entries made book.transactions } in
    let first = all_made book next count splits template run.days pass.0 (omega (arith, few))
    (omega (arith, few_splits)) is in
    let rest = runs_made later (next + drawn_on run) (count + length run.days) (splits + many) more pass.1
    (omega (arith, few)) (omega (arith, few_splits)) first in
    let behind = made_by (next + drawn_on run) more in
    subst (λ (ts : List (ℕ × Txn)). Stands (record book { transactions = ts }) (next + drawn_by (run ∷ more))
    (count + transactions_by (run ∷ more)) (splits + splits_by (run ∷ more)))
    (sym (entries_append made behind book.transactions))
    (stands_as (record book { transactions = with_entries behind (with_entries made book.transactions) })
    (next + drawn_on run + drawn_by more) (count + length run.days + transactions_by more)
    (splits + many + splits_by more) (next + drawn_by (run ∷ more)) (count + transactions_by (run ∷ more))
    (splits + splits_by (run ∷ more)) (omega arith) (omega arith) (omega arith) rest)

runs_pass :
    (book : Book) (runs : List Run) → IsSoundBook book → AreRuns book.schedules runs → Pass book runs
runs_pass book [] is are = tt
runs_pass book (run ∷ more) is are =
    let kept = is.schedules.keep.each run.number run.schedule are.0.0 in
    (kept.1.1.1.1.0, runs_pass book more is are.1)

-- ---- the schedules

runs_ran :
    (book : Book) (next count splits : ℕ) (runs : List Run) → AreRuns book.schedules runs → Rises (ran_by runs)
    → MadeBelow next runs → Stands book next count splits
    → Stands (record book { schedules = with_entries (ran_by runs) book.schedules }) next count splits
runs_ran book next count splits [] are r below is = is
runs_ran book next count splits (run ∷ more) are r below is =
    let new = ran run in
    let here = are.0.0 in
    let kept = is.sound.schedules.keep.each run.number run.schedule here in
    let size = length_changed run.number new run.schedule book.schedules is.sound.schedules.rise here in
    let few = is.sound.schedules.few in
    let own = drawn_below run.number next run.schedule book.schedules is.drawn.schedules here in
    let later = record book { schedules = with_entry run.number new book.schedules } in
    runs_ran later next count splits more (runs_beside run.number new book.schedules more r.0 are.1) r.1 below.1
    (record {
      sound = schedule_put book run.number new kept (omega (arith, size, few)) is.sound;
      drawn = schedule_drawn book run.number next new own below.0 is.drawn;
      transactions = is.transactions;
      all_splits = is.all_splits;
    })

value_made :
    (next n : ℕ) (x : Schedule) (es : List (ℕ × Schedule)) → All (λ e. e.1.timing.made < next) es
    → value_of n es ≡ Some x → x.timing.made < next
value_made next n x [] all there = absurd cc
value_made next n x (e ∷ es) all there =
    let Made : ℕ × Schedule → Type 0 = λ e. e.1.timing.made < next in
    let first = All-head Made e es all in
    let Here : Bool → Type 0 = λ t. (if t then Some e.1 else value_of n es) ≡ Some x → x.timing.made < next in
    elim (n == e.0) as Here [
      | true ↦ λ is. let one : e.1 ≡ x = cc in subst (λ (s : Schedule). s.timing.made < next) one first
      | false ↦ λ is. value_made next n x es (All-tail Made e es all) is
    ] there

pub made_stays :
    (book : Book) (next drawn : ℕ) (runs : List Run) → AreDrawn book next → AreRuns book.schedules runs
    → drawn_by runs ≤ drawn → MadeBelow (next + drawn) runs
made_stays book next drawn [] are runs le = tt
made_stays book next drawn (run ∷ more) are runs le =
    let made = value_made next run.number run.schedule book.schedules are.made runs.0.0 in
    let least = drawn_least run in
    (omega (arith, made, least, le), made_stays book next drawn more are runs.1 (omega (arith, le)))

-- ---- the run

run_of-sound :
    (state : State) (rules : List (Option Rule)) (runs : List Run) (new : State) (answered : Answer)
    → AreRuns state.book.schedules runs → Rises (ran_by runs) → IsSound state
    → schedule_run_of state rules runs ≡ Done new answered → IsSound new
run_of-sound state rules [] new answered are r is e =
    subst (λ (s : State). IsSound s) (leaving_done state rules (answer.ScheduleRun []) new answered e) is
run_of-sound state rules (run ∷ more) new answered are r is e =
    let runs = run ∷ more in
    let book = state.book in
    let drawn = drawn_by runs in
    let counts = too_many_made book runs ∷ too_many_splits_made book runs ∷ [] in
    let said = answer.ScheduleRun (map (λ (entry : ℕ × Txn). entry.0) (made_by state.next runs)) in
    let change = changing_done state (rules ++ counts) (book_ran book state.next runs) drawn said new answered e in
    let kept = kept_back rules counts change.kept in
    let few = not-broken _ _ kept.0 in
    let few_splits = not-broken _ _ kept.1.0 in
    let start : Stands book state.next (length book.transactions) (length (splits_of book.transactions)) =
    record { sound = is.book; drawn = is.drawn; transactions = refl; all_splits = refl } in
    let made = runs_made book state.next (length book.transactions) (length (splits_of book.transactions)) runs
    (runs_pass book runs is.book are) (grind (arith, nat_tests, few)) (grind (arith, nat_tests, few_splits)) start in
    let later = record book { transactions = with_entries (made_by state.next runs) book.transactions } in
    let whole = runs_ran later (state.next + drawn) (length book.transactions + transactions_by runs)
    (length (splits_of book.transactions) + splits_by runs) runs are r
    (made_stays book state.next drawn runs is.drawn are (omega arith)) made in
    sound_after state (rules ++ counts) (book_ran book state.next runs) drawn new change whole.sound whole.drawn

pub schedule_run-sound :
    (state : State) (upto : ℤ) (only : Option ℕ) (new : State) (answered : Answer) → IsSound state
    → schedule_run state upto only ≡ Done new answered → IsSound new
schedule_run-sound state upto only new answered is e =
    let schedules = state.book.schedules in
    let part = asked_part only schedules is.book.schedules.rise in
    run_of-sound state (asked_rules state upto only) (runs_of upto (asked only schedules)) new answered
    (runs_are upto schedules (asked only schedules) part.rise part.there)
    (runs_rise upto (asked only schedules) part.rise) is e

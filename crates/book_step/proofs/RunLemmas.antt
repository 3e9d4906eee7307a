-- What a run of schedules makes: transactions under numbers that rise from the next one on, and schedules in the places
-- of those that made them.
use Rattle.std.proofs.Common.{◌≡◌, ℕ, zero, suc, ◌+◌, ◌*◌, ◌<◌, ◌≤◌, ◌||◌, nat_lt, not, true, ℤ, pos}
use Rattle.std.proofs.Common.{◌+ℤ◌, All, List, [], ◌∷◌, ◌++◌, length, Option, Some, None, is_none, refl, ap, ◌∙◌, arith}
use Rattle.std.specs.List.{list_all}
use Rattle.std.specs.Ordering.{int_eq}
use Rattle.std.proofs.lemmas.Bool.{and_from, not_from_false}
use Rattle.std.proofs.lemmas.Bool.Decides.{nat_tests}
use Rattle.std.proofs.lemmas.List.Elements.{All-cons, All-nil}
use Rattle.book_commodity.specs.Rules.{broken_where, first_broken}
use Rattle.book_commodity.specs.Table.{AllAbove, Rises, value_of, with_entry}
use Rattle.book_commodity.specs.declared.commodity.Commodity.{Commodity}
use Rattle.book_commodity.proofs.DrawnLemmas.{value_alone, value_beside}
use Rattle.book_commodity.proofs.ListLemmas.{not_greater}
use Rattle.book_accounts.specs.declared.account.Account.{Account}
use Rattle.book_splits.specs.Balance.{sum_of_values}
use Rattle.book_splits.specs.Check.{currency_rules, rules_at, rules_of_splits, split_count, split_rules, txn_rules}
use Rattle.book_splits.specs.Check.{unbalanced}
use Rattle.book_splits.specs.TransactionRules.{are_once, is_unmarked, numbers_of}
use Rattle.book_splits.specs.declared.rule.TxnRule.{TxnRule}
use Rattle.book_splits.specs.declared.rule.TxnRule.TheVariants.{SplitCount, Unbalanced}
use Rattle.book_splits.specs.declared.split.Split.{Split}
use Rattle.book_splits.specs.declared.transaction.Txn.{Txn}
use Rattle.book_sound.specs.Tests.{passes_check}
use Rattle.book_sound.proofs.SplitFrames.{above_there}
use Rattle.book_undo.specs.declared.schedule.Schedule.{Schedule}
use Rattle.book_step.specs.DueDays.{due_days}
use Rattle.book_step.specs.ScheduleRuns.{AreRuns, asked, drawn_of, drawn_on, found_under, made_by, made_on, made_split}
use Rattle.book_step.specs.ScheduleRuns.{made_splits}
use Rattle.book_step.specs.ScheduleRuns.{made_transaction, ran_by}
use Rattle.book_step.specs.Schedules.{Run, runs_of, with_run}

times_more : (n k : ℕ) → suc n * k ≡ k + n * k
times_more n k = omega arith

-- ---- a transaction that is made

pub made_count : (number : ℕ) (splits : List Split) → length (made_splits number splits) ≡ length splits
made_count number [] = refl
made_count number (split ∷ more) = ap (λ (n : ℕ). suc n) (made_count (number + 1) more)

-- its splits draw their numbers from one on,
pub made_above :
    (below number : ℕ) (splits : List Split) → below < number
    → All (λ (m : ℕ). below < m) (numbers_of (made_splits number splits))
made_above below number [] lt = All-nil (λ (m : ℕ). below < m)
made_above below number (split ∷ more) lt =
    All-cons (λ (m : ℕ). below < m) number (numbers_of (made_splits (number + 1) more)) lt
    (made_above below (number + 1) more (omega (arith, lt)))

-- below the next one,
pub made_below :
    (number next : ℕ) (splits : List Split) → number + length splits ≤ next
    → All (λ (split : Split). split.id < next) (made_splits number splits)
made_below number next [] le = All-nil (λ (split : Split). split.id < next)
made_below number next (split ∷ more) le =
    All-cons (λ (split : Split). split.id < next) _ (made_splits (number + 1) more) (omega (arith, le))
    (made_below (number + 1) next more (omega (arith, le)))

-- each another one,
pub made_once : (number : ℕ) (splits : List Split) → are_once (numbers_of (made_splits number splits)) ≡ true
made_once number [] = refl
made_once number (split ∷ more) =
    let apart = not_greater number (numbers_of (made_splits (number + 1) more))
    (made_above number (number + 1) more (omega arith)) in
    and_from _ _ (not_from_false _ apart) (made_once (number + 1) more)

-- and are new
pub made_unmarked : (number : ℕ) (splits : List Split) → list_all is_unmarked (made_splits number splits) ≡ true
made_unmarked number [] = refl
made_unmarked number (split ∷ more) = made_unmarked (number + 1) more

-- it breaks the rules of transactions that its template breaks
same_at :
    (currency place number : ℕ) (split : Split) (found : Option Account)
    → split_rules currency place (made_split number split) found ≡ split_rules currency place split found
same_at currency place number split None = refl
same_at currency place number split (Some account) = refl

same_rules :
    (accounts : List (ℕ × Account)) (currency place number : ℕ) (splits : List Split)
    → rules_of_splits accounts currency place (made_splits number splits)
    ≡ rules_of_splits accounts currency place splits
same_rules accounts currency place number [] = refl
same_rules accounts currency place number (split ∷ more) =
    let others = rules_of_splits accounts currency (place + 1) (made_splits (number + 1) more) in
    ap (λ (rules : List (Option TxnRule)). rules ++ others)
    (same_at currency place number split (value_of split.account accounts))
    ∙ ap (λ (rest : List (Option TxnRule)). rules_at accounts currency place split ++ rest)
    (same_rules accounts currency (place + 1) (number + 1) more)

same_sum : (number : ℕ) (splits : List Split) → sum_of_values (made_splits number splits) ≡ sum_of_values splits
same_sum number [] = refl
same_sum number (split ∷ more) = ap (λ (sum : ℤ). split.value +ℤ sum) (same_sum (number + 1) more)

same_transaction_rules :
    (commodities : List (ℕ × Commodity)) (accounts : List (ℕ × Account)) (number : ℕ) (day : ℤ) (template : Txn)
    → txn_rules commodities accounts (made_transaction number day template) ≡ txn_rules commodities accounts template
same_transaction_rules commodities accounts number day template =
    let old = template.splits in
    let new = made_splits (number + 1) old in
    let currency = currency_rules template.currency (value_of template.currency commodities) in
    let rules = rules_of_splits accounts template.currency 0 in
    let counted : ℕ → Option TxnRule = λ n. broken_where (nat_lt n 1 || nat_lt 500 n) (SplitCount n) in
    let summed : ℤ → Option TxnRule = λ sum. broken_where (not (int_eq sum (pos 0))) (Unbalanced sum) in
    ap (λ (n : ℕ). counted n ∷ (currency ++ (rules new ++ (unbalanced new ∷ [])))) (made_count (number + 1) old)
    ∙ ap (λ (of : List (Option TxnRule)). split_count old ∷ (currency ++ (of ++ (unbalanced new ∷ []))))
    (same_rules accounts template.currency 0 (number + 1) old)
    ∙ ap (λ (sum : ℤ). split_count old ∷ (currency ++ (rules old ++ (summed sum ∷ [])))) (same_sum (number + 1) old)

pub made_passes :
    (commodities : List (ℕ × Commodity)) (accounts : List (ℕ × Account)) (number : ℕ) (day : ℤ) (template : Txn)
    → passes_check commodities accounts template ≡ true
    → passes_check commodities accounts (made_transaction number day template) ≡ true
made_passes commodities accounts number day template passes =
    ap (λ (rules : List (Option TxnRule)). is_none (first_broken rules))
    (same_transaction_rules commodities accounts number day template)
    ∙ passes

-- ---- the numbers that are drawn

pub on_above :
    (below next : ℕ) (template : Txn) (days : List ℤ) (rest : List (ℕ × Txn)) → below < next
    → ((b : ℕ) → b < next + length days * drawn_of template → AllAbove b rest)
    → AllAbove below (made_on next template days ++ rest)
on_above below next template [] rest lt behind = behind below (omega (arith, lt))
on_above below next template (day ∷ days) rest lt behind =
    let more = times_more (length days) (drawn_of template) in (
      lt,
      on_above below (next + drawn_of template) template days rest (omega (arith, lt))
          (λ b less. behind b (omega (arith, less, more))),
    )

on_rises :
    (next : ℕ) (template : Txn) (days : List ℤ) (rest : List (ℕ × Txn))
    → ((b : ℕ) → b < next + length days * drawn_of template → AllAbove b rest) → Rises rest
    → Rises (made_on next template days ++ rest)
on_rises next template [] rest behind r = r
on_rises next template (day ∷ days) rest behind r =
    let more = times_more (length days) (drawn_of template) in
    let later : (b : ℕ) → b < next + drawn_of template + length days * drawn_of template → AllAbove b rest =
    λ b less. behind b (omega (arith, less, more)) in (
      on_above next (next + drawn_of template) template days rest (omega arith) later,
      on_rises (next + drawn_of template) template days rest later r,
    )

pub made_by-above : (below next : ℕ) (runs : List Run) → below < next → AllAbove below (made_by next runs)
made_by-above below next [] lt = tt
made_by-above below next (run ∷ more) lt =
    on_above below next run.schedule.template run.days (made_by (next + drawn_on run) more) lt
    (λ b less. made_by-above b (next + drawn_on run) more less)

pub made_by-rises : (next : ℕ) (runs : List Run) → Rises (made_by next runs)
made_by-rises next [] = tt
made_by-rises next (run ∷ more) =
    on_rises next run.schedule.template run.days (made_by (next + drawn_on run) more)
    (λ b less. made_by-above b (next + drawn_on run) more less) (made_by-rises (next + drawn_on run) more)

-- so many are drawn at least as there are days
le_times : (n k : ℕ) → n ≤ n * (1 + k)
le_times zero k = omega arith
le_times (suc n) k = let rest = le_times n k in let more = times_more n (1 + k) in omega (arith, rest, more)

pub drawn_least : (run : Run) → length run.days ≤ drawn_on run
drawn_least run = le_times (length run.days) (length run.schedule.template.splits)

-- ---- the schedules that run

with_run-are :
    (schedules : List (ℕ × Schedule)) (entry : ℕ × Schedule) (days : List ℤ) (runs : List Run)
    → value_of entry.0 schedules ≡ Some entry.1 → AreRuns schedules runs → AreRuns schedules (with_run entry days runs)
with_run-are schedules entry [] runs there are = are
with_run-are schedules entry (day ∷ days) runs there are = ((there, omega arith), are)

pub runs_are :
    (upto : ℤ) (schedules part : List (ℕ × Schedule)) → Rises part
    → ((k : ℕ) (x : Schedule) → value_of k part ≡ Some x → value_of k schedules ≡ Some x)
    → AreRuns schedules (runs_of upto part)
runs_are upto schedules [] r there = tt
runs_are upto schedules (entry ∷ more) r there =
    let first : value_of entry.0 (entry ∷ more) ≡ Some entry.1 = grind (arith, nat_tests) in
    with_run-are schedules entry (due_days entry.1.timing upto) (runs_of upto more) (there entry.0 entry.1 first)
    (runs_are upto schedules more r.1
    (λ k x found.
    let past = above_there entry.0 k x more r.0 found in
    let later : value_of k (entry ∷ more) ≡ Some x = grind (arith, nat_tests, past, found) in
    there k x later))

with_run-above :
    (n : ℕ) (entry : ℕ × Schedule) (days : List ℤ) (runs : List Run) → n < entry.0 → AllAbove n (ran_by runs)
    → AllAbove n (ran_by (with_run entry days runs))
with_run-above n entry [] runs lt above = above
with_run-above n entry (day ∷ days) runs lt above = (lt, above)

runs_above :
    (upto : ℤ) (n : ℕ) (part : List (ℕ × Schedule)) → AllAbove n part → AllAbove n (ran_by (runs_of upto part))
runs_above upto n [] above = tt
runs_above upto n (entry ∷ more) above =
    with_run-above n entry (due_days entry.1.timing upto) (runs_of upto more) above.0 (runs_above upto n more above.1)

with_run-rises :
    (entry : ℕ × Schedule) (days : List ℤ) (runs : List Run) → AllAbove entry.0 (ran_by runs) → Rises (ran_by runs)
    → Rises (ran_by (with_run entry days runs))
with_run-rises entry [] runs above r = r
with_run-rises entry (day ∷ days) runs above r = (above, r)

pub runs_rise : (upto : ℤ) (part : List (ℕ × Schedule)) → Rises part → Rises (ran_by (runs_of upto part))
runs_rise upto [] r = tt
runs_rise upto (entry ∷ more) r =
    with_run-rises entry (due_days entry.1.timing upto) (runs_of upto more) (runs_above upto entry.0 more r.0)
    (runs_rise upto more r.1)

-- What is asked for stands among the schedules.
pub record IsPart (schedules part : List (ℕ × Schedule)) : Type 0 where
  pub rise : Rises part
  pub there : (k : ℕ) (x : Schedule) → value_of k part ≡ Some x → value_of k schedules ≡ Some x

found_part :
    (schedules : List (ℕ × Schedule)) (n : ℕ) (found : Option Schedule) → value_of n schedules ≡ found
    → IsPart schedules (found_under n found)
found_part schedules n None e = record { rise = tt; there = λ k x there. absurd cc }
found_part schedules n (Some schedule) e = record {
  rise = (tt, tt);
  there = λ k x there.
      let is = value_alone n k x schedule there in
      ap (λ (m : ℕ). value_of m schedules) is.0 ∙ e ∙ ap (λ (s : Schedule). Some s) is.1;
}

pub asked_part :
    (only : Option ℕ) (schedules : List (ℕ × Schedule)) → Rises schedules → IsPart schedules (asked only schedules)
asked_part None schedules r = record { rise = r; there = λ k x there. there }
asked_part (Some n) schedules r = found_part schedules n (value_of n schedules) refl

-- One of them is put in the place of its schedule, and the others still stand.
pub runs_beside :
    (n : ℕ) (new : Schedule) (schedules : List (ℕ × Schedule)) (runs : List Run) → AllAbove n (ran_by runs)
    → AreRuns schedules runs → AreRuns (with_entry n new schedules) runs
runs_beside n new schedules [] above are = tt
runs_beside n new schedules (run ∷ more) above are =
    let past = above.0 in
    let there = value_beside run.number n new run.schedule schedules
    (λ same. absurd (omega (arith, past, same))) are.0.0 in
    ((there, are.0.1), runs_beside n new schedules more above.1 are.1)

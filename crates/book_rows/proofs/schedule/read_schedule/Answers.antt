-- The fields that the bytes spell are those of the schedule, and its template stands behind them.
use Rattle.std.proofs.Common.{◌≡◌, ◌++◌, ℕ, List, ap, sym, ◌∙◌, append_assoc}
use Rattle.book_codec.specs.Words.{string}
use Rattle.book_schedule.specs.declared.timing.Timing.{Timing}
use Rattle.book_splits.specs.declared.transaction.Txn.{Txn}
use Rattle.book_rows.specs.ScheduleBytes.{schedule_made, timing_bytes}
use Rattle.book_rows.specs.TransactionBytes.{txn_bytes}
use Rattle.book_rows.proofs.schedule.read_schedule.Goals as goal

regrouped : (a b c r : List ℕ) → (a ++ (b ++ c)) ++ r ≡ (a ++ b) ++ (c ++ r)
regrouped a b c r =
    append_assoc a (b ++ c) r ∙ ap (λ (l : List ℕ). a ++ l) (append_assoc b c r) ∙ sym (append_assoc a b (c ++ r))

pub returns-in-Err-clause-again : goal.returns-in-Err-clause-again
returns-in-Err-clause-again c it rest fit told =
    c.in-Err.ensures.again (it.name, it.timing) (txn_bytes c.args.format it.template ++ rest) (fit.0, fit.1.0)
    (told ∙ regrouped (string it.name) (timing_bytes it.timing) (txn_bytes c.args.format it.template) rest)

pub returns-in-Err-read_txn-clause-again : goal.returns-in-Err-read_txn-clause-again
returns-in-Err-read_txn-clause-again c it rest fit told =
    let same = c.in-Ok.ensures.again (it.name, it.timing) (txn_bytes c.args.format it.template ++ rest)
    (fit.0, fit.1.0)
    (told ∙ regrouped (string it.name) (timing_bytes it.timing) (txn_bytes c.args.format it.template) rest) in
    c.in-Err-read_txn.ensures.again it.template rest fit.1.1
    (ap (λ (p : (List ℕ × Timing) × List ℕ). p.1) same)

pub returns-clause-again : goal.returns-clause-again
returns-clause-again c it rest fit told =
    let same = c.in-Ok.ensures.again (it.name, it.timing) (txn_bytes c.args.format it.template ++ rest)
    (fit.0, fit.1.0)
    (told ∙ regrouped (string it.name) (timing_bytes it.timing) (txn_bytes c.args.format it.template) rest) in
    let behind = c.in-Ok-read_txn.ensures.again it.template rest fit.1.1
    (ap (λ (p : (List ℕ × Timing) × List ℕ). p.1) same) in
    rw c.schedule_of.ensures
    (ap (λ (f : List ℕ × Timing). (schedule_made (f, c.in-Ok-read_txn.found.0), c.in-Ok-read_txn.found.1.now))
    (ap (λ (p : (List ℕ × Timing) × List ℕ). p.0) same)
    ∙ ap (λ (p : Txn × List ℕ). (schedule_made ((it.name, it.timing), p.0), p.1)) behind)

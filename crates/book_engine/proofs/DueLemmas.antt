-- The question which days are due: its plan leaves the state, and it is refused by the first rule that is broken.
use Rattle.std.proofs.Common.{◌≡◌, ℤ, Bool, Option, Result, Ok, Err, IfOk, IfErr, sym, ap, subst}
use Rattle.book_command.specs.declared.answer.Answer.TheVariants as answer
use Rattle.book_command.specs.declared.command.What.TheVariants.{Due}
use Rattle.book_command.specs.declared.refusal.Refusal.{Refusal}
use Rattle.book_command.specs.declared.refusal.Refusal.TheVariants as refusal
use Rattle.book_command.specs.declared.rule.Rule.{Rule}
use Rattle.book_opening.specs.State.{State}
use Rattle.book_step.specs.Schedules.{Finds, day_rules, due_of}
use Rattle.book_engine.specs.Books.{machine_of}
use Rattle.book_turns.specs.Whole.{IsWhole}
use Rattle.book_engine.specs.Machine.{Done, reply, unless_broken}
use Rattle.book_engine.specs.Planned.{IsPlanTo, IsRefusal, Planned, stay_plan}
use Rattle.book_engine.proofs.PlanLemmas.{is_stay_plan}

-- What is found of the days that are due is this plan.
abbrev IsFound : State → ℤ → Planned → Type 0
IsFound state upto plan = plan ≡ stay_plan state (answer.Due (due_of state.book upto))

pub due-planned :
    (state : State) (saved : Bool) (upto : ℤ) (result : Result Planned Refusal) → IsWhole state saved
    → Finds (day_rules upto state.book.schedules) (IsFound state upto) result
    → IfOk result (IsPlanTo state saved (reply (machine_of state) (Due upto)))
due-planned state saved upto (Ok plan) whole found =
    let said = answer.Due (due_of state.book upto) in
    let comes = reply (machine_of state) (Due upto) in
    subst (λ (p : Planned). IsPlanTo state saved comes p) (sym found.1)
    (is_stay_plan state saved said comes whole
    (ap (λ (broken : Option Rule). unless_broken broken (Done (machine_of state) said)) found.0))
due-planned state saved upto (Err given) whole found = tt

pub due-refused :
    (state : State) (upto : ℤ) (result : Result Planned Refusal)
    → Finds (day_rules upto state.book.schedules) (IsFound state upto) result
    → IfErr result (IsRefusal (reply (machine_of state) (Due upto)))
due-refused state upto (Ok plan) found = tt
due-refused state upto (Err (refusal.Broken rule)) broken =
    let said = answer.Due (due_of state.book upto) in
    ap (λ (found : Option Rule). unless_broken found (Done (machine_of state) said)) broken
due-refused state upto (Err refusal.Keeper) none = absurd none
due-refused state upto (Err refusal.OutOfMemory) none = tt

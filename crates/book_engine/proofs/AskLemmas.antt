-- A question that finds its answer or the first rule that is broken: its plan leaves the state.
use Rattle.std.proofs.Common.{◌≡◌, Bool, List, Option, Result, Ok, Err, IfOk, IfErr, sym, ap, subst}
use Rattle.book_command.specs.declared.answer.Answer.{Answer}
use Rattle.book_command.specs.declared.refusal.Refusal.{Refusal}
use Rattle.book_command.specs.declared.refusal.Refusal.TheVariants as refusal
use Rattle.book_command.specs.declared.rule.Rule.{Rule}
use Rattle.book_opening.specs.State.{State}
use Rattle.book_step.specs.Schedules.{Finds}
use Rattle.book_turns.specs.Whole.{IsWhole}
use Rattle.book_engine.specs.Books.{machine_of}
use Rattle.book_engine.specs.Machine.{Done, asked, unless_broken}
use Rattle.book_engine.specs.Planned.{IsPlanTo, IsRefusal, Planned, stay_plan}
use Rattle.book_engine.proofs.PlanLemmas.{is_stay_plan}

pub found-planned :
    (state : State) (saved : Bool) (rules : List (Option Rule)) (said : Answer) (result : Result Planned Refusal)
    → IsWhole state saved → Finds rules (λ plan. plan ≡ stay_plan state said) result
    → IfOk result (IsPlanTo state saved (asked (machine_of state) rules said))
found-planned state saved rules said (Ok plan) whole found =
    let comes = asked (machine_of state) rules said in
    subst (λ (p : Planned). IsPlanTo state saved comes p) (sym found.1)
    (is_stay_plan state saved said comes whole
    (ap (λ (broken : Option Rule). unless_broken broken (Done (machine_of state) said)) found.0))
found-planned state saved rules said (Err given) whole found = tt

pub found-refused :
    (state : State) (rules : List (Option Rule)) (said : Answer) (result : Result Planned Refusal)
    → Finds rules (λ plan. plan ≡ stay_plan state said) result
    → IfErr result (IsRefusal (asked (machine_of state) rules said))
found-refused state rules said (Ok plan) found = tt
found-refused state rules said (Err (refusal.Broken rule)) broken =
    ap (λ (found : Option Rule). unless_broken found (Done (machine_of state) said)) broken
found-refused state rules said (Err refusal.Keeper) none = absurd none
found-refused state rules said (Err refusal.OutOfMemory) none = tt

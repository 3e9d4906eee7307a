-- What a command comes to: a broken rule, which leaves the state, or a state and an answer.
use Rattle.std.specs.Prelude.{◌≡◌, ℕ, ◌+◌, ◌^◌, nat_lt, not, Bool, ◌||◌, if◌then◌else◌, List, [], ◌∷◌, ◌++◌, Option}
use Rattle.std.specs.Prelude.{Some, None, Result, Ok, Err, ⊤}
use Rattle.book_commodity.specs.Rules.{broken_where, first_broken}
use Rattle.book_commodity.specs.declared.counted.Counted.TheVariants.{Numbers}
use Rattle.book_undo.specs.Book.{Book}
use Rattle.book_undo.specs.Edit.{edited, is_nothing}
use Rattle.book_undo.specs.Exact.{IsExact}
use Rattle.book_undo.specs.declared.edit.Edit.{Edit}
use Rattle.book_step.specs.AnswerBalances.{without_balances}
use Rattle.book_step.specs.State.{State}
use Rattle.book_command.specs.declared.answer.Answer.{Answer}
use Rattle.book_command.specs.declared.refusal.Refusal.{Refusal}
use Rattle.book_command.specs.declared.refusal.Refusal.TheVariants as refusal
use Rattle.book_command.specs.declared.rule.Rule.{Rule}
use Rattle.book_command.specs.declared.rule.Rule.TheVariants.{Limit}
use Rattle.book_step.specs.declared.step.Step.{Step}

-- A command is broken with a rule, or done with the state after it and its answer.
pub data Outcome : Type 0 where
  Broken : Rule → Outcome
  Done : State → Answer → Outcome

-- The rule, if one is broken, or else what follows.
abbrev pub unless_broken : Option Rule → Outcome → Outcome
unless_broken (Some rule) outcome = Broken rule
unless_broken None outcome = outcome

-- Numbers of things and the version stay below 2^62 (a limit of this project): a change that draws so many numbers
-- may not reach it.
abbrev pub numbers : State → ℕ → Option Rule
numbers state drawn =
    broken_where (not (nat_lt (state.next + drawn) (2 ^ 62)) || not (nat_lt (state.version + 1) (2 ^ 62)))
    (Limit Numbers (2 ^ 62))

-- The state after a change of the book to another, which draws so many numbers: the version counts the changes.
abbrev pub changed : State → Book → ℕ → State
changed state book drawn = record { book = book; next = state.next + drawn; version = state.version + 1 }

-- A command that changes the book to another and draws so many numbers: the first of its rules that is broken, the
-- limit of numbers the last.
abbrev pub changing : State → List (Option Rule) → Book → ℕ → Answer → Outcome
changing state rules book drawn answer =
    unless_broken (first_broken (rules ++ numbers state drawn ∷ [])) (Done (changed state book drawn) answer)

-- A command that leaves the book as it is: the first of its rules that is broken, or the same state.
abbrev pub leaving : State → List (Option Rule) → Answer → Outcome
leaving state rules answer = unless_broken (first_broken rules) (Done state answer)

-- The version after a step: one that changes nothing leaves it, and another raises it by one.
abbrev pub version_after : Bool → ℕ → ℕ
version_after unchanged version = if unchanged then version else version + 1

-- The state that a step leads to.
abbrev pub after : State → Step → State
after state step = record {
  book = edited step.edit state.book;
  next = step.next;
  version = version_after (is_nothing step.edit) state.version;
}

-- An outcome but for the balances in its answer.
abbrev pub but_balances : Outcome → Outcome
but_balances (Broken rule) = Broken rule
but_balances (Done state answer) = Done state (without_balances answer)

-- A step is that of an outcome: it leads to the outcome's state with its answer, whose balances are left out; and its
-- edit may be applied to the book, and has a leaf for each key at which the two books differ and for no other.
pub record IsStepTo (state : State) (outcome : Outcome) (step : Step) : Type 0 where
  pub leads : but_balances outcome ≡ Done (after state step) step.answer
  pub exact : IsExact state.book step.edit

-- What a call makes of an outcome: its step, or the broken rule. No keeper is asked. Out of memory needs no cause.
abbrev pub StepsTo : State → Outcome → Result Step Refusal → Type 0
StepsTo state outcome (Ok step) = IsStepTo state outcome step
StepsTo state outcome (Err (refusal.Broken rule)) = outcome ≡ Broken rule
StepsTo state outcome (Err refusal.Keeper) = ⊥
StepsTo state outcome (Err refusal.OutOfMemory) = ⊤

-- What a call makes of a command that breaks no rule and changes the book by an edit, whose answer is this one but for
-- its balances.
abbrev pub ChangesBy : State → Edit → ℕ → Answer → Result Step Refusal → Type 0
ChangesBy state edit drawn answer result =
    (whole : Answer) → without_balances whole ≡ answer
    → StepsTo state (changing state [] (edited edit state.book) drawn whole) result

-- The same of a command that leaves the book as it is.
abbrev pub LeavesBy : State → Answer → Step → Type 0
LeavesBy state answer step =
    (whole : Answer) → without_balances whole ≡ answer → StepsTo state (leaving state [] whole) (Ok step)

-- Each answer of the machine is one line, and none of those that say why there is none; and it is the outcome.
use Rattle.std.proofs.Common.{◌≡◌, ℕ, List, Some, Result, Ok, Err, OnOk, IfOk, IfSome}
use Rattle.std.proofs.Common.{sym, subst, refl, ap, ◌∙◌}
use Rattle.std.proofs.lemmas.Result.{IfOk-weaker}
use Rattle.book_lines.specs.Marks.{IsAnswer, Answered, mark_of, memory_answer, keeper_answer}
use Rattle.book_opening.specs.State.{State}
use Rattle.book_command.specs.declared.command.Command.{Command}
use Rattle.book_command.specs.declared.rule.Rule.{Rule}
use Rattle.book_command.specs.declared.wire_error.WireError.{WireError}
use Rattle.book_command.specs.declared.wire_error.WireError.TheVariants as wire
use Rattle.book_engine.specs.Acting.{IsUnchanged}
use Rattle.book_engine.specs.Kept.{Kept}
use Rattle.book_engine.specs.Books.{machine_kept, machine_of}
use Rattle.book_engine.specs.Machine.{Broken, Machine, Reply, step}
use Rattle.book_engine.specs.Planned.{IsPlanOf, Planned, after}
use Rattle.book_texts.specs.AnswerText.{answer_bytes}
use Rattle.book_texts.specs.RefusedText.{fault_bytes}
use Rattle.book_texts.specs.RuleText.{rule_bytes}
use Rattle.book_texts.proofs.OwnLineLemmas.{IsOwnLine, answer-own_line, fault-own_line, rule-own_line}
use Rattle.book_wire.specs.Asked.{NotJson, NotCommand, LineAsks, asked_of_fault}
use Rattle.book_app.specs.Machine.{IsOutcome, Replies}

own_line-mark : (bytes : List ℕ) → IsOwnLine bytes → mark_of bytes ≡ Answered
unfolding memory_answer keeper_answer
own_line-mark bytes own = rw (own.no_memory, own.no_keeper) refl

-- a text that is such a line is one that the machine may give
pub IsAnswer-own_line : (text bytes : List ℕ) → text ≡ bytes → IsOwnLine bytes → IsAnswer text
IsAnswer-own_line text bytes is own = subst (λ (t : List ℕ). IsAnswer t) (sym is)
    (record { one_line = own.one_line; mark = own_line-mark bytes own })

-- so is the answer to a line that is no command
pub IsAnswer-fault : (fault : WireError) (text : List ℕ) → fault_bytes fault ≡ Some text → IsAnswer text
IsAnswer-fault fault text is =
    let own = fault-own_line fault text is in
    record { one_line = own.one_line; mark = own_line-mark text own }

no_text : (text : List ℕ) → fault_bytes wire.OutOfMemory ≡ Some text → ⊥
unfolding fault_bytes
no_text text is = cc

-- the answer to a line that asks for no command is what the machine replies
pub replies-fault :
    {E : Type 0} (state : Machine) (bytes : List ℕ) (fault : WireError) (result : Result (List ℕ) E)
    → IfSome (asked_of_fault fault) (LineAsks bytes)
    → IfOk result (λ text. fault_bytes fault ≡ Some text)
    → IfOk result (λ text. IsAnswer text × Replies state bytes text state)
replies-fault state bytes wire.NotJson result read text_is =
    IfOk-weaker result _ _
    (λ text is. (IsAnswer-fault wire.NotJson text is, record { asked = NotJson; read = read; reply = (is, refl) }))
    text_is
replies-fault state bytes (wire.NotCommand name) result read text_is =
    IfOk-weaker result _ _
    (λ text is. (
      IsAnswer-fault (wire.NotCommand name) text is,
      record { asked = NotCommand name; read = read; reply = (is, refl) },
    )) text_is
replies-fault state bytes wire.OutOfMemory result read text_is =
    IfOk-weaker result _ _ (λ text is. absurd (no_text text is)) text_is

-- what holds of a text that was given holds of it where it is handed on
pub handed_on :
    {T E F : Type 0} (P : T → Type 0) (given : Result T E) (result : Result T F) → IfOk result (λ x. given ≡ Ok x)
    → IfOk given P → IfOk result P
handed_on P given (Ok x) same holds = subst (λ r. IfOk r P) same holds
handed_on P given (Err why) same holds = tt

-- the text of a plan that was finished is the outcome of its command
pub done_outcome :
    {E : Type 0} (result : Result (List ℕ) E) (old mid new : Kept) (command : Command) (plan : Planned)
    → IsUnchanged old mid → IsPlanOf old.state old.saved command plan
    → IfOk result (λ text. text ≡ answer_bytes plan.answer plan.version)
    → OnOk result (new.state ≡ after mid.state plan)
    → IfOk result
    (λ text. IsAnswer text × IsOutcome (step (machine_kept old) command) (machine_kept old) text (machine_kept new))
done_outcome (Ok text) old mid new command plan same is text_is state_is =
    let now : new.state ≡ after old.state plan = state_is ∙ ap (λ (s : State). after s plan) same.same_state in (
      IsAnswer-own_line text _ text_is (answer-own_line plan.answer plan.version),
      subst (λ (r : Reply). IsOutcome r (machine_kept old) text (machine_kept new)) (sym is.made)
          (text_is ∙ ap (answer_bytes plan.answer) is.version_is, ap machine_of now),
    )
done_outcome (Err why) old mid new command plan same is text_is state_is = tt

-- the text of a broken rule is the outcome of the command that breaks it
pub broken_outcome :
    {E F : Type 0} (given : Result (List ℕ) E) (result : Result (List ℕ) F) (old now : Kept) (command : Command)
    (rule : Rule) (version : ℕ) → IsUnchanged old now → step (machine_kept old) command ≡ Broken rule
    → version ≡ now.state.version → IfOk result (λ text. given ≡ Ok text)
    → IfOk given (λ text. text ≡ rule_bytes rule version)
    → IfOk result
    (λ text. IsAnswer text × IsOutcome (step (machine_kept old) command) (machine_kept old) text (machine_kept now))
broken_outcome given result old now command rule version same broken version_is handed text_is =
    handed_on
    (λ text. IsAnswer text × IsOutcome (step (machine_kept old) command) (machine_kept old) text (machine_kept now))
    given result handed
    (IfOk-weaker given _ _
    (λ text e.
    let is : text ≡ rule_bytes rule old.state.version =
    e ∙ ap (rule_bytes rule) (version_is ∙ ap (λ (s : State). s.version) same.same_state) in (
      IsAnswer-own_line text _ is (rule-own_line rule old.state.version),
      subst (λ (r : Reply). IsOutcome r (machine_kept old) text (machine_kept now)) (sym broken)
          (is, ap machine_of same.same_state),
    )) text_is)

-- What an engine responds is what the machine of whole books answers.
use Rattle.std.proofs.Common.{◌≡◌, ℕ, Bool, List, Some, Result, Ok, Err, OnOk, IfOk, IfSome, sym, subst, refl, ap, ◌∙◌}
use Rattle.std.proofs.lemmas.Result.{IfOk-weaker}
use Rattle.book_command.specs.declared.answer.Answer.{Answer}
use Rattle.book_command.specs.declared.command.Command.{Command}
use Rattle.book_command.specs.declared.rule.Rule.{Rule}
use Rattle.book_command.specs.declared.wire_error.WireError.{WireError}
use Rattle.book_command.specs.declared.wire_error.WireError.TheVariants as wire
use Rattle.book_lines.specs.Marks.{Answered}
use Rattle.book_opening.specs.State.{State}
use Rattle.book_engine.specs.Acting.{IsUnchanged}
use Rattle.book_engine.specs.Books.{machine_kept, machine_of}
use Rattle.book_engine.specs.Kept.{Kept}
use Rattle.book_engine.specs.Machine.{Broken, Done, Machine, Reply, step}
use Rattle.book_engine.specs.Planned.{IsPlanOf, Planned, after}
use Rattle.book_texts.specs.AnswerText.{answer_bytes}
use Rattle.book_texts.specs.RefusedText.{fault_bytes}
use Rattle.book_texts.specs.RuleText.{rule_bytes}
use Rattle.book_http.specs.declared.next.Request.{Request}
use Rattle.book_http.specs.Response.{response}
use Rattle.book_requests.specs.Requests.{RequestAsks}
use Rattle.book_serve.specs.Exchange.{IsResponse}
use Rattle.book_serve.specs.Statuses.{mark_of}
use Rattle.book_wire.specs.Asked.{Asked, Asks, NotCommand, NotJson, asked_of_fault}
use Rattle.book_app.specs.Machine.{IsReply, status_of_asked, status_of_outcome}
use Rattle.book_app.specs.Respond.{IsOutcomeResponse, IsResponseOf, kept_answers}
use Rattle.book_app.proofs.ReplyLemmas.{handed_on}

-- no status of a reply says that there is none
own_outcome : (reply : Reply) → mark_of (status_of_outcome reply) ≡ Answered
own_outcome (Broken rule) = refl
own_outcome (Done after answer) = refl

own_status : (old : Machine) (asked : Asked) → mark_of (status_of_asked old asked) ≡ Answered
own_status old (Asks command) = own_outcome (step old command)
own_status old NotJson = refl
own_status old (NotCommand name) = refl

-- the reply to what a request asks, as the body of the response of its status, is a response
response_to :
    (old new : Kept) (request : Request) (asked : Asked) (bytes body : List ℕ) → RequestAsks request asked
    → bytes ≡ response (status_of_asked (machine_kept old) asked) body request.close
    → IsReply asked (machine_kept old) body (machine_kept new) → IsResponse kept_answers old request bytes new
response_to old new request asked bytes body read bytes_are reply = record {
  status = status_of_asked (machine_kept old) asked;
  body = body;
  own = own_status (machine_kept old) asked;
  bytes_are = bytes_are;
  answered = record { asked = asked; read = read; status_is = refl; reply = reply };
}

-- a plan that was finished is responded to by its answer
pub done_response :
    {E : Type 0} (result : Result (List ℕ) E) (old mid new : Kept) (command : Command) (plan : Planned) (close : Bool)
    → IsUnchanged old mid → IsPlanOf old.state old.saved command plan
    → IfOk result (λ bytes. bytes ≡ response 200 (answer_bytes plan.answer plan.version) close)
    → OnOk result (new.state ≡ after mid.state plan)
    → IfOk result
    (λ bytes. IsOutcomeResponse (step (machine_kept old) command) (machine_kept old) bytes close (machine_kept new))
done_response (Ok bytes) old mid new command plan close same is bytes_are state_is =
    let now : new.state ≡ after old.state plan = state_is ∙ ap (λ (s : State). after s plan) same.same_state in
    subst (λ (r : Reply). IsOutcomeResponse r (machine_kept old) bytes close (machine_kept new)) (sym is.made)
    (record {
      body = answer_bytes plan.answer plan.version;
      bytes_are = bytes_are;
      outcome = (ap (answer_bytes plan.answer) is.version_is, ap machine_of now);
    })
done_response (Err why) old mid new command plan close same is bytes_are state_is = tt

-- what holds of a text that was made, if it is this one
given_holds : {E : Type 0} (P : List ℕ → Type 0) (given : Result (List ℕ) E) (text : List ℕ) → given ≡ Ok text
    → IfOk given P → P text
given_holds P given text is holds = subst (λ r. IfOk r P) is holds

-- the response to an answer
pub answer_made :
    {E F : Type 0} (text : Result (List ℕ) E) (made : Result (List ℕ) F) (given answer : Answer)
    (at version : ℕ) (close : Bool) → given ≡ answer → at ≡ version
    → IfOk text (λ body. body ≡ answer_bytes given at) → IfOk made (IsResponseOf 200 text close)
    → IfOk made (λ bytes. bytes ≡ response 200 (answer_bytes answer version) close)
answer_made text made given answer at version close same same_version text_is made_is =
    IfOk-weaker made _ _
    (λ bytes h.
    let is : h.0 ≡ answer_bytes given at = given_holds (λ body. body ≡ answer_bytes given at) text h.0 h.1 text_is in
    h.2 ∙ ap (λ body. response 200 body close)
    (is ∙ (ap (λ (a : Answer). answer_bytes a at) same ∙ ap (answer_bytes answer) same_version))) made_is

-- a broken rule is responded to by its text
pub broken_response :
    {E F G : Type 0} (text : Result (List ℕ) E) (made : Result (List ℕ) F) (result : Result (List ℕ) G)
    (old now : Kept) (command : Command) (rule : Rule) (version : ℕ) (close : Bool) → IsUnchanged old now
    → step (machine_kept old) command ≡ Broken rule → version ≡ now.state.version
    → IfOk result (λ given. made ≡ Ok given) → IfOk made (IsResponseOf 409 text close)
    → IfOk text (λ body. body ≡ rule_bytes rule version)
    → IfOk result
    (λ bytes. IsOutcomeResponse (step (machine_kept old) command) (machine_kept old) bytes close (machine_kept now))
broken_response text made result old now command rule version close same broken version_is handed made_is text_is =
    handed_on
    (λ bytes. IsOutcomeResponse (step (machine_kept old) command) (machine_kept old) bytes close (machine_kept now))
    made result handed
    (IfOk-weaker made _ _
    (λ bytes h.
    let is : h.0 ≡ rule_bytes rule version =
    given_holds (λ body. body ≡ rule_bytes rule version) text h.0 h.1 text_is in
    subst (λ (r : Reply). IsOutcomeResponse r (machine_kept old) bytes close (machine_kept now)) (sym broken)
    (record {
      body = h.0;
      bytes_are = h.2;
      outcome = (
        is ∙ ap (rule_bytes rule) (version_is ∙ ap (λ (s : State). s.version) same.same_state),
        ap machine_of same.same_state,
      );
    })) made_is)

-- the response to a command's outcome is that to the request which asks for it
pub command_response :
    {E : Type 0} (result : Result (List ℕ) E) (old new : Kept) (request : Request) (command : Command)
    → RequestAsks request (Asks command)
    → IfOk result (λ bytes. IsOutcomeResponse (step (machine_kept old) command) (machine_kept old) bytes request.close
    (machine_kept new))
    → IfOk result (λ bytes. IsResponse kept_answers old request bytes new)
command_response result old new request command read responded =
    IfOk-weaker result _ _
    (λ bytes h. response_to old new request (Asks command) bytes h.body read h.bytes_are h.outcome) responded

no_text : (text : List ℕ) → fault_bytes wire.OutOfMemory ≡ Some text → ⊥
unfolding fault_bytes
no_text text is = cc

-- the response to a request that asks for no command
pub fault_response :
    {E F G : Type 0} (text : Result (List ℕ) E) (made : Result (List ℕ) F) (result : Result (List ℕ) G) (old : Kept)
    (request : Request) (fault : WireError) → IfSome (asked_of_fault fault) (RequestAsks request)
    → IfOk result (λ given. made ≡ Ok given) → IfOk made (IsResponseOf 400 text request.close)
    → IfOk text (λ body. fault_bytes fault ≡ Some body)
    → IfOk result (λ bytes. IsResponse kept_answers old request bytes old)
fault_response text made result old request wire.NotJson read handed made_is text_is =
    handed_on (λ bytes. IsResponse kept_answers old request bytes old) made result handed
    (IfOk-weaker made _ _
    (λ bytes h. response_to old old request NotJson bytes h.0 read h.2
    (given_holds (λ body. fault_bytes wire.NotJson ≡ Some body) text h.0 h.1 text_is, refl)) made_is)
fault_response text made result old request (wire.NotCommand name) read handed made_is text_is =
    handed_on (λ bytes. IsResponse kept_answers old request bytes old) made result handed
    (IfOk-weaker made _ _
    (λ bytes h. response_to old old request (NotCommand name) bytes h.0 read h.2
    (given_holds (λ body. fault_bytes (wire.NotCommand name) ≡ Some body) text h.0 h.1 text_is, refl)) made_is)
fault_response text made result old request wire.OutOfMemory read handed made_is text_is =
    handed_on (λ bytes. IsResponse kept_answers old request bytes old) made result handed
    (IfOk-weaker made _ _
    (λ bytes h. absurd (no_text h.0
    (given_holds (λ body. fault_bytes wire.OutOfMemory ≡ Some body) text h.0 h.1 text_is))) made_is)

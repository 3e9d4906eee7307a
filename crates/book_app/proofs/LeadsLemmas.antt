-- The requests of a link lead from a state to another by the steps of their answers.
use Rattle.std.proofs.Common.{◌≡◌, ℕ, List, [], ◌∷◌, ◌++◌, inl, inr, refl, ap, subst}
use Rattle.book_command.specs.declared.command.Command.{Command}
use Rattle.book_lines.specs.Marks.{Mark, Answered, Memory, Keeper}
use Rattle.book_lines.specs.RunClause.{Moment}
use Rattle.book_engine.specs.Books.{machine_kept}
use Rattle.book_engine.specs.Kept.{Kept}
use Rattle.book_engine.specs.Machine.{Broken, Done, Machine, Reply, step}
use Rattle.book_http.specs.declared.next.Request.{Request}
use Rattle.book_serve.specs.Exchange.{Exchange}
use Rattle.book_serve.specs.Link.{HasAnswered, HasCutResponse, HasDone, LinkClause}
use Rattle.book_serve.specs.Statuses.{mark_of}
use Rattle.book_serve.specs.declared.link_end.LinkEnd.{LinkEnd}
use Rattle.book_serve.specs.declared.link_end.LinkEnd.TheVariants as end
use Rattle.book_wire.specs.Asked.{Asked, Asks, NotCommand, NotJson}
use Rattle.book_app.specs.Machine.{AreDone, IsOutcome, IsReply, Leads, request_answers}
use Rattle.book_app.specs.Respond.{kept_answers}

-- ---- one request

pub stays : (machine new : Machine) → new ≡ machine → Leads machine new
stays machine new same = ([], same)

outcome-leads :
    (command : Command) (old new : Machine) (text : List ℕ) (comes : Reply) → step old command ≡ comes
    → IsOutcome comes old text new → Leads old new
outcome-leads command old new text (Broken rule) is outcome = stays old new outcome.1
outcome-leads command old new text (Done after given) is outcome = (command ∷ [], (after, given, is, outcome.1))

reply-leads : (asked : Asked) (old new : Machine) (text : List ℕ) → IsReply asked old text new → Leads old new
reply-leads (Asks command) old new text is = outcome-leads command old new text (step old command) refl is
reply-leads NotJson old new text is = stays old new is.1
reply-leads (NotCommand name) old new text is = stays old new is.1

request-leads :
    (old : Machine) (request : Request) (mark : Mark) (status : ℕ) (body : List ℕ) (new : Machine)
    → request_answers old request mark status body new → Leads old new
request-leads old request Answered status body new is = reply-leads is.asked old new body is.reply
request-leads old request Memory status body new is = stays old new is.2
request-leads old request Keeper status body new is = stays old new is.2

done-twice :
    (first second third : Machine) (commands others : List Command) → AreDone first commands second
    → AreDone second others third → AreDone first (commands ++ others) third
done-twice first second third [] others one other = subst (λ (m : Machine). AreDone m others third) one other
done-twice first second third (command ∷ commands) others one other =
    (one.0, one.1, one.2, done-twice one.0 second third commands others one.3 other)

pub leads-through : (first second third : Machine) → Leads first second → Leads second third → Leads first third
leads-through first second third one other =
    (one.0 ++ other.0, done-twice first second third one.0 other.0 one.1 other.1)

-- ---- a link

-- what the engine's machine is led to
abbrev pub To : Kept → Kept → Type 0
To old new = Leads (machine_kept old) (machine_kept new)

exchange-leads :
    (old : Kept) (requests : List Request) (statuses text : List ℕ) (new : Kept)
    → Exchange kept_answers old requests statuses text new → To old new
exchange-leads old [] [] text new is = stays (machine_kept old) (machine_kept new) (ap machine_kept is.1)
exchange-leads old [] (status ∷ others) text new is = absurd is
exchange-leads old (request ∷ more) [] text new is = absurd is
exchange-leads old (request ∷ more) (status ∷ others) text new is =
    leads-through (machine_kept old) (machine_kept is.1) (machine_kept new)
    (request-leads (machine_kept old) request (mark_of status) status is.0 (machine_kept is.1) is.3)
    (exchange-leads is.1 more others is.2 new is.5)

answered-leads :
    (most : ℕ) (old : Moment Kept) (bytes rest text : List ℕ) (new : Moment Kept)
    → HasAnswered kept_answers most old bytes rest text new → To old.machine new.machine
answered-leads most old bytes rest text new is =
    exchange-leads old.machine is.requests is.exchange.statuses text new.machine is.exchange.responses

done-leads :
    (most : ℕ) (old : Moment Kept) (bytes left text : List ℕ) (new : Moment Kept)
    → HasDone kept_answers most old bytes left text new → To old.machine new.machine
done-leads most old bytes left text new (inl is) = answered-leads most old bytes [] text new is.0
done-leads most old bytes left text new (inr (inl is)) = answered-leads most old bytes is.rest is.front new is.answered
done-leads most old bytes left text new (inr (inr is)) =
    exchange-leads old.machine (is.requests ++ is.request ∷ []) is.exchange.statuses text new.machine
    is.exchange.responses

broken-leads :
    (most : ℕ) (old : Moment Kept) (bytes text : List ℕ) (new : Moment Kept)
    → HasCutResponse kept_answers most old bytes text new → To old.machine new.machine
broken-leads most old bytes text new is =
    leads-through (machine_kept old.machine) (machine_kept is.cut.mid) (machine_kept new.machine)
    (exchange-leads old.machine is.requests is.cut.statuses is.cut.front is.cut.mid is.cut.responses)
    (request-leads (machine_kept is.cut.mid) is.request (mark_of is.cut.status) is.cut.status is.cut.body
    (machine_kept new.machine) is.cut.answered)

-- whatever its end is, commands lead from the machine before it to that after it
pub link-leads :
    (most : ℕ) (old : Moment Kept) (read left text : List ℕ) (new : Moment Kept) (ended : LinkEnd)
    → LinkClause kept_answers most old read left text new ended → To old.machine new.machine
link-leads most old read left text new end.Done is = done-leads most old (read ++ left) left text new is
link-leads most old read left text new end.Cut is = answered-leads most old (read ++ left) is.rest text new is.answered
link-leads most old read left text new end.ReadFault is = answered-leads most old read is.rest text new is.answered
link-leads most old read left text new end.WriteFault (inl is) = broken-leads most old (read ++ left) text new is
link-leads most old read left text new end.WriteFault (inr is) =
    answered-leads most old (read ++ left) is.rest is.front new is.answered
link-leads most old read left text new end.Limit is =
    exchange-leads old.machine is.requests is.exchange.statuses text new.machine is.exchange.responses
link-leads most old read left text new end.OutOfMemory is = answered-leads most old read is.rest text new is.answered

use Rattle.std.proofs.Common.{ap, refl, Ok, Err}
use Rattle.book_http.specs.declared.next.Next.TheVariants.{Refused, Cut}
use Rattle.book_http.proofs.ExchangeLemmas.{IsNext-read, IsNext-behind, head_cut, head_failed, some_left}
use Rattle.book_http.proofs.next.next_request.Goals as goal

-- the link has ended within a head
pub returns-in-Ok-Unfinished-2-clause-next : goal.returns-in-Ok-Unfinished-2-clause-next
returns-in-Ok-Unfinished-2-clause-next g c =
    let inbox = c.await_head.new.inbox in
    let after = g.S.Source.left c.await_head.new.link in
    IsNext-read c.args.inbox.now inbox inbox (g.S.Source.left c.args.link.now) after (Ok Cut) c.await_head.ensures.read
    (head_cut inbox after (rw c.in-Ok-Unfinished.field-0-is at c.in-Ok-Unfinished.ensures.judged)
    (some_left inbox c.as_slice.result.now c.is_empty.result c.as_slice.ensures c.is_empty.ensures c.if-is_empty.false)
    (rw c.in-Ok-Unfinished.field-0-is at c.in-Ok-Unfinished.ensures.ended))

-- the head is refused
pub returns-in-Ok-Refused-clause-next : goal.returns-in-Ok-Refused-clause-next
returns-in-Ok-Refused-clause-next g c =
    let inbox = c.await_head.new.inbox in
    IsNext-read c.args.inbox.now inbox inbox (g.S.Source.left c.args.link.now) (g.S.Source.left c.await_head.new.link)
    (Ok (Refused c.in-Ok-Refused.status)) c.await_head.ensures.read
    (rw c.in-Ok-Refused.field-0-is at c.in-Ok-Refused.ensures.judged, refl)

-- the head is accepted
pub returns-in-Ok-Accepted-clause-next : goal.returns-in-Ok-Accepted-clause-next
returns-in-Ok-Accepted-clause-next g c =
    IsNext-behind c.args.inbox.now c.await_head.new.inbox c.take_request.new.inbox (g.S.Source.left c.args.link.now)
    (g.S.Source.left c.await_head.new.link) (g.S.Source.left c.take_request.new.link) c.take_request.result
    c.await_head.ensures.read c.take_request.ensures.next

-- the link could not be read
pub returns-in-Err-clause-next : goal.returns-in-Err-clause-next
returns-in-Err-clause-next g c =
    let inbox = c.await_head.new.inbox in
    let after = g.S.Source.left c.await_head.new.link in
    IsNext-read c.args.inbox.now inbox inbox (g.S.Source.left c.args.link.now) after (Err c.in-Err.error)
    c.await_head.ensures.read
    (head_failed inbox after c.in-Err.error (λ failed. c.in-Err.ensures.unfinished (ap Err failed)))

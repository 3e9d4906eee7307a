use Rattle.std.proofs.Common.{◌∙◌, ap, sym, subst, Ok, Err}
use Rattle.book_http.specs.declared.next.Next.{Next}
use Rattle.book_http.specs.declared.next.Next.TheVariants.{Cut}
use Rattle.book_http.specs.declared.next.NextError.{NextError}
use Rattle.book_http.specs.Exchange.{IsNext}
use Rattle.book_http.proofs.ExchangeLemmas.{BeginsAccepted-read, IsNext-read, body_cut, body_failed}
use Rattle.book_http.proofs.next.take_request.Goals as goal

-- the body has come
pub returns-in-Ok-true-clause-next : goal.returns-in-Ok-true-clause-next
returns-in-Ok-true-clause-next g c =
    IsNext-read c.args.inbox.now c.await_bytes.new.inbox c.take_whole.new.inbox (g.S.Source.left c.args.link.now)
    (g.S.Source.left c.await_bytes.new.link) c.take_whole.result c.await_bytes.ensures.read
    (c.take_whole.ensures.next (g.S.Source.left c.await_bytes.new.link))

pub returns-in-Ok-true-clause-fault : goal.returns-in-Ok-true-clause-fault
returns-in-Ok-true-clause-fault g c failed = absurd (c.take_whole.ensures.quiet failed)

-- the link has ended before
pub returns-in-Ok-false-clause-next : goal.returns-in-Ok-false-clause-next
returns-in-Ok-false-clause-next g c =
    let before = g.S.Source.left c.args.link.now in
    let after = g.S.Source.left c.await_bytes.new.link in
    let inbox = c.await_bytes.new.inbox in
    let begun = BeginsAccepted-read c.args.inbox.now inbox c.args.accepted before after c.requires
    c.await_bytes.ensures.read in
    let ended = c.await_bytes.ensures.ended (c.in-Ok-false.is ∙ ap Ok c.in-Ok-false.field-0-test) in
    subst (λ (next : Next). IsNext c.args.inbox.now inbox before after (Ok next)) (sym c.discard.ensures)
    (IsNext-read c.args.inbox.now inbox inbox before after (Ok Cut) c.await_bytes.ensures.read
    (body_cut inbox c.args.accepted after begun ended.0 ended.1))

-- the link could not be read
pub returns-in-Err-clause-next : goal.returns-in-Err-clause-next
returns-in-Err-clause-next g c =
    let before = g.S.Source.left c.args.link.now in
    let after = g.S.Source.left c.await_bytes.new.link in
    let inbox = c.await_bytes.new.inbox in
    let begun = BeginsAccepted-read c.args.inbox.now inbox c.args.accepted before after c.requires
    c.await_bytes.ensures.read in
    subst (λ (error : NextError). IsNext c.args.inbox.now inbox before after (Err error)) (sym c.discard-in-Err.ensures)
    (IsNext-read c.args.inbox.now inbox inbox before after (Err c.in-Err.error) c.await_bytes.ensures.read
    (body_failed inbox c.args.accepted after c.in-Err.error begun c.in-Err.ensures.unfinished))

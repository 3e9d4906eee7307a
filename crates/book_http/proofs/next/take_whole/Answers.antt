use Rattle.std.proofs.Common.{◌∙◌, ap, Bool, cond, [], take, drop}
use Rattle.book_http.specs.Route.{takes_body}
use Rattle.book_http.proofs.ExchangeLemmas.{body_taken}
use Rattle.book_http.proofs.next.take_whole.Goals as goal

-- the request is whole
pub returns-in-Ok-clause-next : goal.returns-in-Ok-clause-next
returns-in-Ok-clause-next c after =
    let bytes = c.args.inbox.now in
    body_taken bytes c.args.accepted after c.in-Ok.body c.take.new.self c.requires.begun c.requires.whole
    (c.in-Ok.ensures.body
    ∙ ap (λ (t : Bool). cond t (take c.args.accepted.body (drop c.args.accepted.head bytes)) [])
    (c.takes_body-wanted.ensures ∙ ap takes_body c.kind.ensures))
    c.in-Ok.ensures.taken

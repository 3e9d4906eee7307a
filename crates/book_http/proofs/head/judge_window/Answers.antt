use Rattle.std.proofs.Common.{ap, Err}
use Rattle.std.proofs.lemmas.Result.{IfOk-weaker}
use Rattle.book_http.proofs.HeadLemmas.{no_excess, window_judged, window_short, window_full}
use Rattle.book_http.proofs.head.judge_window.Goals as goal

-- there is room for the spans of all fields
pub unreachable-requires : goal.unreachable-requires
unreachable-requires c =
    no_excess _ _ c.requires (c.in-Err-TooManyHeaders.ensures.too_many (ap Err c.in-Err-TooManyHeaders.field-0-is))

-- a head has ended
pub returns-in-Ok-Complete : goal.returns-in-Ok-Complete
returns-in-Ok-Complete c =
    let found = rw c.in-Ok-Complete.field-0-is at c.in-Ok-Complete.ensures.complete in
    IfOk-weaker c.judge_head.result _ _
    (λ judgement judged bytes is. window_judged c.args.window.now bytes c.parse_request.new.headers
    c.in-Ok-Complete.found
    found.0 judgement is found.1 (judged found.0 found.1)) c.judge_head.ensures

-- none has, and more bytes may come
pub returns-in-Ok-Partial : goal.returns-in-Ok-Partial
returns-in-Ok-Partial c bytes is =
    window_short c.args.window.now bytes is c.if-window-lt-MAX_HEAD.true
    (rw c.in-Ok-Partial.field-0-is at c.in-Ok-Partial.ensures.partial)
    (rw c.in-Ok-Partial.field-0-is at c.in-Ok-Partial.ensures.unfinished)

-- none has in 16 KiB
pub returns-in-Ok-Partial-2 : goal.returns-in-Ok-Partial-2
returns-in-Ok-Partial-2 c bytes is =
    window_full c.args.window.now bytes is c.if-window-lt-MAX_HEAD.false
    (rw c.in-Ok-Partial.field-0-is at c.in-Ok-Partial.ensures.partial)
    (rw c.in-Ok-Partial.field-0-is at c.in-Ok-Partial.ensures.unfinished)

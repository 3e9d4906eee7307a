use Rattle.std.proofs.Common.{codes, sym, ap, ◌∙◌}
use Rattle.book_json.specs.Forms.{day_named}
use Rattle.book_wire.specs.Asked.{Asks}
use Rattle.book_requests.specs.Requests.{asked_of_day}
use Rattle.book_requests.proofs.TargetLemmas.{missing_asked, sheet_asks, sheet_fails}
use Rattle.book_requests.proofs.targets.sheet.Goals as goal

pub returns-in_err-day : goal.returns-in_err-day
returns-in_err-day c =
    missing_asked (asked_of_day (codes "sheet") c.args.day.now) (codes "day") (day_named c.args.day.now) _
    c.from_residual.result
    (sheet_fails c.args.day.now) c.in_err-day.ensures
    c.from_residual.ensures.1

pub returns : goal.returns
returns c = ap Asks c.reporting.ensures ∙ sym (sheet_asks c.args.day.now c.in_ok-day.day c.in_ok-day.ensures)

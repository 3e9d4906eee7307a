use Rattle.std.proofs.Common.{codes, sym, ap, ◌∙◌}
use Rattle.book_json.specs.Forms.{day_named}
use Rattle.book_wire.specs.Asked.{Asks}
use Rattle.book_requests.specs.Requests.{asked_of_days}
use Rattle.book_requests.proofs.TargetLemmas.{missing_asked, income_asks, income_fails_first, income_fails_last}
use Rattle.book_requests.proofs.targets.income.Goals as goal

pub returns-in_err-from : goal.returns-in_err-from
returns-in_err-from c =
    missing_asked (asked_of_days c.args.from.now c.args.to.now) (codes "from") (day_named c.args.from.now) _
    c.from_residual.result
    (income_fails_first c.args.from.now c.args.to.now) c.in_err-from.ensures
    c.from_residual.ensures.1

pub returns-in_err-to : goal.returns-in_err-to
returns-in_err-to c =
    missing_asked (asked_of_days c.args.from.now c.args.to.now) (codes "to") (day_named c.args.to.now) _
    c.from_residual-in_err-to.result
    (income_fails_last c.args.from.now c.args.to.now c.in_ok-from.from c.in_ok-from.ensures) c.in_err-to.ensures
    c.from_residual-in_err-to.ensures.1

pub returns : goal.returns
returns c =
    ap Asks c.reporting.ensures
    ∙ sym (income_asks c.args.from.now c.args.to.now c.in_ok-from.from c.in_ok-to.to c.in_ok-from.ensures
    c.in_ok-to.ensures)

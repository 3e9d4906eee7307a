use Rattle.std.proofs.Common.{codes, sym, ap, ◌∙◌}
use Rattle.book_numerals.specs.Numerals.{number_of}
use Rattle.book_wire.specs.Asked.{Asks}
use Rattle.book_requests.specs.Requests.{asked_of_account}
use Rattle.book_requests.proofs.TargetLemmas.{missing_asked, lots_asks, lots_fails}
use Rattle.book_requests.proofs.targets.lots.Goals as goal

pub returns-in_err-account : goal.returns-in_err-account
returns-in_err-account c =
    missing_asked (asked_of_account (codes "lots") c.args.account.now) (codes "account") (number_of c.args.account.now) _
    c.from_residual.result
    (lots_fails c.args.account.now) c.in_err-account.ensures
    c.from_residual.ensures.1

pub returns : goal.returns
returns c =
    ap Asks c.reporting.ensures ∙ sym (lots_asks c.args.account.now c.in_ok-account.account c.in_ok-account.ensures)

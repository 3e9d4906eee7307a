use Rattle.std.proofs.Common.{Some, None, sym, ◌∙◌}
use Rattle.std.proofs.lemmas.Result.{err_from_is_err_and}
use Rattle.bai2_read.specs.Kept.{with_last}
use Rattle.bai2_read.proofs.KeptLemmas.{said_at_end, stopped}
use Rattle.bai2_read.proofs.reader.Reader.end.Goals as goal

pub returns-in_err-settle : goal.returns-in_err-settle
returns-in_err-settle c =
    let p = err_from_is_err_and c.from_residual.result c.from_residual.ensures.1 in
    λ done last keeps. rw (p.1, p.2) (stopped c.args.known.now.entries c.args.lines (with_last done last) None
    c.in_err-settle.field-0.0 c.settle.new.self (c.in_err-settle.ensures done last keeps))

pub returns-in-Some : goal.returns-in-Some
returns-in-Some c =
    λ done last keeps. said_at_end c.args.known.now.entries c.args.lines c.settle.new.self (with_last done last) None
    (Some c.in-Some.fault) (c.in_ok-settle.ensures done last keeps) (sym c.in-Some.is ∙ c.fault_at_end.ensures)

pub returns : goal.returns
returns c =
    λ done last keeps. said_at_end c.args.known.now.entries c.args.lines c.settle.new.self (with_last done last) None
    None (c.in_ok-settle.ensures done last keeps) (sym c.in_default.is ∙ c.fault_at_end.ensures)

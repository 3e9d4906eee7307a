use Rattle.std.proofs.Common.{ap}
use Rattle.mt940_read.specs.Steps.{begun, ended, end_checks}
use Rattle.mt940_read.proofs.StepLemmas.{steps_err}
use Rattle.mt940_read.proofs.reader.Reader.begin.Goals as goal

pub returns-in-Ok : goal.returns-in-Ok
returns-in-Ok c known line = ((c.in-Ok.ensures known).0, ap begun (c.in-Ok.ensures known).1)

pub returns-in-Err : goal.returns-in-Err
returns-in-Err c known line =
    steps_err c.args.before (end_checks c.args.self.now) (ended known c.args.self.now)
    (begun (ended known c.args.self.now)) c.in-Err.error c.end.new.self c.end.new.self (c.in-Err.ensures known)

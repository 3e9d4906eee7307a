use Rattle.mt940_read.proofs.StepLemmas.{finish_ok, finish_err}
use Rattle.mt940_read.proofs.reader.Reader.finish.Goals as goal

pub returns-in-Ok : goal.returns-in-Ok
returns-in-Ok c known = finish_ok known c.args.last c.args.self c.end.new.self c.answer.result
    (c.in-Ok.ensures known) c.answer.ensures

pub returns-in-Err : goal.returns-in-Err
returns-in-Err c known = finish_err known c.args.last c.args.self c.end.new.self c.in-Err.error
    (c.in-Err.ensures known)

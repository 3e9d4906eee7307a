-- One statement more.
use Rattle.std.proofs.Common.{arith}
use Rattle.book_import.proofs.StepLemmas.{statements-done, statements-next}
use Rattle.book_import.proofs.importing.Importing.add_statements.Goals as goal

pub loop-bound-preserved : goal.loop-bound-preserved
loop-bound-preserved c =
    statements-next c.args.statements.now c.args.file.now c.loop-bound.bound-index c.bound-item.result
    c.args.self.now c.loop-bound.self c.add_statement.new.self c.loop-bound-test.true c.bound-item.is
    c.loop-bound.invariant c.in_ok-add_statement.ensures

pub returns : goal.returns
returns c =
    statements-done c.args.statements.now c.args.file.now c.loop-bound.bound-index c.args.self.now c.loop-bound.self
    (omega arith) c.loop-bound.invariant

-- What was read of the rows is whole, or a step is missing or one too many.
use Rattle.book_opening.specs.State.{head_of, state_of}
use Rattle.book_opening.proofs.ReadLaws.{where_read, whole_bad_for, whole_rows}
use Rattle.book_opening.proofs.read.read_behind.Goals as goal

pub returns-in-Ok-clause-rows : goal.returns-in-Ok-clause-rows
returns-in-Ok-clause-rows g c =
    whole_rows c.args.format (g.K.Keeper.holds c.args.keeper.now) (state_of c.read_into.new.saved) c.whole.result
    (head_of (state_of c.args.state)) c.whole.ensures c.in-Ok.ensures.read c.in-Ok.ensures.rows

pub returns-in-Ok-clause-bad : goal.returns-in-Ok-clause-bad
returns-in-Ok-clause-bad g c =
    whole_bad_for c.args.format (g.K.Keeper.holds c.args.keeper.now) (state_of c.read_into.new.saved) c.whole.result
    (head_of (state_of c.args.state)) c.whole.ensures c.in-Ok.ensures.head c.in-Ok.ensures.read
    (λ rows held. g.met.K.Keeper.rising c.args.keeper.now rows held) c.in-Ok.ensures.rows

pub returns-in-Ok-clause-known : goal.returns-in-Ok-clause-known
returns-in-Ok-clause-known g c = where_read c.whole.result _ c.in-Ok.ensures.known

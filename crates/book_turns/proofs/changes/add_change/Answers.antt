use Rattle.std.proofs.Common.{◌+◌, ◌-◌, ◌==◌}
use Rattle.book_history.specs.Numbers.{numbers_from}
use Rattle.book_turns.proofs.ChangeFits.{change_fits, on_ok}
use Rattle.book_turns.proofs.changes.add_change.Goals as goal

pub returns-clause-fit : goal.returns-clause-fit
returns-clause-fit c =
    let state = c.args.state.now in
    on_ok c.add_forth_gone.result
    (change_fits (state.past == 256) (state.position - 255) (state.position + 1) c.args.inverse.now
    (numbers_from (state.position + 1) state.later) c.in_ok-back_put.ensures.fits)

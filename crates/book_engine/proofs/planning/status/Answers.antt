use Rattle.book_history.proofs.TurnLaws.{length_later, length_past}
use Rattle.book_opening.specs.State.{state_of}
use Rattle.book_engine.proofs.planning.status.Goals as goal

pub returns : goal.returns
returns c =
    let s = state_of c.args.state.now in
    let accounts = c.len.ensures.len in
    let later = length_later s.next s.book s.position s.past s.later s.back s.forth c.requires.history in
    let lines = c.len-2.ensures.len in
    let past = length_past s.next s.book s.position s.past s.later s.back s.forth c.requires.history in
    let recons = c.len-3.ensures.len in
    let splits = c.count_splits.ensures in
    let transactions = c.len-4.ensures.len in
    cc

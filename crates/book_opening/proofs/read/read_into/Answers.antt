-- One row more; or none is left, or it is bad.
use Rattle.std.proofs.Common.{sym, ◌∙◌, refl, arith}
use Rattle.book_keeper.specs.Rows.{rank}
use Rattle.book_opening.specs.State.{head_of, state_of}
use Rattle.book_opening.proofs.ReadLaws.{bad_thing, begins_as, last_rows, next_bad, next_head, next_read, next_rows}
use Rattle.book_opening.proofs.ReadLaws.{read_more, read_none, start_rows, unread_bad, unread_known, where_bad}
use Rattle.book_opening.proofs.read.read_into.Goals as goal

pub rows-init : goal.rows-init
rows-init g c = record {
  read = c.requires.only;
  head = refl;
  last = omega arith;
  keeper = read_none g.K.Keeper c.args.keeper.now;
  known = λ honest sure. sure;
  count = refl;
  rows = λ known rows held begins.
      start_rows c.args.format rows (state_of c.args.saved.now) c.requires.begun
      (g.met.K.Keeper.rising c.args.keeper.now rows held) begins;
}

pub rows-preserved : goal.rows-preserved
rows-preserved g c =
    let row = c.in-Ok-Some.row in
    let before = state_of c.rows.saved in
    let after = state_of c.put.new.self in
    let above = rw c.in-Ok-Some.field-0-is at c.in-Ok-Some.ensures.above in
    record {
      read = next_read c.args.format before after row.key.id c.in-Ok.it c.in-Ok.ensures.behind c.in-Ok-put.ensures
          c.in-Ok.ensures.read c.rows.invariant.read;
      head = next_head before after row.key.id c.in-Ok.it (head_of (state_of c.args.saved.now)) c.in-Ok-put.ensures
          c.rows.invariant.head;
      last = (let past = c.rows.invariant.last in omega (arith, past, above));
      keeper = read_more g.K.Keeper c.args.keeper.now c.rows.keeper c.next_row.new.self c.rows.invariant.keeper
          (record {
            same_path = c.in-Ok-Some.ensures.path;
            still_honest = c.in-Ok-Some.ensures.honest;
            still_sure = c.in-Ok-Some.ensures.sure;
            same_rows = c.in-Ok-Some.ensures.rows;
            leaves = c.in-Ok-Some.ensures.left;
          });
      known = λ honest before.
          c.in-Ok-Some.ensures.known honest (c.rows.invariant.known (c.in-Ok-Some.ensures.honest honest) before);
      count = c.in-Ok-Some.ensures.cause.done ∙ c.rows.invariant.count;
      rows = λ known rows held begins.
          let still = c.in-Ok-Some.ensures.sure known in
          let now = c.rows.invariant.keeper.same_rows still rows held in
          next_rows c.args.format rows (rank c.rows.last) row before after row.key.id c.in-Ok.it c.in-Ok.ensures.behind
          (g.met.K.Keeper.rising c.args.keeper.now rows held)
          (sym (c.in-Ok-Some.ensures.found known rows now) ∙ c.in-Ok-Some.field-0-is)
          (c.rows.invariant.rows still rows held begins) c.in-Ok.ensures.found c.in-Ok-put.ensures
          c.in-Ok.ensures.read c.rows.invariant.read;
    }

pub returns-in-Ok-None-clause-head : goal.returns-in-Ok-None-clause-head
returns-in-Ok-None-clause-head g c = c.rows.invariant.head

pub returns-in-Ok-None-clause-read : goal.returns-in-Ok-None-clause-read
returns-in-Ok-None-clause-read g c = c.rows.invariant.read

pub returns-in-Ok-None-clause-rows : goal.returns-in-Ok-None-clause-rows
returns-in-Ok-None-clause-rows g c = λ known rows held begins.
    let still = c.in-Ok-None.ensures.sure known in
    let now = c.rows.invariant.keeper.same_rows still rows held in
    last_rows c.args.format rows (rank c.rows.last) (state_of c.rows.saved)
    (sym (c.in-Ok-None.ensures.found known rows now) ∙ c.in-Ok-None.field-0-is)
    (c.rows.invariant.rows still rows held begins)

pub returns-in-Ok-None-clause-known : goal.returns-in-Ok-None-clause-known
returns-in-Ok-None-clause-known g c = λ honest before.
    c.in-Ok-None.ensures.known honest (c.rows.invariant.known (c.in-Ok-None.ensures.honest honest) before)

pub returns-in-Err-clause-known : goal.returns-in-Err-clause-known
returns-in-Err-clause-known g c = unread_known c.keeper_fault.result _ c.keeper_fault.ensures.unread

pub returns-in-Err-BadRows-clause-known : goal.returns-in-Err-BadRows-clause-known
returns-in-Err-BadRows-clause-known g c =
    where_bad c.bad.result _ (λ honest before.
    c.in-Ok-Some.ensures.known honest (c.rows.invariant.known (c.in-Ok-Some.ensures.honest honest) before))

pub returns-in-Err-clause-bad : goal.returns-in-Err-clause-bad
returns-in-Err-clause-bad g c = λ known rows held begins.
    unread_bad rows c.keeper_fault.result c.keeper_fault.ensures.unread

pub returns-in-Err-BadRows-clause-bad : goal.returns-in-Err-BadRows-clause-bad
returns-in-Err-BadRows-clause-bad g c = λ known rows held begins.
    let row = c.in-Ok-Some.row in
    let before = state_of c.rows.saved in
    let still = c.in-Ok-Some.ensures.sure known in
    let now = c.rows.invariant.keeper.same_rows still rows held in
    let fault = c.in-Err-BadRows in
    next_bad c.args.format rows (rank c.rows.last) row before c.first_bad.result c.bad.result
    (g.met.K.Keeper.rising c.args.keeper.now rows held)
    (sym (c.in-Ok-Some.ensures.found known rows now) ∙ c.in-Ok-Some.field-0-is)
    (c.rows.invariant.rows still rows held begins) c.rows.invariant.read
    (begins_as c.args.format rows before (head_of (state_of c.args.saved.now)) c.rows.invariant.head begins)
    (bad_thing c.args.format row fault.field-0 fault.field-0-0 fault.field-0-1 fault.field-0-is fault.ensures.bad)
    c.first_bad.ensures c.bad.ensures

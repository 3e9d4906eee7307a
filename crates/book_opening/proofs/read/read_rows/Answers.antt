-- What was read of the rows is what they open as.
use Rattle.std.proofs.Common.{Some, ap, sym, ◌∙◌}
use Rattle.book_keeper.specs.declared.row.Row.{Row}
use Rattle.book_opening.specs.State.{state_of}
use Rattle.book_opening.proofs.KeptSteps.{only_can}
use Rattle.book_opening.proofs.ReadLaws.{bad_start, begins_as, known_more, known_twice, unread_bad}
use Rattle.book_opening.proofs.ReadLaws.{unread_known, unread_opens, where_bad}
use Rattle.book_opening.proofs.OpenLaws.{bad_answers, bad_opens, only_state, start_opens}
use Rattle.book_opening.proofs.read.read_rows.Goals as goal

pub returns-in-Err-clause-answer : goal.returns-in-Err-clause-answer
returns-in-Err-clause-answer g c = λ known rows held.
    bad_answers rows c.keeper_fault.result (unread_bad rows c.keeper_fault.result c.keeper_fault.ensures.unread)

pub returns-in-Err-clause-again : goal.returns-in-Err-clause-again
returns-in-Err-clause-again g c = λ known rows held state opens.
    unread_opens state c.keeper_fault.result c.keeper_fault.ensures.unread

pub returns-in-Err-read_head-clause-answer : goal.returns-in-Err-read_head-clause-answer
returns-in-Err-read_head-clause-answer g c = λ known rows held.
    bad_answers rows c.in-Err-read_head.fault
    (bad_start rows c.in-Ok-Some.row c.in-Err-read_head.fault (g.met.K.Keeper.rising c.args.keeper.now rows held)
    (sym (c.in-Ok-Some.ensures.found known rows held) ∙ c.in-Ok-Some.field-0-is) c.in-Err-read_head.ensures.bad)

pub returns-in-Err-read_head-clause-again : goal.returns-in-Err-read_head-clause-again
returns-in-Err-read_head-clause-again g c = λ known rows held state opens.
    start_opens rows state c.in-Ok-Some.row c.in-Err-read_head.fault
    (sym (c.in-Ok-Some.ensures.found known rows held) ∙ c.in-Ok-Some.field-0-is) opens
    c.in-Err-read_head.ensures.bad

pub returns-in-Ok-read_behind-clause-answer : goal.returns-in-Ok-read_behind-clause-answer
returns-in-Ok-read_behind-clause-answer g c = λ known rows held.
    let still = c.read_behind.ensures.keeper.still_sure known in
    let first = sym (c.in-Ok-Some.ensures.found still rows held) ∙ c.in-Ok-Some.field-0-is in
    c.in-Ok-read_behind.ensures.rows known rows (c.in-Ok-Some.ensures.rows still rows held)
    (begins_as c.format_in-format.result rows (state_of c.begun.result) c.in-Ok.head c.begun.ensures.head_is
    (first ∙ ap (λ (r : Row). Some r) c.in-Ok.ensures.found))

pub returns-in-Ok-read_behind-clause-again : goal.returns-in-Ok-read_behind-clause-again
returns-in-Ok-read_behind-clause-again g c = λ known rows held state opens.
    let still = c.read_behind.ensures.keeper.still_sure known in
    let first = sym (c.in-Ok-Some.ensures.found still rows held) ∙ c.in-Ok-Some.field-0-is in
    let mine = c.in-Ok-read_behind.ensures.rows known rows (c.in-Ok-Some.ensures.rows still rows held)
    (begins_as c.format_in-format.result rows (state_of c.begun.result) c.in-Ok.head c.begun.ensures.head_is
    (first ∙ ap (λ (r : Row). Some r) c.in-Ok.ensures.found)) in
    only_state c.format_in-format.result rows (state_of c.in-Ok-read_behind.saved) state mine.are c.in-Ok-read_behind.ensures.read opens

-- what was read has spellings, and steps that the head counts
pub returns-in-Ok-read_behind-clause-readable : goal.returns-in-Ok-read_behind-clause-readable
returns-in-Ok-read_behind-clause-readable g c = record {
  spelled = only_can c.format_in-format.result (state_of c.in-Ok-read_behind.saved) c.in-Ok-read_behind.ensures.read;
  counted = c.in-Ok-read_behind.ensures.counted;
}

pub returns-clause-answer : goal.returns-clause-answer
returns-clause-answer g c = λ known rows held.
    let still = c.read_behind.ensures.keeper.still_sure known in
    let first = sym (c.in-Ok-Some.ensures.found still rows held) ∙ c.in-Ok-Some.field-0-is in
    bad_answers rows c.in-Err-read_behind.fault
    (c.in-Err-read_behind.ensures.bad known rows (c.in-Ok-Some.ensures.rows still rows held)
    (begins_as c.format_in-format.result rows (state_of c.begun.result) c.in-Ok.head c.begun.ensures.head_is
    (first ∙ ap (λ (r : Row). Some r) c.in-Ok.ensures.found)))

pub returns-clause-again : goal.returns-clause-again
returns-clause-again g c = λ known rows held state opens.
    let still = c.read_behind.ensures.keeper.still_sure known in
    let first = sym (c.in-Ok-Some.ensures.found still rows held) ∙ c.in-Ok-Some.field-0-is in
    let begins = first ∙ ap (λ (r : Row). Some r) c.in-Ok.ensures.found in
    bad_opens c.format_in-format.result rows state c.in-Ok.head c.in-Err-read_behind.fault
    (g.met.K.Keeper.rising c.args.keeper.now rows held) begins c.in-Ok.ensures.read opens
    (c.in-Err-read_behind.ensures.bad known rows (c.in-Ok-Some.ensures.rows still rows held)
    (begins_as c.format_in-format.result rows (state_of c.begun.result) c.in-Ok.head c.begun.ensures.head_is begins))

-- whether the keeper still knows its rows
pub returns-in-Err-clause-known : goal.returns-in-Err-clause-known
returns-in-Err-clause-known g c = unread_known c.keeper_fault.result _ c.keeper_fault.ensures.unread

pub returns-in-Err-read_head-clause-known : goal.returns-in-Err-read_head-clause-known
returns-in-Err-read_head-clause-known g c = where_bad c.in-Err-read_head.fault _ c.in-Ok-Some.ensures.known

pub returns-in-Ok-read_behind-clause-known : goal.returns-in-Ok-read_behind-clause-known
returns-in-Ok-read_behind-clause-known g c =
    known_twice g.K.Keeper c.args.keeper.now c.next_row.new.self c.read_behind.new.keeper c.read_behind.ensures.keeper
    c.in-Ok-Some.ensures.known c.in-Ok-read_behind.ensures.known

pub returns-clause-known : goal.returns-clause-known
returns-clause-known g c =
    known_more g.K.Keeper c.args.keeper.now c.next_row.new.self c.read_behind.new.keeper c.in-Err-read_behind.fault
    c.read_behind.ensures.keeper c.in-Ok-Some.ensures.known c.in-Err-read_behind.ensures.known

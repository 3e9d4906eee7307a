use Rattle.book_opening.specs.State.{state_of}
use Rattle.book_show.proofs.OpeningLemmas.{fresh_of, opened_of}
use Rattle.book_show.proofs.opening.open_book.Goals as goal

pub returns-in-Ok-Some-clause-opened : goal.returns-in-Ok-Some-clause-opened
returns-in-Ok-Some-clause-opened g c = λ still rows held.
    let is = rw c.in-Ok-Some.field-0-is at (c.in-Ok-Some.ensures.answer still rows held) in
    opened_of rows (state_of c.in-Ok-Some.state) c.checked.result (c.in-Ok-Some._format, is)
    c.checked.ensures

pub returns-in-Ok-None-clause-opened : goal.returns-in-Ok-None-clause-opened
returns-in-Ok-None-clause-opened g c = λ still rows held.
    let none = rw c.in-Ok-None.field-0-is at (c.in-Ok-None.ensures.answer still rows held) in
    fresh_of rows c.begin.result none c.begin.ensures.book c.begin.ensures.version c.begin.ensures.memory

use Rattle.std.proofs.Common.{sym, ap, ◌∙◌, true}
use Rattle.book_lines.specs.Room.{Seen}
use Rattle.book_lines.proofs.RoomLemmas.{front_of-nil}
use Rattle.book_lines.proofs.line.Line.new.Goals as goal

pub returns : goal.returns
returns c = ap (λ l. let r : Seen = record { front = l; size = 0; blank = true } in r)
    (c.in_ok-bytes.ensures.items ∙ sym front_of-nil)

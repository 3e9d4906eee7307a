-- What was read stands in the inbox, with no fault, and bytes are still wanted.
use Rattle.std.proofs.Common.{◌≡◌, ◌-◌, length}
use Rattle.book_http.specs.Reading.{HasRead}
use Rattle.book_http.proofs.next.await_bytes.Given as goal

abbrev pub invariant-pieces : goal.invariant-pieces
invariant-pieces g l = record {
  read : HasRead l.fn.inbox l.inbox (g.S.Source.left l.fn.link) (g.S.Source.left l.link);
  quiet : g.S.Source.faults l.link ≡ g.S.Source.faults l.fn.link;
}

abbrev pub decreases-pieces : goal.decreases-pieces
decreases-pieces g l = l.wanted - length l.inbox

-- What was read stands in the inbox, with no fault; a head that has not ended is shorter than 16 KiB.
use Rattle.std.proofs.Common.{◌≡◌, ◌-◌, ◌^◌, length}
use Rattle.book_http.specs.Reading.{HasRead}
use Rattle.book_http.proofs.next.await_head.Given as goal

abbrev pub invariant-pieces : goal.invariant-pieces
invariant-pieces g l = record {
  read : HasRead l.fn.inbox l.inbox (g.S.Source.left l.fn.link) (g.S.Source.left l.link);
  quiet : g.S.Source.faults l.link ≡ g.S.Source.faults l.fn.link;
}

abbrev pub decreases-pieces : goal.decreases-pieces
decreases-pieces g l = 2 ^ 14 - length l.inbox

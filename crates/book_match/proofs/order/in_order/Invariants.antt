use Rattle.std.proofs.Common.{◌≡◌, take, map}
use Rattle.book_match.proofs.order.in_order.Given as goal

abbrev pub invariant-loop-line : goal.invariant-loop-line
invariant-loop-line l = map (λ line. line.now) l.order.items ≡ take l.line-index l.lines

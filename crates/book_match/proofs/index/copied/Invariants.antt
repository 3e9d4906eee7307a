use Rattle.std.proofs.Common.{◌≡◌, ◌-◌, ◌≤◌, drop, take}
use Rattle.book_match.proofs.index.copied.Given as goal

abbrev pub invariant-loop-place : goal.invariant-loop-place
invariant-loop-place l = record {
  start : l.start ≤ l.place;
  end : l.place ≤ l.end;
  splits : l.splits.items ≡ take (l.place - l.start) (drop l.start l.entries.list);
}

abbrev pub decreases-loop-place : goal.decreases-loop-place
decreases-loop-place l = l.end - l.place

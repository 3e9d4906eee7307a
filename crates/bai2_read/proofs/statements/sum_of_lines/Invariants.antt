use Rattle.std.proofs.Common.{◌≡◌, ◌*◌, ◌^◌, take, pos, neg_ℤ, ◌≤ℤ◌}
use Rattle.bai2_read.specs.Statements.{sum_of_lines}
use Rattle.bai2_read.proofs.statements.sum_of_lines.Given as goal

abbrev pub invariant-loop-line : goal.invariant-loop-line
invariant-loop-line l = record {
  sum : l.sum ≡ sum_of_lines (take l.line-index l.lines);
  low : neg_ℤ (pos (2 ^ 63 * l.line-index)) ≤ℤ l.sum;
  high : l.sum ≤ℤ pos (2 ^ 63 * l.line-index);
}

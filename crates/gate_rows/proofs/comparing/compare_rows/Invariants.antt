-- The count after the rows that are left is the count after all of them.
use Rattle.std.proofs.Common.{◌≡◌, ◌≤◌, drop}
use Rattle.gate_rows.specs.Comparing.{count_wrong, is_held}
use Rattle.gate_rows.proofs.comparing.compare_rows.Given as goal

abbrev pub invariant-loop-wanted : goal.invariant-loop-wanted
invariant-loop-wanted l = record {
  later : l.fn.report.failed ≤ l.report.failed;
  counted : count_wrong (is_held l.rows) (drop l.wanted-index l.wanted-items) l.report.failed
      ≡ count_wrong (is_held l.rows) l.wanted-items l.fn.report.failed;
}

use Rattle.std.proofs.Common.{arith}
use Rattle.std.proofs.lemmas.Int.{ints}
use Rattle.book_limits.specs.Limits.{largest_sum}
use Rattle.book_reports.specs.Sums.{sum_at}
use Rattle.book_reports.proofs.LineLemmas.{within}
use Rattle.book_reports.proofs.SumsLemmas.{added_by}
use Rattle.book_reports.proofs.sums.add.Goals as goal

pub returns : goal.returns
returns c =
    let small = within largest_sum (sum_at c.args.currency c.args.sums.now.entries) c.requires in
    let entries = rw c.in_ok-reserve.ensures.entries at c.put.ensures.entries in
    added_by c.args.currency c.args.value _ c.args.sums.now.entries c.put.new.self.entries entries
    (omega (arith, ints, small.0, small.1, c.sum_at.ensures, c.ranges.value.sfits))

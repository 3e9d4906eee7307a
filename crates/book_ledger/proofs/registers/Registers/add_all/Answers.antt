use Rattle.std.proofs.Common.{ℕ, ◌+◌, ℤ, pos, get_or, take, sym}
use Rattle.std.proofs.lemmas.List.{take_more}
use Rattle.book_ledger.proofs.OpeningLemmas.{added_more, free_yet}
use Rattle.book_ledger.proofs.registers.Registers.add_all.Goals as goal

pub loop-number-preserved : goal.loop-number-preserved
loop-number-preserved c =
    let inv = c.loop-number.invariant in
    let i = c.loop-number.number-index in
    let order = c.args.order.now in
    let first : ℤ × ℕ = (pos 0, 0) in
    record {
      rows = added_more c.args.transactions.now.entries (take i order) (get_or order i first) (take (i + 1) order)
          c.args.self.now.entries c.loop-number.self.entries c.add.new.self.entries
          (sym (take_more order i first c.loop-number-test.true)) inv.rows c.in_ok-add.ensures.rows;
      counts = λ once none counts.
          c.in_ok-add.ensures.counts
          (free_yet c.args.transactions.now.entries order i first c.args.self.now.entries c.loop-number.self.entries
          c.loop-number-test.true once none inv.rows)
          (inv.counts once none counts);
      kept = λ account there. c.add.ensures.kept account (inv.kept account there);
    }

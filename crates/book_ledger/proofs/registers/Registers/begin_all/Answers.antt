use Rattle.std.proofs.Common.{arith}
use Rattle.book_ledger.proofs.ExtendLemmas.{begun_all, begun_more, begun_none, extends_by, extends_itself}
use Rattle.book_ledger.proofs.registers.Registers.begin_all.Goals as goal

pub loop-place-init : goal.loop-place-init
loop-place-init c = record {
  extends = extends_itself c.args.self.now.entries;
  begun = begun_none c.args.self.now.entries c.args.accounts.now.entries;
}

pub loop-place-preserved : goal.loop-place-preserved
loop-place-preserved c =
    let inv = c.loop-place.invariant in
    record {
      extends = extends_by c.args.self.now.entries c.loop-place.self.entries c.begin.new.self.entries inv.extends
          c.begin.ensures.extends;
      begun = begun_more c.loop-place.self.entries c.begin.new.self.entries c.args.accounts.now.entries
          c.loop-place.place c.number_at.result inv.begun c.begin.ensures.extends c.number_at.ensures
          c.in_ok-begin.ensures.there;
    }

pub returns-in_err-begin-clause-extends : goal.returns-in_err-begin-clause-extends
returns-in_err-begin-clause-extends c =
    extends_by c.args.self.now.entries c.loop-place.self.entries c.begin.new.self.entries
    c.loop-place.invariant.extends c.begin.ensures.extends

pub returns-clause-there : goal.returns-clause-there
returns-clause-there c =
    begun_all c.loop-place.self.entries c.args.accounts.now.entries c.loop-place.place
    (omega (arith, c.loop-place-test.false, c.len-place-end.ensures.len)) c.loop-place.invariant.begun

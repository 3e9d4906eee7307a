use Rattle.std.proofs.Common.{◌+◌, refl, List, drop, length, ap, sym, ◌∙◌, subst, arith}
use Rattle.book_match.specs.AmountIndex.{AreAbsent, Rises, with_all}
use Rattle.book_match.specs.declared.free.Free.{Free}
use Rattle.book_match.proofs.ManyLemmas.{absent-with, drop-here}
use Rattle.book_match.proofs.index.AmountIndex.put_all.Goals as goal

pub loop-free-init : goal.loop-free-init
loop-free-init c = record {
  entries = refl;
  absent = c.requires.absent;
  rises = c.requires.rises;
  changes = omega (arith, c.in_order.ensures.counted);
  room = c.requires.room;
  spare = omega arith;
}

pub loop-free-preserved : goal.loop-free-preserved
loop-free-preserved c =
    let free : Free = c.free-item.result in
    let i = c.loop-free.free-index in
    let here = drop-here c.args.come.now i free c.loop-free-test.true c.free-item.is in
    let rest : List Free = drop (i + 1) c.args.come.now in
    let absent = subst (λ (l : List Free). AreAbsent l c.loop-free.self.entries) here c.loop-free.invariant.absent in
    let rises = subst Rises here c.loop-free.invariant.rises in
    record {
      entries = ap (with_all rest) c.put.ensures.entries
          ∙ ap (λ (l : List Free). with_all l c.loop-free.self.entries) (sym here)
          ∙ c.loop-free.invariant.entries;
      absent = subst (AreAbsent rest) (sym c.put.ensures.entries)
          (absent-with free rest c.loop-free.self.entries rises.0 absent.1);
      rises = rises.1;
      changes = omega (arith, c.put.ensures.changes, c.loop-free.invariant.changes);
      room = omega (arith, c.loop-free.invariant.room, c.put.ensures.spare, ap length here);
      spare = omega (arith, c.loop-free.invariant.spare, c.put.ensures.spare);
    }

use Rattle.std.proofs.Common.{◌+◌, ◌-◌, ◌^◌, refl, List, drop, min, ap, sym, ◌∙◌, subst, arith, if◌then◌else◌, Bool}
use Rattle.book_match.specs.AmountIndex.{AreThere, Rises, without_all}
use Rattle.book_match.specs.declared.free.Free.{Free}
use Rattle.book_match.proofs.ManyLemmas.{drop-here, there-behind}
use Rattle.book_match.proofs.index.AmountIndex.take_all.Goals as goal

pub loop-free-init : goal.loop-free-init
loop-free-init c = record {
  entries = refl;
  there = c.requires.there;
  rises = c.requires.rises;
  changes = omega (arith, c.in_order.ensures.counted);
  spare = omega arith;
}

pub loop-free-preserved : goal.loop-free-preserved
loop-free-preserved c =
    let free : Free = c.free-item.result in
    let i = c.loop-free.free-index in
    let here = drop-here c.args.gone.now i free c.loop-free-test.true c.free-item.is in
    let rest : List Free = drop (i + 1) c.args.gone.now in
    let there = subst (λ (l : List Free). AreThere l c.loop-free.self.entries) here c.loop-free.invariant.there in
    let rises = subst Rises here c.loop-free.invariant.rises in
    let taken = c.take.ensures.taken ∙ there.0 in
    let changes = c.take.ensures.changes
    ∙ ap (λ (t : Bool). if t then min (c.loop-free.self.changes + 1) (2 ^ 64 - 1) else c.loop-free.self.changes) taken in
    record {
      entries = ap (without_all rest) c.take.ensures.entries
          ∙ ap (λ (l : List Free). without_all l c.loop-free.self.entries) (sym here)
          ∙ c.loop-free.invariant.entries;
      there = subst (AreThere rest) (sym c.take.ensures.entries)
          (there-behind free rest c.loop-free.self.entries rises.0 there.1);
      rises = rises.1;
      changes = omega (arith, changes, c.loop-free.invariant.changes);
      spare = omega (arith, c.loop-free.invariant.spare, c.take.ensures.spare);
    }

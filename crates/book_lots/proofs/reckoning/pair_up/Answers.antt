use Rattle.std.proofs.Common.{◌≡◌, ◌<◌, [], ◌∷◌, ◌++◌, List, ap, sym, ◌∙◌, subst, arith}
use Rattle.book_lots.specs.Lots.{common_to, open_past, pair_of_two, pairs_between, units_of}
use Rattle.book_lots.specs.Sides.{Begins, IsFrontTo, Paired}
use Rattle.book_lots.specs.declared.pair.Pair.{Pair}
use Rattle.book_lots.proofs.ReckoningLemmas.{PairsSoFar, all_paired, all_pairs, all_pairs_too, begins_more}
use Rattle.book_lots.proofs.ReckoningLemmas.{front_to, front_to_too, has_front, one_pair, overlapping, paired_less}
use Rattle.book_lots.proofs.reckoning.pair_up.Goals as goal

pub returns-in_default-clause-pairs : goal.returns-in_default-clause-pairs
returns-in_default-clause-pairs c =
    sym (all_pairs _ c.loop-plus.pairs.items c.loop-plus.bought c.loop-plus.sold c.loop-plus.invariant.so_far
    (all_paired c.loop-plus.bought c.in_default.ensures.sound c.in_default.ensures.front).0)

pub returns-in_default-clause-paired : goal.returns-in_default-clause-paired
returns-in_default-clause-paired c =
    let inv = c.loop-plus.invariant in
    let whole = (all_paired c.loop-plus.bought c.in_default.ensures.sound c.in_default.ensures.front).1 in
    let other = c.front-sold_front.ensures.sound.within in
    let bought = ap units_of inv.bought in
    let sold = ap units_of inv.sold in
    omega (arith, whole, other, bought, sold, inv.same)

pub returns-in_default-sold_front-clause-pairs : goal.returns-in_default-sold_front-clause-pairs
returns-in_default-sold_front-clause-pairs c =
    sym (all_pairs_too _ c.loop-plus.pairs.items c.loop-plus.bought c.loop-plus.sold c.loop-plus.invariant.so_far
    (all_paired c.loop-plus.sold c.in_default-sold_front.ensures.sound c.in_default-sold_front.ensures.front).0)

pub returns-in_default-sold_front-clause-paired : goal.returns-in_default-sold_front-clause-paired
returns-in_default-sold_front-clause-paired c =
    let inv = c.loop-plus.invariant in
    let whole = (all_paired c.loop-plus.sold c.in_default-sold_front.ensures.sound
    c.in_default-sold_front.ensures.front).1 in
    let other = c.front.ensures.sound.within in
    let bought = ap units_of inv.bought in
    let sold = ap units_of inv.sold in
    omega (arith, whole, other, bought, sold, inv.same)

pub pair_of-requires-clause-plus : goal.pair_of-requires-clause-plus
pair_of-requires-clause-plus c =
    (has_front c.loop-plus.bought c.in-Some.plus c.in-Some.ensures.sound c.in-Some.ensures.front).bounded

pub pair_of-requires-clause-minus : goal.pair_of-requires-clause-minus
pair_of-requires-clause-minus c =
    (has_front c.loop-plus.sold c.in-Some-sold_front.minus c.in-Some-sold_front.ensures.sound
    c.in-Some-sold_front.ensures.front).bounded

pub pair_of-requires-clause-common : goal.pair_of-requires-clause-common
pair_of-requires-clause-common c =
    let lt = overlapping c.loop-plus.bought c.loop-plus.sold c.in-Some.plus c.in-Some-sold_front.minus
    (has_front c.loop-plus.bought c.in-Some.plus c.in-Some.ensures.sound c.in-Some.ensures.front)
    (has_front c.loop-plus.sold c.in-Some-sold_front.minus c.in-Some-sold_front.ensures.sound
    c.in-Some-sold_front.ensures.front)
    c.loop-plus.invariant.same in
    omega (arith, lt)

pub end-requires : goal.end-requires
end-requires c =
    (has_front c.loop-plus.bought c.in-Some.plus c.in-Some.ensures.sound c.in-Some.ensures.front).bounded

pub end-requires-in-loop-plus : goal.end-requires-in-loop-plus
end-requires-in-loop-plus c =
    (has_front c.loop-plus.sold c.in-Some-sold_front.minus c.in-Some-sold_front.ensures.sound
    c.in-Some-sold_front.ensures.front).bounded

pub pair_to-requires : goal.pair_to-requires
pair_to-requires c =
    let end : c.min-end.result ≡ common_to c.in-Some.plus c.in-Some-sold_front.minus =
    omega (arith, c.min-end.ensures, c.end.ensures, c.end-in-loop-plus.ensures) in
    subst (IsFrontTo c.loop-plus.bought) (sym end) (front_to c.loop-plus.bought c.loop-plus.sold c.in-Some.plus c.in-Some-sold_front.minus
    (has_front c.loop-plus.bought c.in-Some.plus c.in-Some.ensures.sound c.in-Some.ensures.front)
    (has_front c.loop-plus.sold c.in-Some-sold_front.minus c.in-Some-sold_front.ensures.sound
    c.in-Some-sold_front.ensures.front)
    c.loop-plus.invariant.same)

pub pair_to-requires-in-loop-plus : goal.pair_to-requires-in-loop-plus
pair_to-requires-in-loop-plus c =
    let end : c.min-end.result ≡ common_to c.in-Some.plus c.in-Some-sold_front.minus =
    omega (arith, c.min-end.ensures, c.end.ensures, c.end-in-loop-plus.ensures) in
    subst (IsFrontTo c.loop-plus.sold) (sym end) (front_to_too c.loop-plus.bought c.loop-plus.sold c.in-Some.plus c.in-Some-sold_front.minus
    (has_front c.loop-plus.bought c.in-Some.plus c.in-Some.ensures.sound c.in-Some.ensures.front)
    (has_front c.loop-plus.sold c.in-Some-sold_front.minus c.in-Some-sold_front.ensures.sound
    c.in-Some-sold_front.ensures.front)
    c.loop-plus.invariant.same)

pub loop-plus-smaller : goal.loop-plus-smaller
loop-plus-smaller c =
    let end : c.min-end.result ≡ common_to c.in-Some.plus c.in-Some-sold_front.minus =
    omega (arith, c.min-end.ensures, c.end.ensures, c.end-in-loop-plus.ensures) in
    let first = (has_front c.loop-plus.bought c.in-Some.plus c.in-Some.ensures.sound c.in-Some.ensures.front) in
    let second = (has_front c.loop-plus.sold c.in-Some-sold_front.minus c.in-Some-sold_front.ensures.sound
    c.in-Some-sold_front.ensures.front) in
    let less = paired_less c.loop-plus.bought c.in-Some.plus c.in-Some.ensures.sound first in
    let past : c.loop-plus.bought.paired < c.min-end.result =
    omega (arith, end, first.front.1.0, second.front.1.0, c.loop-plus.invariant.same) in
    let same = ap units_of c.loop-plus.invariant.bought in
    let moved : c.pair_to.new.self.paired ≡ c.min-end.result = ap (λ (v : Paired). v.paired) c.pair_to.ensures in
    omega (arith, less, past, same, moved)

pub loop-plus-preserved : goal.loop-plus-preserved
loop-plus-preserved c =
    let inv = c.loop-plus.invariant in
    let p = c.in-Some.plus in
    let m = c.in-Some-sold_front.minus in
    let end : c.min-end.result ≡ common_to p m =
    omega (arith, c.min-end.ensures, c.end.ensures, c.end-in-loop-plus.ensures) in
    let bought : record c.loop-plus.bought { paired = common_to p m } ≡ c.pair_to.new.self =
    ap (λ k. record c.loop-plus.bought { paired = k }) (sym end) ∙ sym c.pair_to.ensures in
    let sold : record c.loop-plus.sold { paired = common_to p m } ≡ c.pair_to-in-loop-plus.new.self =
    ap (λ k. record c.loop-plus.sold { paired = k }) (sym end) ∙ sym c.pair_to-in-loop-plus.ensures in
    let pushed : c.loop-plus.pairs.items ++ pair_of_two p m ∷ [] ≡ c.push.new.self.items =
    ap (λ (x : Pair). c.loop-plus.pairs.items ++ x ∷ []) (sym c.pair_of.ensures) ∙ sym c.in_ok-push.ensures.items in
    let all : List Pair = c.args.pairs.now.items ++ pairs_between
    (open_past c.args.bought.now.paired c.args.bought.now.stretches)
    (open_past c.args.sold.now.paired c.args.sold.now.stretches) in
    let next = one_pair all c.loop-plus.pairs.items c.loop-plus.bought c.loop-plus.sold c.in-Some.plus c.in-Some-sold_front.minus
    (has_front c.loop-plus.bought c.in-Some.plus c.in-Some.ensures.sound c.in-Some.ensures.front)
    (has_front c.loop-plus.sold c.in-Some-sold_front.minus c.in-Some-sold_front.ensures.sound
    c.in-Some-sold_front.ensures.front)
    inv.same inv.so_far in
    record {
      same = ap (λ (v : Paired). v.paired) (sym bought) ∙ ap (λ (v : Paired). v.paired) sold;
      bought = ap (λ (v : Paired). v.stretches) (sym bought) ∙ inv.bought;
      sold = ap (λ (v : Paired). v.stretches) (sym sold) ∙ inv.sold;
      so_far = subst (PairsSoFar all c.pair_to.new.self c.pair_to-in-loop-plus.new.self) pushed
          (subst (λ (v : Paired). PairsSoFar all c.pair_to.new.self v (c.loop-plus.pairs.items ++ pair_of_two p m ∷ []))
          sold
          (subst (λ (v : Paired). PairsSoFar all v (record c.loop-plus.sold { paired = common_to p m })
          (c.loop-plus.pairs.items ++ pair_of_two p m ∷ [])) bought next));
      begun = subst (Begins c.args.pairs.now.items) pushed
          (begins_more c.args.pairs.now.items c.loop-plus.pairs.items (pair_of_two p m) inv.begun);
    }

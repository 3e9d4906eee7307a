use Rattle.std.proofs.Common.{◌≡◌, ◌+◌, ◌-◌, ◌^◌, [], ◌∷◌, ◌++◌, length, take, drop, reverse, vec_len, ap, sym}
use Rattle.std.proofs.Common.{◌∙◌, refl, subst, arith, append_assoc}
use Rattle.std.proofs.lemmas.List.{append-nil, drop_at, reverse-append, take_at}
use Rattle.book_seq.specs.Sums.{AreWithin, sum, sums_of}
use Rattle.book_seq.specs.declared.sums.Sums.{Sums}
use Rattle.book_seq.proofs.SumLemmas.{are_within-le, are_within-sum, none_within}
use Rattle.book_seq.proofs.chunk.move_upper.Goals as goal

pub loop-entries-init : goal.loop-entries-init
loop-entries-init g c =
    let none : vec_len c.args.upper.now ≡ 0 = c.args.upper.now.ok.0 ∙ ap length c.requires.empty in
    record {
      items = ap (λ l. c.args.entries.now.items ++ reverse l) c.requires.empty ∙ append-nil c.args.entries.now.items;
      place = c.requires.place;
      sums = c.none-sums.ensures ∙ ap (λ l. sums_of g.E.Weigh.weights (reverse l)) (sym c.requires.empty);
      within = subst (AreWithin (vec_len c.args.upper.now)) (sym c.none-sums.ensures)
          (none_within (vec_len c.args.upper.now));
      count = omega (arith, none);
      room = refl;
      upper_room = omega arith;
      steps = omega (arith, none);
    }

pub plus-sums-requires : goal.plus-sums-requires
plus-sums-requires g c =
    are_within-le (1 + vec_len c.loop-entries.upper) (2 ^ 64 - 1) (sum c.of.result c.loop-entries.sums)
    (omega (arith, c.loop-entries.invariant.count, c.requires.few))
    (are_within-sum 1 (vec_len c.loop-entries.upper) c.of.result c.loop-entries.sums c.of.ensures.within
    c.loop-entries.invariant.within)

pub loop-entries-preserved : goal.loop-entries-preserved
loop-entries-preserved g c =
    let entry = c.in-Some.entry in
    let upper = c.loop-entries.upper.items in
    let pushed : c.push.new.self.items ≡ upper ++ entry ∷ [] = c.in-Ok.ensures.items in
    let popped : c.loop-entries.entries.items ≡ c.pop.new.self.items ++ entry ∷ [] = c.in-Some.ensures.items in
    let turned : reverse c.push.new.self.items ≡ entry ∷ reverse upper =
    ap reverse pushed ∙ reverse-append upper (entry ∷ []) in
    let longer : vec_len c.push.new.self ≡ vec_len c.loop-entries.upper + 1 = c.in-Ok.ensures.len in
    let shorter : vec_len c.pop.new.self + 1 ≡ vec_len c.loop-entries.entries = c.in-Some.ensures.len in
    record {
      items = ap (λ l. c.pop.new.self.items ++ l) turned
          ∙ sym (append_assoc c.pop.new.self.items (entry ∷ []) (reverse upper))
          ∙ ap (λ l. l ++ reverse upper) (sym popped) ∙ c.loop-entries.invariant.items;
      place = omega (arith, shorter, c.loop-entries-test.true, c.len.ensures);
      sums = c.plus-sums.ensures ∙ ap (λ (s : Sums). sum s c.loop-entries.sums) c.of.ensures.weights
          ∙ ap (sum (g.E.Weigh.weights entry)) c.loop-entries.invariant.sums
          ∙ ap (sums_of g.E.Weigh.weights) (sym turned);
      within = subst (AreWithin (vec_len c.push.new.self)) (sym c.plus-sums.ensures)
          (are_within-le (1 + vec_len c.loop-entries.upper) (vec_len c.push.new.self)
          (sum c.of.result c.loop-entries.sums)
          (omega (arith, longer)) (are_within-sum 1 (vec_len c.loop-entries.upper) c.of.result c.loop-entries.sums
          c.of.ensures.within c.loop-entries.invariant.within));
      count = omega (arith, longer, shorter, c.loop-entries.invariant.count);
      room = c.in-Some.ensures.capacity ∙ c.loop-entries.invariant.room;
      upper_room = omega (arith, c.in-Ok.ensures.capacity, c.loop-entries.invariant.upper_room);
      steps = omega (arith, longer, c.tick.ensures, c.loop-entries.invariant.steps);
    }

pub returns : goal.returns
returns g c =
    let inv = c.loop-entries.invariant in
    let all : vec_len c.loop-entries.entries ≡ c.args.place =
    omega (arith, c.loop-entries-test.false, c.len.ensures, inv.place) in
    let size : length c.loop-entries.entries.items ≡ c.args.place = sym c.loop-entries.entries.ok.0 ∙ all in
    let lower : take c.args.place c.args.entries.now.items ≡ c.loop-entries.entries.items =
    ap (take c.args.place) (sym inv.items)
    ∙ take_at c.loop-entries.entries.items (reverse c.loop-entries.upper.items) c.args.place size in
    let upper : drop c.args.place c.args.entries.now.items ≡ reverse c.loop-entries.upper.items =
    ap (drop c.args.place) (sym inv.items)
    ∙ drop_at c.loop-entries.entries.items (reverse c.loop-entries.upper.items) c.args.place size in
    record {
      lower = sym lower;
      upper = c.reverse.ensures.items ∙ sym upper;
      sums = inv.sums ∙ ap (sums_of g.E.Weigh.weights) (sym upper);
      room = inv.room;
      upper_room = omega (arith, c.reverse.ensures.capacity, inv.upper_room);
      steps = omega (arith, all, inv.steps, inv.count);
    }

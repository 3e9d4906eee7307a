use Rattle.std.proofs.Common.{rules, FitsSigned, List, ◌∷◌, ◌++◌, [], ◌∙◌, subst, arith}
use mir.Syntax.{w128}
use Rattle.std.proofs.lemmas.Int.{ints}
use Rattle.std.proofs.lemmas.List.Elements.{All-cons, All-nil}
use Rattle.book_register.specs.declared.entry.Entry.{Entry}
use Rattle.book_lots.specs.Lots.{IsSmall}
use Rattle.book_lots.specs.Sides.{AreSides}
use Rattle.book_lots.proofs.BoundLemmas.{adjustments_small}
use Rattle.book_lots.proofs.SidesLemmas.{adjusted_more}
use Rattle.book_lots.proofs.reckoning.Reckoning.reckon.Goals as goal

pub overflow_add-self : goal.overflow_add-self
overflow_add-self c =
    let kept = c.self.invariant in
    let one = adjustments_small c.self.inside.entries.items kept.sides.small in
    let two = adjustments_small (c.args.entry ∷ []) (All-cons IsSmall c.args.entry [] c.requires.small (All-nil IsSmall)) in
    let a : FitsSigned w128 c.self.inside.adjustments = search rules in
    let b : FitsSigned w128 c.adjustment.result = search rules in
    let few = kept.sides.few in
    let is = kept.adjustments_are in
    let is_too = c.adjustment.ensures in
    omega (arith, ints, one.0, one.1, two.0, two.1, is, is_too, few)

pub invariant_of-self-2 : goal.invariant_of-self-2
invariant_of-self-2 c =
    let kept = c.self.invariant in
    let es = c.self.inside.entries.items in
    let one = adjustments_small es kept.sides.small in
    let two = adjustments_small (c.args.entry ∷ []) (All-cons IsSmall c.args.entry [] c.requires.small (All-nil IsSmall)) in
    let a : FitsSigned w128 c.self.inside.adjustments = search rules in
    let b : FitsSigned w128 c.adjustment.result = search rules in
    let few = kept.sides.few in
    let is = kept.adjustments_are in
    let is_too = c.adjustment.ensures in
    let more = adjusted_more es c.args.entry in
    rw (c.in-Ok.ensures.items, c.reserve.ensures.items) (record {
      sides = subst (λ (l : List Entry). AreSides (l ++ c.args.entry ∷ []) c.add.new.bought c.add.new.sold
          c.add.new.pairs.items) (c.as_slice.ensures.value ∙ c.reserve.ensures.items) c.in_ok-add.ensures.sides;
      adjustments_are = omega (arith, ints, one.0, one.1, two.0, two.1, is, is_too, few, more);
    })

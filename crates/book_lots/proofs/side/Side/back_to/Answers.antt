use Rattle.std.proofs.Common.{◌≡◌, ◌≤◌, MatchOption, slice_get, slice_set, take, ap, sym, ◌∙◌, subst, List}
use Rattle.book_lots.specs.Lots.{lot_past, units_of}
use Rattle.book_lots.specs.Sides.{Paired, mark_of_side}
use Rattle.book_lots.specs.declared.open_lot.OpenLot.{OpenLot}
use Rattle.book_lots.specs.declared.stretch.Stretch.{Stretch}
use Rattle.book_lots.proofs.SideLemmas.{IsBack, back_open, side_back}
use Rattle.book_lots.proofs.side.Side.back_to.Goals as goal
use Rattle.book_lots.proofs.side.Side.back_to.Goals.{After-deref-2}

is_back : (c : After-deref-2) → IsBack c.self.inside.stretches.items c.args.mark
is_back c = record {
  is = subst (λ (v : Paired). c.args.mark
      ≡ mark_of_side (record { stretches = take c.args.mark.len v.stretches; paired = c.args.mark.paired }))
      (sym c.self.view_is) c.requires.is;
  within = subst (λ (v : Paired). c.args.mark.paired ≤ units_of (take c.args.mark.len v.stretches))
      (sym c.self.view_is) c.requires.within;
}

left : (c : After-deref-2) → c.deref-2.result.now ≡ take c.args.mark.len c.self.inside.stretches.items
left c = c.deref-2.ensures.value ∙ c.truncate.ensures.items

pub write_rest-requires-2-clause-most : goal.write_rest-requires-2-clause-most
write_rest-requires-2-clause-most c = λ x is.
    back_open c.self.inside.stretches.items c.args.mark c.self.invariant.sound.in_line
    (is_back (goal.at.write_rest-requires-2-clause-most c).After-deref-2) x
    (ap (λ l. slice_get l c.args.mark.head) (sym (left (goal.at.write_rest-requires-2-clause-most c).After-deref-2)) ∙ is)

pub invariant_of-self : goal.invariant_of-self
invariant_of-self c =
    let d = (goal.at.invariant_of-self c).After-deref-2 in
    let back = c.write_rest.new.lots.items in
    let there = c.write_rest-2.new.lots.items in
    rw c.truncate.ensures.items
    (side_back c.self.inside.stretches.items c.self.inside.lots.items back there
    c.self.inside.head c.self.inside.units c.self.inside.paired c.args.mark c.self.invariant (is_back d)
    (subst (λ (l : List Stretch). MatchOption (slice_get l c.self.inside.head) (back ≡ c.self.inside.lots.items)
    (λ s. back ≡ slice_set c.self.inside.lots.items c.self.inside.head (lot_past 0 s))) c.deref.ensures.value
    c.write_rest.ensures)
    (subst (λ (l : List OpenLot). MatchOption (slice_get (take c.args.mark.len c.self.inside.stretches.items)
    c.args.mark.head) (there ≡ l) (λ s. there ≡ slice_set l c.args.mark.head (lot_past c.args.mark.paired s)))
    c.truncate-2.ensures.items
    (subst (λ (l : List Stretch). MatchOption (slice_get l c.args.mark.head) (there ≡ c.truncate-2.new.self.items)
    (λ s. there ≡ slice_set c.truncate-2.new.self.items c.args.mark.head (lot_past c.args.mark.paired s)))
    (left d) c.write_rest-2.ensures)))

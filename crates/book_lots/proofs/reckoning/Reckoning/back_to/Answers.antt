use Rattle.std.proofs.Common.{rules, ◌≡◌, take, FitsSigned, List, sym, subst, arith}
use mir.Syntax.{w128}
use Rattle.std.proofs.lemmas.Int.{to_z-of_z}
use Rattle.book_register.specs.declared.entry.Entry.{Entry}
use Rattle.book_lots.specs.Sides.{bought_side, mark_of, sold_side}
use Rattle.book_lots.proofs.SidesLemmas.{back_known, back_mark, back_within, bought_begins, bought_mark_is, reckoned_back}
use Rattle.book_lots.proofs.SidesLemmas.{sold_begins, sold_mark_is}
use Rattle.book_lots.proofs.reckoning.Reckoning.back_to.Goals as goal

pub back_to-requires-clause-known : goal.back_to-requires-clause-known
back_to-requires-clause-known c =
    let is = (subst (λ (es : List Entry). c.args.mark ≡ mark_of (take c.args.mark.entries es)) (sym c.self.view_is) c.requires.is) in
    back_known (bought_side (take c.args.mark.entries c.self.inside.entries.items)) c.self.inside.bought
    c.args.mark.bought
    (bought_mark_is c.self.inside.entries.items c.self.inside.bought c.self.inside.sold
    c.self.inside.pairs.items c.self.inside.adjustments c.args.mark c.self.invariant is)
    (bought_begins c.self.inside.entries.items c.self.inside.bought c.self.inside.sold
    c.self.inside.pairs.items c.self.inside.adjustments c.args.mark c.self.invariant is)

pub back_to-requires-clause-is : goal.back_to-requires-clause-is
back_to-requires-clause-is c =
    let is = (subst (λ (es : List Entry). c.args.mark ≡ mark_of (take c.args.mark.entries es)) (sym c.self.view_is) c.requires.is) in
    back_mark (bought_side (take c.args.mark.entries c.self.inside.entries.items)) c.self.inside.bought
    c.args.mark.bought
    (bought_mark_is c.self.inside.entries.items c.self.inside.bought c.self.inside.sold
    c.self.inside.pairs.items c.self.inside.adjustments c.args.mark c.self.invariant is)
    (bought_begins c.self.inside.entries.items c.self.inside.bought c.self.inside.sold
    c.self.inside.pairs.items c.self.inside.adjustments c.args.mark c.self.invariant is)

pub back_to-requires-clause-within : goal.back_to-requires-clause-within
back_to-requires-clause-within c =
    let is = (subst (λ (es : List Entry). c.args.mark ≡ mark_of (take c.args.mark.entries es)) (sym c.self.view_is) c.requires.is) in
    back_within (bought_side (take c.args.mark.entries c.self.inside.entries.items)) c.self.inside.bought
    c.args.mark.bought
    (bought_mark_is c.self.inside.entries.items c.self.inside.bought c.self.inside.sold
    c.self.inside.pairs.items c.self.inside.adjustments c.args.mark c.self.invariant is)
    (bought_begins c.self.inside.entries.items c.self.inside.bought c.self.inside.sold
    c.self.inside.pairs.items c.self.inside.adjustments c.args.mark c.self.invariant is)
    (omega arith)

pub back_to-requires-2-clause-known : goal.back_to-requires-2-clause-known
back_to-requires-2-clause-known c =
    let is = (subst (λ (es : List Entry). c.args.mark ≡ mark_of (take c.args.mark.entries es)) (sym c.self.view_is) c.requires.is) in
    back_known (sold_side (take c.args.mark.entries c.self.inside.entries.items)) c.self.inside.sold
    c.args.mark.sold
    (sold_mark_is c.self.inside.entries.items c.self.inside.bought c.self.inside.sold
    c.self.inside.pairs.items c.self.inside.adjustments c.args.mark c.self.invariant is)
    (sold_begins c.self.inside.entries.items c.self.inside.bought c.self.inside.sold
    c.self.inside.pairs.items c.self.inside.adjustments c.args.mark c.self.invariant is)

pub back_to-requires-2-clause-is : goal.back_to-requires-2-clause-is
back_to-requires-2-clause-is c =
    let is = (subst (λ (es : List Entry). c.args.mark ≡ mark_of (take c.args.mark.entries es)) (sym c.self.view_is) c.requires.is) in
    back_mark (sold_side (take c.args.mark.entries c.self.inside.entries.items)) c.self.inside.sold
    c.args.mark.sold
    (sold_mark_is c.self.inside.entries.items c.self.inside.bought c.self.inside.sold
    c.self.inside.pairs.items c.self.inside.adjustments c.args.mark c.self.invariant is)
    (sold_begins c.self.inside.entries.items c.self.inside.bought c.self.inside.sold
    c.self.inside.pairs.items c.self.inside.adjustments c.args.mark c.self.invariant is)

pub back_to-requires-2-clause-within : goal.back_to-requires-2-clause-within
back_to-requires-2-clause-within c =
    let is = (subst (λ (es : List Entry). c.args.mark ≡ mark_of (take c.args.mark.entries es)) (sym c.self.view_is) c.requires.is) in
    back_within (sold_side (take c.args.mark.entries c.self.inside.entries.items)) c.self.inside.sold
    c.args.mark.sold
    (sold_mark_is c.self.inside.entries.items c.self.inside.bought c.self.inside.sold
    c.self.inside.pairs.items c.self.inside.adjustments c.args.mark c.self.invariant is)
    (sold_begins c.self.inside.entries.items c.self.inside.bought c.self.inside.sold
    c.self.inside.pairs.items c.self.inside.adjustments c.args.mark c.self.invariant is)
    (omega arith)

pub invariant_of-self : goal.invariant_of-self
invariant_of-self c =
    let is = (subst (λ (es : List Entry). c.args.mark ≡ mark_of (take c.args.mark.entries es)) (sym c.self.view_is) c.requires.is) in
    let fits : FitsSigned w128 c.args.mark.adjustments = search rules in
    rw (
      c.truncate.ensures.items,
      c.back_to.ensures,
      c.back_to-2.ensures,
      c.truncate-2.ensures.items,
      to_z-of_z w128 c.args.mark.adjustments fits,
    )
    (reckoned_back c.self.inside.entries.items c.self.inside.bought c.self.inside.sold
    c.self.inside.pairs.items c.self.inside.adjustments c.args.mark c.self.invariant is)

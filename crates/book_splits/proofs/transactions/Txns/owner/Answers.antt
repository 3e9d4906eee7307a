use Rattle.std.proofs.Common.{◌==◌, is_none, sym, ap, ◌∙◌, position, arith}
use Rattle.book_splits.specs.declared.split.Split.{Split}
use Rattle.book_splits.proofs.OwnerLemmas.{owner-here, owner-later, owner-end, owner-there, owner-none}
use Rattle.book_splits.proofs.transactions.Txns.owner.Goals as goal

pub returns-in-Some-clause-owner : goal.returns-in-Some-clause-owner
returns-in-Some-clause-owner c =
    let found = ap (position (λ (s : Split). s.id == c.args.split)) (sym c.as_slice.ensures)
    ∙ sym c.place_of.ensures ∙ c.in-Some.is in
    sym (c.loop-number.invariant
    ∙ owner-here c.args.split c.as_slice-number-items.result.now c.loop-number.number-index
    c.loop-number-item.result c.in-Some.place c.loop-number-test.true c.loop-number-item.is found)

pub returns-in-Some-clause-there : goal.returns-in-Some-clause-there
returns-in-Some-clause-there c =
    owner-there c.args.split c.args.self.now.entries (c.loop-number-item.result.0, c.in-Some.place)
    c.as_slice-number-items.ensures.rises (sym (returns-in-Some-clause-owner c))

pub returns-in-Some-clause-none : goal.returns-in-Some-clause-none
returns-in-Some-clause-none c =
    ap is_none (returns-in-Some-clause-owner c) ∙ owner-none c.args.split c.args.self.now.entries

pub loop-number-preserved : goal.loop-number-preserved
loop-number-preserved c =
    let none = ap (position (λ (s : Split). s.id == c.args.split)) (sym c.as_slice.ensures)
    ∙ sym c.place_of.ensures ∙ c.in_default.is in
    c.loop-number.invariant
    ∙ owner-later c.args.split c.as_slice-number-items.result.now c.loop-number.number-index
    c.loop-number-item.result c.loop-number-test.true c.loop-number-item.is none

pub returns-clause-none : goal.returns-clause-none
returns-clause-none c =
    sym (ap is_none (c.loop-number.invariant ∙ owner-end c.args.split c.as_slice-number-items.result.now
    c.loop-number.number-index (omega (arith, c.loop-number-test.false))))
    ∙ owner-none c.args.split c.args.self.now.entries

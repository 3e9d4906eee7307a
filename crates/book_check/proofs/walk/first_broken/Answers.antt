-- The thing at the place is past the limit, breaks a rule, or keeps all.
use Rattle.std.proofs.Common.{◌≡◌, ◌<◌, ◌≤◌, ◌+◌, Bool, true, false, if◌then◌else◌, drop, Some, sym, ap, ◌∙◌, arith}
use Rattle.std.specs.Bool.{OnTrue}
use Rattle.book_check.specs.FirstUnsound.{first_in}
use Rattle.book_check.proofs.WalkLemmas.{counted_at, counted_past}
use Rattle.book_check.proofs.walk.first_broken.Goals as goal

pub returns-then-place-most : goal.returns-then-place-most
returns-then-place-most g c =
    let past : c.args.most ≤ c.loop-place.place = omega arith in
    sym (c.loop-place.invariant.walk
    ∙ counted_past (g.C.Checked.rules c.args.things) c.args.most c.loop-place.place c.number_at-number.result
    (g.C.Checked.entries c.loop-place.things) (g.C.Checked.entries c.args.things) c.loop-place.invariant.same_entries
    c.number_at-number.ensures past)

pub returns-then-not-branch : goal.returns-then-not-branch
returns-then-not-branch g c =
    let es = g.C.Checked.entries c.args.things in
    let rules = g.C.Checked.rules c.args.things in
    let number = c.number_at-number.result in
    let below : c.loop-place.place < c.args.most = omega arith in
    let rest = first_in rules c.args.most (λ _. 0) 0 (c.loop-place.place + 1) 0 (drop (c.loop-place.place + 1) es) in
    sym (c.loop-place.invariant.walk
    ∙ counted_at rules (g.C.Checked.rules c.loop-place.things) c.args.most c.loop-place.place number
    (g.C.Checked.entries c.loop-place.things) es c.in_ok-keeps.field-0 c.loop-place.invariant.same_entries
    c.loop-place.invariant.same_rules c.number_at-number.ensures c.in_ok-keeps.ensures.kept below
    ∙ ap (λ (b : Bool). if b then rest else Some number) c.if-not-branch.true)

on_true : (b : Bool) (A : Type 0) → b ≡ true → OnTrue b A → A
on_true true A e h = h
on_true false A e h = absurd cc

pub loop-place-preserved : goal.loop-place-preserved
loop-place-preserved g c =
    let es = g.C.Checked.entries c.args.things in
    let rules = g.C.Checked.rules c.args.things in
    let number = c.number_at-number.result in
    let below : c.loop-place.place < c.args.most = omega arith in
    let rest = first_in rules c.args.most (λ _. 0) 0 (c.loop-place.place + 1) 0 (drop (c.loop-place.place + 1) es) in
    record {
      walk =
          c.loop-place.invariant.walk
          ∙ counted_at rules (g.C.Checked.rules c.loop-place.things) c.args.most c.loop-place.place number
          (g.C.Checked.entries c.loop-place.things) es c.in_ok-keeps.field-0 c.loop-place.invariant.same_entries
          c.loop-place.invariant.same_rules c.number_at-number.ensures c.in_ok-keeps.ensures.kept below
          ∙ ap (λ (b : Bool). if b then rest else Some number) c.if-not-branch.false;
      known = on_true _ _ c.if-not-branch.false c.in_ok-keeps.ensures.known;
      same_entries = c.in_ok-keeps.ensures.same_entries ∙ c.loop-place.invariant.same_entries;
      same_rules = c.in_ok-keeps.ensures.same_rules ∙ c.loop-place.invariant.same_rules;
    }

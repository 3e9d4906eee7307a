-- A number above all goes behind those that rise, and each other one into the set.
use Rattle.std.proofs.Common.{◌≡◌, ◌<◌, ◌≤◌, ℕ, Bool, List, Result, Ok, Err, OnOk, OnErr, true, sym, ap, ◌∙◌, arith}
use Rattle.book_commodity.specs.declared.memory.OutOfMemory.{OutOfMemory}
use Rattle.std.specs.Ordering.{nat_cmp}
use Rattle.book_check.specs.Seen.{Adds, is_seen}
use Rattle.book_check.proofs.RisingLemmas.{others_next, rise_next, under_next, unseen}
use Rattle.book_check.proofs.numbers.Numbers.insert.Goals as goal

pub invariant_of-self-then-from-self : goal.invariant_of-self-then-from-self
invariant_of-self-then-from-self c =
    let low : c.self.inside.bound ≤ c.args.number = (let past = c.if-from-self.true in omega (arith, c.from.ensures)) in
    let bound = c.self.inside.bound in
    let kept = c.self.invariant in
    rw c.from-then-from-self.ensures (rw c.in_ok-push.ensures.items (
      rise_next bound c.args.number c.self.inside.rising.items low kept.1 kept.0,
      under_next bound c.args.number c.self.inside.rising.items low kept.1,
      λ number seen. omega (arith, low, kept.2 number seen),
    ))

pub returns-then-from-self-clause-before : goal.returns-then-from-self-clause-before
returns-then-from-self-clause-before c =
    let low : c.self.inside.bound ≤ c.args.number = (let past = c.if-from-self.true in omega (arith, c.from.ensures)) in
    sym (ap (λ (seen : List ℕ). is_seen nat_cmp seen c.args.number) (sym c.self.view_is)
    ∙ unseen c.self.inside.bound c.args.number c.self.inside.rising.items c.self.inside.others low
    c.self.invariant.1 c.self.invariant.2)

kept_by :
    (old new : List ℕ) (n m : ℕ) (r : Result Bool OutOfMemory) → OnOk r (Adds nat_cmp old n new)
    → OnErr r (new ≡ old) → n < m → ((number : ℕ) → is_seen nat_cmp old number ≡ true → number < m)
    → (number : ℕ) → is_seen nat_cmp new number ≡ true → number < m
kept_by old new n m (Ok before) adds same low below = others_next old new n m adds low below
kept_by old new n m (Err error) adds same low below = λ number seen.
    below number (ap (λ (seen : List ℕ). is_seen nat_cmp seen number) (sym same) ∙ seen)

pub invariant_of-self-2 : goal.invariant_of-self-2
invariant_of-self-2 c =
    let low : c.args.number < c.self.inside.bound = (let past = c.if-from-self.false in omega (arith, c.from.ensures)) in (
      c.self.invariant.0,
      c.self.invariant.1,
      kept_by c.self.inside.others c.insert.new.self c.args.number c.self.inside.bound c.insert.result
          c.insert.ensures.adds c.insert.ensures.unchanged low c.self.invariant.2,
    )

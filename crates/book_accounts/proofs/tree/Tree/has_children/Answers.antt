use Rattle.std.proofs.Common.{◌≡◌, length, Some, drop, nat_eq, true, false, [], sym, ap, ◌∙◌, arith}
use Rattle.std.specs.Option.{option_eq}
use Rattle.std.proofs.lemmas.List.{drop_all}
use Rattle.book_accounts.specs.Tree.{children_of}
use Rattle.book_accounts.proofs.RuleLemmas.{children_some, children_skip}
use Rattle.book_accounts.proofs.KeptLemmas.{kept_taken}
use Rattle.book_accounts.proofs.tree.Tree.has_children.Goals as goal

pub returns-then-eq-clause-children : goal.returns-then-eq-clause-children
returns-then-eq-clause-children c =
    let here : option_eq nat_eq c.value_at.result.now.parent (Some c.args.number) ≡ true = sym c.eq.ensures
    ∙ c.if-eq.true in
    let some = children_some c.args.self.now.entries c.loop-place.place (Some c.args.number) c.value_at.result.now
    c.value_at.ensures here in
    omega (arith, some, ap length c.loop-place.invariant)

pub loop-place-preserved : goal.loop-place-preserved
loop-place-preserved c =
    let other : option_eq nat_eq c.value_at.result.now.parent (Some c.args.number) ≡ false = sym c.eq.ensures
    ∙ c.if-eq.false in
    sym (children_skip c.args.self.now.entries c.loop-place.place (Some c.args.number) c.value_at.result.now
    c.value_at.ensures other) ∙ c.loop-place.invariant

pub returns-clause-keeps : goal.returns-clause-keeps
returns-clause-keeps c =
    let rest : drop c.loop-place.place c.args.self.now.entries ≡ [] =
    drop_all c.loop-place.place c.args.self.now.entries (omega arith) in
    let none : children_of c.args.self.now.entries (Some c.args.number) ≡ [] = sym c.loop-place.invariant
    ∙ ap (λ entries. children_of entries (Some c.args.number)) rest in
    kept_taken c.args.self.now.entries c.args.number c.len-place-end.ensures.rises none

use Rattle.std.proofs.Common.{◌≡◌, ◌==◌, false, None, sym, ◌∙◌, arith}
use Rattle.std.proofs.lemmas.Bool.Decides.{nat_tests}
use Rattle.book_accounts.specs.Tree.{parent_of}
use Rattle.book_accounts.proofs.RuleLemmas.{within_top, within_up, ancestors_fall}
use Rattle.book_accounts.proofs.tree.Tree.is_within.Goals as goal

pub returns-in_default : goal.returns-in_default
returns-in_default c =
    let other : (c.loop-current.current == c.args.upper) ≡ false = grind (arith, nat_tests, c.loop-current-test.true) in
    let top : parent_of c.args.self.now.entries c.loop-current.current ≡ None = sym c.parent_of.ensures.parent
    ∙ c.in_default.is in
    sym (sym c.loop-current.invariant
    ∙ within_top c.args.self.now.entries c.args.upper c.loop-current.current top other)

pub loop-current-smaller : goal.loop-current-smaller
loop-current-smaller c =
    ancestors_fall c.args.self.now.entries c.loop-current.current c.in-Some.parent c.parent_of.ensures.rises
    c.requires (sym c.parent_of.ensures.parent ∙ c.in-Some.is)

pub loop-current-preserved : goal.loop-current-preserved
loop-current-preserved c =
    let other : (c.loop-current.current == c.args.upper) ≡ false = grind (arith, nat_tests, c.loop-current-test.true) in
    within_up c.args.self.now.entries c.args.upper c.loop-current.current c.in-Some.parent c.parent_of.ensures.rises
    c.requires (sym c.parent_of.ensures.parent ∙ c.in-Some.is) other
    ∙ c.loop-current.invariant

use Rattle.std.proofs.Common.{rules, ◌≡◌, ℕ, [], ◌∷◌, ◌++◌, None, List, sym, ap, ◌∙◌, append_assoc}
use Rattle.std.proofs.lemmas.List.{append-nil}
use Rattle.book_accounts.specs.Tree.{ancestors, parent_of}
use Rattle.book_accounts.proofs.RuleLemmas.{ancestors_fall}
use Rattle.book_accounts.proofs.TreeLemmas.{ancestors_up, ancestors_top}
use Rattle.book_export.proofs.path.way_up.Goals as goal

pub loop-parent-smaller : goal.loop-parent-smaller
loop-parent-smaller c =
    ancestors_fall c.args.accounts.now.entries c.loop-parent.current c.in-Some.parent c.parent_of.ensures.rises
    c.requires (sym c.parent_of.ensures.parent ∙ c.in-Some.is)

pub loop-parent-preserved : goal.loop-parent-preserved
loop-parent-preserved c =
    let tree = c.args.accounts.now.entries in
    let pushed : c.push-in-Some.new.self.items ≡ c.loop-parent.way.items ++ c.in-Some.parent ∷ [] = search rules in
    ap (λ (l : List ℕ). l ++ ancestors tree c.in-Some.parent) pushed
    ∙ append_assoc c.loop-parent.way.items (c.in-Some.parent ∷ []) (ancestors tree c.in-Some.parent)
    ∙ ap (λ (l : List ℕ). c.loop-parent.way.items ++ l)
    (sym (ancestors_up tree c.loop-parent.current c.in-Some.parent c.parent_of.ensures.rises c.requires
    (sym c.parent_of.ensures.parent ∙ c.in-Some.is)))
    ∙ c.loop-parent.invariant

pub returns : goal.returns
returns c =
    let top : parent_of c.args.accounts.now.entries c.loop-parent.current ≡ None = sym c.parent_of.ensures.parent
    ∙ c.in_default.is in
    sym (append-nil c.loop-parent.way.items)
    ∙ ap (λ (l : List ℕ). c.loop-parent.way.items ++ l)
    (sym (ancestors_top c.args.accounts.now.entries c.loop-parent.current top))
    ∙ c.loop-parent.invariant

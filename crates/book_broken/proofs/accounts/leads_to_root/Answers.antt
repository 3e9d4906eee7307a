-- An account on the way up is the root, or has no parent, or its parent is asked next.
use Rattle.std.proofs.Common.{◌+◌, ◌-◌, ◌<◌, ◌≤◌, ◌||◌, ℕ, Bool, List, length, Option, sym, ap, ◌∙◌, arith}
use Rattle.std.specs.List.{list_any}
use Rattle.book_accounts.specs.AccountRules.{is_root_number}
use Rattle.book_accounts.specs.Tree.{followed_up, nearest_parents}
use Rattle.book_check.proofs.AccountLemmas.{above_asked, at_root, parents_end}
use Rattle.book_check.proofs.AnyLemmas.{or_false}
use Rattle.book_broken.proofs.accounts.leads_to_root.Goals as goal

pub returns-then-eq : goal.returns-then-eq
returns-then-eq c =
    let es = c.args.accounts.now.entries in
    sym (c.loop-step.invariant
    ∙ at_root es c.args.root c.loop-step.current c.loop-step._step c.eq.result c.requires c.eq.ensures
    ∙ ap (λ (b : Bool). b
    || list_any (is_root_number es) (nearest_parents (length es - c.loop-step._step) es c.loop-step.current))
    c.if-eq.true)

pub returns-in_default : goal.returns-in_default
returns-in_default c =
    let es = c.args.accounts.now.entries in
    let below : c.loop-step._step < length es = omega (arith, c.len-step-end.ensures.len) in
    sym (c.loop-step.invariant
    ∙ above_asked es c.args.root c.loop-step.current c.loop-step._step c.eq.result c.parent_of.result c.requires
    c.eq.ensures c.if-eq.false below c.parent_of.ensures
    ∙ ap
    (λ (o : Option ℕ). list_any (is_root_number es)
    (followed_up o (nearest_parents (length es - (c.loop-step._step + 1)) es)))
    c.in_default.is)

pub loop-step-preserved : goal.loop-step-preserved
loop-step-preserved c =
    let es = c.args.accounts.now.entries in
    let below : c.loop-step._step < length es = omega (arith, c.len-step-end.ensures.len) in
    c.loop-step.invariant
    ∙ above_asked es c.args.root c.loop-step.current c.loop-step._step c.eq.result c.parent_of.result c.requires
    c.eq.ensures c.if-eq.false below c.parent_of.ensures
    ∙ ap
    (λ (o : Option ℕ). list_any (is_root_number es)
    (followed_up o (nearest_parents (length es - (c.loop-step._step + 1)) es)))
    c.in-Some.is

pub returns : goal.returns
returns c =
    let es = c.args.accounts.now.entries in
    let past : length es ≤ c.loop-step._step = omega (arith, c.len-step-end.ensures.len) in
    sym (c.loop-step.invariant
    ∙ at_root es c.args.root c.loop-step.current c.loop-step._step c.eq-2.result c.requires c.eq-2.ensures
    ∙ ap (λ (above : List ℕ). c.eq-2.result || list_any (is_root_number es) above)
    (parents_end es c.loop-step._step c.loop-step.current past)
    ∙ or_false c.eq-2.result)

-- A line that is kept alone is kept where its split and its key were not seen.
use Rattle.std.proofs.Common.{◌+◌, ℕ, Bool, true, false, not, ◌&&◌, take, refl, sym, ap, ◌∙◌}
use Rattle.std.specs.Bool.{OnTrue}
use Rattle.std.specs.List.{list_any}
use Rattle.book_commodity.specs.Rules.{stands_before}
use Rattle.book_statement.specs.declared.line.Line.{Line}
use Rattle.book_sound.specs.LineRules.{has_same_key, line_rules, shares_split}
use Rattle.book_check.specs.Keys.{line_keys}
use Rattle.book_check.specs.Walk.{HasKeys}
use Rattle.book_check.proofs.KeyLemmas.{line_ties}
use Rattle.book_check.proofs.LineLemmas.{line_asked, matched_next}
use Rattle.book_check.proofs.SeenLemmas.{kept_alone, once}
use Rattle.book_check.proofs.lines.LineWalkChecked.keeps.Goals as goal

pub returns-then-not-keeps_alone-clause-kept : goal.returns-then-not-keeps_alone-clause-kept
returns-then-not-keeps_alone-clause-kept c =
    let walk = c.args.self.now in
    let es = walk.lines.now.entries in
    let line = c.value_at-line.result.now in
    let split = list_any (λ (e : ℕ × Line). shares_split line e.1) (take c.args.place es) in
    kept_alone (line_rules walk.accounts.now.entries walk.statements.now.entries walk.transactions.now.entries es) es
    c.args.place line false c.value_at-line.ensures
    (λ n there. sym (line_asked walk.accounts.now.entries walk.statements.now.entries walk.transactions.now.entries es
    c.args.place n line c.keeps_alone.result split c.requires.rises there
    (c.keeps_alone.ensures walk.transactions.now.entries c.requires.known.0) refl
    ∙ ap (λ (b : Bool). (b && not split) && not (stands_before (has_same_key line) n es)) c.if-not-keeps_alone.true))

pub returns-then-branch-clause-kept : goal.returns-then-branch-clause-kept
returns-then-branch-clause-kept c =
    let walk = c.args.self.now in
    let es = walk.lines.now.entries in
    let line = c.value_at-line.result.now in
    let split = c.in_ok-add_matched.field-0 in
    kept_alone (line_rules walk.accounts.now.entries walk.statements.now.entries walk.transactions.now.entries es) es
    c.args.place line false c.value_at-line.ensures
    (λ n there. sym (line_asked walk.accounts.now.entries walk.statements.now.entries walk.transactions.now.entries es
    c.args.place n line c.keeps_alone.result split c.requires.rises there
    (c.keeps_alone.ensures walk.transactions.now.entries c.requires.known.0)
    (c.in_ok-add_matched.ensures.before (take c.args.place es) c.requires.known.1)
    ∙ ap (λ (b : Bool). (b && not split) && not (stands_before (has_same_key line) n es)) c.if-not-keeps_alone.false
    ∙ ap (λ (b : Bool). not b && not (stands_before (has_same_key line) n es)) c.if-branch.true))

with_both : {A B : Type 0} (b : Bool) (C : Type 0) → A → B → OnTrue b C → OnTrue b (A × B × C)
with_both true C one other last = (one, other, last)
with_both false C one other last = tt

pub returns : goal.returns
returns c =
    let walk = c.args.self.now in
    let es = walk.lines.now.entries in
    let line = c.value_at-line.result.now in
    let split = c.in_ok-add_matched.field-0 in
    let kept = once line_keys line_ties
    (line_rules walk.accounts.now.entries walk.statements.now.entries walk.transactions.now.entries es) es
    c.args.place line c.parts_of.result walk.keys c.insert.new.self (c.keeps_alone.result && not split)
    c.in_ok-is_taken.is_taken c.requires.rises c.value_at-line.ensures c.parts_of.ensures c.requires.known.2
    (ap (λ (b : Bool). b && not split) c.if-not-keeps_alone.false ∙ ap not c.if-branch.false)
    (λ n there. line_asked walk.accounts.now.entries walk.statements.now.entries walk.transactions.now.entries es
    c.args.place n line c.keeps_alone.result split c.requires.rises there
    (c.keeps_alone.ensures walk.transactions.now.entries c.requires.known.0)
    (c.in_ok-add_matched.ensures.before (take c.args.place es) c.requires.known.1))
    c.in_ok-is_taken.ensures.before c.in_ok-is_taken.ensures.adds in
    record {
      kept = kept.0;
      known = with_both (not c.in_ok-is_taken.is_taken)
          (HasKeys line_keys c.insert.new.self (take (c.args.place + 1) es)) c.requires.known.0
          (matched_next es c.args.place line walk.matched c.add_matched.new.splits c.value_at-line.ensures
          c.requires.known.1 c.in_ok-add_matched.ensures.adds) kept.1;
      same_entries = refl;
      same_rules = refl;
    }

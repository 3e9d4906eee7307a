-- A line that is matched with none adds nothing; another adds its split.
use Rattle.std.proofs.Common.{◌≡◌, Some, None, inl, inr, sym, ap, ◌∙◌}
use Rattle.std.proofs.lemmas.Result.{IfOk-weaker}
use Rattle.book_sound.specs.LineRules.{matched_split}
use Rattle.book_check.proofs.LineLemmas.{matched_after, matched_before, unmatched_after, unmatched_before}
use Rattle.book_check.proofs.lines.add_matched.Goals as goal

pub returns-in-Open : goal.returns-in-Open
returns-in-Open c =
    let none : matched_split c.args.line.now.state ≡ None = elim c.in-Open.is [
      | inl is ↦ ap matched_split is
      | inr is ↦ ap matched_split is
    ] in
    record {
      before = λ lines has. sym (unmatched_before c.args.line.now lines none);
      adds = unmatched_after c.args.line.now c.args.splits.now none;
    }

pub returns-in-Matched : goal.returns-in-Matched
returns-in-Matched c =
    let is : matched_split c.args.line.now.state ≡ Some c.in-Matched.split = ap matched_split c.in-Matched.is in
    record {
      before = IfOk-weaker c.insert.result _ _
          (λ before known lines has. known
          ∙ matched_before c.in-Matched.split c.args.line.now c.args.splits.now lines is has) c.insert.ensures.before;
      adds = IfOk-weaker c.insert.result _ _
          (λ before adds. matched_after c.in-Matched.split c.args.line.now c.args.splits.now c.insert.new.self is adds)
          c.insert.ensures.adds;
    }

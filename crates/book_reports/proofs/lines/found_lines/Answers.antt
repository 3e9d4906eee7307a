use Rattle.std.proofs.Common.{List, [], ◌∷◌, ◌++◌, take, Option, sym, ap, ◌∙◌, append-nil}
use Rattle.std.specs.List.{cons_option, filter_map}
use Rattle.book_reports.specs.Sections.{line_of}
use Rattle.book_reports.specs.declared.lines.Line.{Line}
use Rattle.book_reports.proofs.LineLemmas.{found_next}
use Rattle.book_reports.proofs.lines.found_lines.Goals as goal
use Rattle.book_reports.proofs.lines.found_lines.Goals.{in-Some+in_ok-push, in_default}

pub loop-number-preserved : goal.loop-number-preserved
loop-number-preserved c =
    let line = line_of c.args.view.now c.args.period.now c.args.section in
    let before = take c.loop-number.number-index c.args.order.now in
    let next = found_next line c.args.order.now c.loop-number.number-index 0 c.loop-number-test.true in
    let is = c.in_ok-line.ensures in
    elim c.match-branch-2.branch [
      | in-Some+in_ok-push w ↦ w.lines-is ∙ w.in_ok-push.ensures.added
          ∙ ap (λ (l : List Line). l ++ w.in-Some.line ∷ []) c.loop-number.invariant
          ∙ ap (λ (o : Option Line). filter_map line before ++ cons_option o []) (sym w.in-Some.is ∙ is) ∙ sym next
      | in_default w ↦ w.lines-is ∙ c.loop-number.invariant ∙ sym (append-nil (filter_map line before))
          ∙ ap (λ (o : Option Line). filter_map line before ++ cons_option o []) (sym w.in_default.is ∙ is) ∙ sym next
    ]

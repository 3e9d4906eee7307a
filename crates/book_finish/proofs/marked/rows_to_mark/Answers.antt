use Rattle.std.proofs.Common.{List, ◌++◌, filter, ap, ◌∙◌}
use Rattle.book_register.specs.declared.entry.Entry.{Entry}
use Rattle.book_finish.specs.Kept.{is_row_to_mark}
use Rattle.book_finish.proofs.StepLemmas.{part-more}
use Rattle.book_finish.proofs.marked.rows_to_mark.Goals as goal

pub loop-place-preserved : goal.loop-place-preserved
loop-place-preserved c =
    let part = c.part-part.result.now in
    c.in_ok-add_to_mark.ensures
    ∙ ap (λ (l : List Entry). l ++ filter (is_row_to_mark c.args.day) part) c.loop-place.invariant
    ∙ part-more (is_row_to_mark c.args.day) c.args.register.now.rows part c.loop-place.place c.part-part.ensures.part

-- The table of the sorted pairs has the line of each matched split.
use Rattle.std.proofs.Common.{[], ap, ◌∙◌}
use Rattle.std.proofs.lemmas.Result.{IfOk-weaker}
use Rattle.book_commodity.specs.Table.{value_of}
use Rattle.book_free.specs.Opening.{in_order}
use Rattle.book_free.specs.Seen.{noted}
use Rattle.book_free.proofs.OpeningLemmas.{lines_made}
use Rattle.book_free.proofs.opening.matched_lines.Goals as goal

pub returns : goal.returns
returns c =
    IfOk-weaker c.table_of.result _ _
    (λ table made number.
    ap (value_of number) (made
    ∙ ap (λ pairs. noted pairs []) (c.as_slice.ensures.value ∙ c.in_ok-sort.ensures
    ∙ ap in_order c.in_ok-pairs.ensures))
    ∙ lines_made c.args.lines.now number c.requires)
    c.table_of.ensures

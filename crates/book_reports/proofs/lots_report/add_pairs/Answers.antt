use Rattle.std.proofs.Common.{◌++◌, ◌∙◌, ap, string_bytes}
use Rattle.book_lots.specs.declared.pair.Pair.{Pair}
use Rattle.book_reports.specs.LotsText.{pair_row}
use Rattle.book_reports.proofs.LotsLemmas.{one_more}
use Rattle.book_reports.proofs.lots_report.add_pairs.Goals as goal

pub loop-pair-preserved : goal.loop-pair-preserved
loop-pair-preserved c =
    one_more (pair_row c.args.style) c.args.pairs.now c.loop-pair.pair-index c.pair-item.result
    (string_bytes c.args.out.now) (string_bytes c.loop-pair.out) (string_bytes c.add_pair.new.out) c.loop-pair-test.true
    c.loop-pair.invariant
    (c.in_ok-add_pair.ensures
    ∙ ap (λ (p : Pair). string_bytes c.loop-pair.out ++ pair_row c.args.style p) c.pair-item.is)

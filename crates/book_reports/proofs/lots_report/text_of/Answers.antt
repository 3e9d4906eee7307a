use Rattle.std.proofs.Common.{rules, ◌≡◌, ◌∙◌, ◌++◌, List, ap, of_z, string_bytes, to_z}
use mir.Syntax.{w128}
use Rattle.book_lots.specs.Lots.{adjustments_of, all_gains, cost_of, lots_of}
use Rattle.std.specs.List.{flat_map}
use Rattle.book_lots.specs.declared.open_lot.OpenLot.{OpenLot}
use Rattle.book_lots.specs.declared.pair.Pair.{Pair}
use Rattle.book_reports.specs.LotsText.{lot_row, pair_row}
use Rattle.book_reports.proofs.LotsLemmas.{text_made}
use Rattle.book_reports.proofs.lots_report.text_of.Goals as goal

pub returns : goal.returns
returns c =
    let es = c.args.lots.now.entries in
    let adjusted : to_z w128 (of_z w128 c.adjustments.result) ≡ adjustments_of es = search rules in
    let gained : to_z w128 (of_z w128 c.all_gains.result) ≡ all_gains es = search rules in
    let cost : to_z w128 (of_z w128 c.open_cost.result) ≡ cost_of (lots_of es) = search rules in
    c.of.ensures
    ∙ text_made c.args.view.now c.args.account c.args.form c.style_of-style.result c.args.lots.now.entries
    (to_z w128 (of_z w128 c.adjustments.result)) (to_z w128 (of_z w128 c.all_gains.result))
    (to_z w128 (of_z w128 c.open_cost.result)) (string_bytes c.new-out.result)
    (string_bytes c.add_heading.new.out) (string_bytes c.add_pairs.new.out) (string_bytes c.add_open_lots.new.out)
    (string_bytes c.add_sum.new.out) (string_bytes c.add_sum-2.new.out) (string_bytes c.add_sum-3.new.out)
    c.style_of-style.ensures c.requires.entries adjusted gained cost c.new-out.ensures.bytes c.in_ok-add_heading.ensures
    (c.in_ok-add_pairs.ensures
    ∙ ap (λ (l : List Pair). string_bytes c.add_heading.new.out ++ flat_map (pair_row c.style_of-style.result) l)
    c.pairs.ensures)
    (c.in_ok-add_open_lots.ensures
    ∙ ap (λ (l : List OpenLot). string_bytes c.add_pairs.new.out ++ flat_map (lot_row c.style_of-style.result) l)
    c.lots.ensures)
    c.in_ok-add_sum.ensures c.in_ok-add_sum-2.ensures c.in_ok-add_sum-3.ensures

use Rattle.std.proofs.Common.{List, ap, sym, ◌∙◌, ◌+◌, drop, flat_map}
use Rattle.book_commodity.proofs.ListLemmas.{from-item}
use Rattle.book_undo.specs.Edit.{leaves}
use Rattle.book_undo.specs.declared.edit.Edit.{Edit}
use Rattle.book_balances.specs.Balances.{put_at}
use Rattle.book_balances.proofs.BalanceLemmas.{put-part, put-parts}
use Rattle.book_balances.proofs.balances.+put.Goals as goal

pub put_among-returns-then-is_some : goal.put_among-returns-then-is_some
put_among-returns-then-is_some t c =
    let more : List Edit = drop (c.loop-part.part-index + 1) c.args.parts.now in
    sym (c.loop-part.invariant
    ∙ ap (λ (parts : List Edit). put_at (flat_map leaves parts) c.args.number)
    (from-item c.args.parts.now c.loop-part.part-index c.part-item.result c.loop-part-test.true c.part-item.is)
    ∙ put-part c.args.number c.part-item.result more c.put-found.result c.put-found.ensures cc)

pub put_among-loop-part-preserved : goal.put_among-loop-part-preserved
put_among-loop-part-preserved t c =
    let more : List Edit = drop (c.loop-part.part-index + 1) c.args.parts.now in
    c.loop-part.invariant
    ∙ ap (λ (parts : List Edit). put_at (flat_map leaves parts) c.args.number)
    (from-item c.args.parts.now c.loop-part.part-index c.part-item.result c.loop-part-test.true c.part-item.is)
    ∙ put-parts c.args.number c.part-item.result more c.put-found.result c.put-found.ensures cc

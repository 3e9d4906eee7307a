use Rattle.std.proofs.Common.{List, ap, sym, ◌∙◌, ◌+◌, drop, flat_map}
use Rattle.book_commodity.proofs.ListLemmas.{from-item}
use Rattle.book_undo.specs.Edit.{leaves}
use Rattle.book_undo.specs.declared.edit.Edit.{Edit}
use Rattle.book_turns.specs.Changes.{currency_after}
use Rattle.book_turns.proofs.CurrencyLemmas.{currency_after-append}
use Rattle.book_turns.proofs.head.+currency.Goals as goal

pub currency_after_all-loop-part-preserved : goal.currency_after_all-loop-part-preserved
currency_after_all-loop-part-preserved t c =
    let more : List Edit = drop (c.loop-part.part-index + 1) c.args.parts.now in
    ap (currency_after (flat_map leaves more)) c.currency_after-now.ensures
    ∙ sym (currency_after-append (leaves c.part-item.result) (flat_map leaves more) c.loop-part.now)
    ∙ sym (ap (λ (parts : List Edit). currency_after (flat_map leaves parts) c.loop-part.now)
    (from-item c.args.parts.now c.loop-part.part-index c.part-item.result c.loop-part-test.true c.part-item.is))
    ∙ c.loop-part.invariant

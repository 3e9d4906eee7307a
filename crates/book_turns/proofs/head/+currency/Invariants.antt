use Rattle.std.proofs.Common.{◌≡◌, drop, flat_map}
use Rattle.book_undo.specs.Edit.{leaves}
use Rattle.book_turns.specs.Changes.{currency_after}
use Rattle.book_turns.proofs.head.+currency.Given as goal

abbrev pub invariant-currency_after_all-loop-part : goal.invariant-currency_after_all-loop-part
invariant-currency_after_all-loop-part l =
    currency_after (flat_map leaves (drop l.part-index l.parts)) l.now
    ≡ currency_after (flat_map leaves l.parts) l.currency

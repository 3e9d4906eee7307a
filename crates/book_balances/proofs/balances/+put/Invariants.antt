use Rattle.std.proofs.Common.{◌≡◌, drop, flat_map}
use Rattle.book_undo.specs.Edit.{leaves}
use Rattle.book_balances.specs.Balances.{put_at}
use Rattle.book_balances.proofs.balances.+put.Given as goal

abbrev pub invariant-put_among-loop-part : goal.invariant-put_among-loop-part
invariant-put_among-loop-part l =
    put_at (flat_map leaves l.parts) l.number ≡ put_at (flat_map leaves (drop l.part-index l.parts)) l.number

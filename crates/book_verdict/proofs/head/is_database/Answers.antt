use Rattle.std.proofs.Common.{sym, arith}
use Rattle.std.proofs.lemmas.List.{length-take-le}
use Rattle.book_verdict.proofs.head.is_database.Goals as goal

pub slice_bounds-eq-end-then-head-ge-DATABASE_HEAD-2 : goal.slice_bounds-eq-end-then-head-ge-DATABASE_HEAD-2
slice_bounds-eq-end-then-head-ge-DATABASE_HEAD-2 c =
    sym (length-take-le 16 c.args.head.now (omega (arith, c.if-head-ge-DATABASE_HEAD.true)))

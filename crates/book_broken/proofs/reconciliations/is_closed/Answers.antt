-- A sum that doesn't fit 128 bits is no balance of 64.
use Rattle.std.proofs.Common.{arith}
use Rattle.std.proofs.lemmas.Int.{ints}
use Rattle.std.proofs.lemmas.Bool.Decides.{nat_tests}
use Rattle.book_broken.proofs.reconciliations.is_closed.Goals as goal

pub returns-in-None : goal.returns-in-None
returns-in-None c =
    let none = c.in-None.ensures in
    let sum = c.marked_sum-sum.ensures in
    let marked = c.as_slice.ensures in
    let closing = c.from-closing.ensures in
    let fits = c.from-closing.type_inv in
    grind (arith, ints, nat_tests, none, sum, marked, closing, fits)

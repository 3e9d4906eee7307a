use Rattle.std.proofs.Common.{arith}
use Rattle.std.proofs.lemmas.Int.{ints}
use Rattle.book_match.proofs.free.is_after.Goals as goal

pub returns : goal.returns
returns c = grind (arith, ints)

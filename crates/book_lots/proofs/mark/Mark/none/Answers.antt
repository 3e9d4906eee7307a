use Rattle.std.proofs.Common.{refl}
use Rattle.book_lots.specs.Lots.{bought_in, pairs_of, sold_in}
use Rattle.book_lots.proofs.mark.Mark.none.Goals as goal

pub returns : goal.returns
unfolding bought_in sold_in pairs_of
returns c = refl

use Rattle.book_lots.proofs.SidesLemmas.{none_reckoned}
use Rattle.book_lots.proofs.reckoning.Reckoning.new.Goals as goal

pub invariant_of-result : goal.invariant_of-result
invariant_of-result c = rw (c.new.ensures.items, c.new-2.ensures, c.new-3.ensures, c.new-4.ensures.items) none_reckoned

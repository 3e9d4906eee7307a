use Rattle.std.proofs.Common.{arith}
use Rattle.book_listings.proofs.present.PresentBook.split_count.Goals as goal

pub count_splits-requires : goal.count_splits-requires
count_splits-requires c = let few = c.self.invariant.0.few_splits in omega (arith, few)

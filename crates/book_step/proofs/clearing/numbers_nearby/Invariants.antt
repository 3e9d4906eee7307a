use Rattle.std.proofs.Common.{take}
use Rattle.book_step.proofs.NearLemmas.{HaveNumbers}
use Rattle.book_step.proofs.clearing.numbers_nearby.Given as goal

abbrev pub invariant-loop-pair : goal.invariant-loop-pair
invariant-loop-pair l = HaveNumbers l.present.book.transactions l.numbers.items (take l.pair-index l.pairs)

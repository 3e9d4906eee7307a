use Rattle.std.proofs.Common.{◌≡◌, ◌++◌, drop}
use Rattle.book_undo.proofs.+copy.Given as goal

abbrev pub invariant-copy::copy_all-loop-part : goal.invariant-copy::copy_all-loop-part
invariant-copy::copy_all-loop-part l = l.copies ++ drop l.part-index l.parts ≡ l.parts

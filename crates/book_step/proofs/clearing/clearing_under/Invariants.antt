use Rattle.std.proofs.Common.{◌≡◌, ◌++◌, drop}
use Rattle.std.specs.BTreeSet.{contains}
use Rattle.std.specs.Ordering.{nat_cmp}
use Rattle.book_step.specs.AutoMatching.{clearing_one}
use Rattle.book_step.specs.UnderNumbers.{made_under}
use Rattle.book_step.proofs.clearing.clearing_under.Given as goal

abbrev pub invariant-loop-number : goal.invariant-loop-number
invariant-loop-number l =
    let one = clearing_one (contains nat_cmp l.taken) in
    l.edits.items ++ made_under one l.present.book.transactions (drop l.number-index l.numbers)
    ≡ made_under one l.present.book.transactions l.numbers

use Rattle.std.proofs.Common.{◌≡◌, ◌++◌, drop}
use Rattle.std.specs.BTreeMap.{get}
use Rattle.std.specs.Ordering.{nat_cmp}
use Rattle.book_step.specs.AutoMatching.{pairing_one}
use Rattle.book_step.specs.UnderNumbers.{made_under}
use Rattle.book_step.proofs.pairing.add_lines.Given as goal

abbrev pub invariant-loop-number : goal.invariant-loop-number
invariant-loop-number l =
    let one = pairing_one (get nat_cmp l.takes) in
    l.edits.items ++ made_under one l.present.book.lines (drop l.number-index l.numbers)
    ≡ l.fn.edits.items ++ made_under one l.present.book.lines l.numbers

-- None of the transactions so far has the split.
use Rattle.std.proofs.Common.{◌≡◌, drop}
use Rattle.book_sound.specs.LineRules.{split_at}
use Rattle.book_step.proofs.split_search.find_held.Given as goal

abbrev pub invariant-loop-own : goal.invariant-loop-own
invariant-loop-own l =
    split_at l.number l.present.book.transactions ≡ split_at l.number (drop l.own-index l.own-items)

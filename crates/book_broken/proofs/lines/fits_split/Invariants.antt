-- None of the transactions so far has the split.
use Rattle.std.proofs.Common.{◌≡◌, drop}
use Rattle.book_sound.specs.LineRules.{split_at}
use Rattle.book_broken.proofs.lines.fits_split.Given as goal

abbrev pub invariant-loop-transaction : goal.invariant-loop-transaction
invariant-loop-transaction l =
    split_at l.number l.transactions ≡ split_at l.number (drop l.transaction-index l.transactions)

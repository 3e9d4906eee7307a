use Rattle.std.proofs.Common.{drop, ◌≡◌, ◌<◌, ◌^◌}
use Rattle.book_statement.specs.Numbers.{number}
use Rattle.book_statement.proofs.NumberLemmas.{number_onto}
use Rattle.book_statement.proofs.numbers.number.Given as goal

-- the number so far, with the digits that are left, is the number of all
abbrev pub invariant-loop-digit : goal.invariant-loop-digit
invariant-loop-digit l = (number_onto l.number (drop l.digit-index l.digits) ≡ number l.digits)
    × (l.number < 10 ^ l.digit-index)

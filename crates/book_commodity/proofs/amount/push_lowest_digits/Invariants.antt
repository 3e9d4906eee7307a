use Rattle.std.proofs.Common.{◌≡◌, ◌++◌, string_bytes}
use Rattle.book_commodity.specs.Amount.{lowest_digits}
use Rattle.book_commodity.proofs.amount.push_lowest_digits.Given as goal

-- what was appended, with the digits that are still to come, is all of them
abbrev pub invariant-loop-place : goal.invariant-loop-place
invariant-loop-place l =
    string_bytes l.text ++ lowest_digits l.place l.number ≡ string_bytes l.fn.text ++ lowest_digits l.places l.number

use Rattle.std.proofs.Common.{arith}
use Rattle.std.proofs.lemmas.Int.{ints}
use Rattle.book_statement.proofs.DateLemmas.{date_from_parts}
use Rattle.book_statement.proofs.dates.day_of_date.Goals as goal

pub returns : goal.returns
returns c =
    date_from_parts c.args.year c.args.month c.args.day _ c.of_parts.result (omega (arith, ints))
    c.of_parts.ensures.some c.of_parts.ensures.day

-- A binary search finds a number that stands among those that rise, and no other.
use Rattle.book_check.proofs.RisingLemmas.{search_tells}
use Rattle.book_check.proofs.numbers.is_among.Goals as goal

pub returns : goal.returns
returns c =
    rw c.is_ok.ensures.value
    (search_tells c.args.rising.now c.args.number c.binary_search.result c.binary_search.ensures.position c.requires)

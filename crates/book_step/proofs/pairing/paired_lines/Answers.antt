-- The sorted numbers are those found.
use Rattle.book_step.proofs.NearLemmas.{all_taking}
use Rattle.book_step.proofs.pairing.paired_lines.Goals as goal

pub returns-clause-has : goal.returns-clause-has
returns-clause-has c =
    all_taking c.args.pairs.now c.in_ok-numbers.numbers.items c.sort_once.new.numbers.items c.in_ok-numbers.ensures
    c.sort_once.ensures.keeps

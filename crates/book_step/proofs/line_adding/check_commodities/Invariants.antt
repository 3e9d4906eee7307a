use Rattle.std.proofs.Common.{◌≡◌, drop, map}
use Rattle.book_commodity.specs.Rules.{first_broken}
use Rattle.book_commodity.specs.Table.{value_of}
use Rattle.book_step.specs.LineAdding.{other_commodity}
use Rattle.book_step.proofs.line_adding.check_commodities.Given as goal

abbrev pub invariant-loop-other : goal.invariant-loop-other
invariant-loop-other l =
    first_broken
    (map (λ other. other_commodity l.commodity (value_of other.account l.present.book.accounts)) l.others)
    ≡ first_broken
    (map (λ other. other_commodity l.commodity (value_of other.account l.present.book.accounts))
    (drop l.other-index l.others))

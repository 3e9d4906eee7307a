use Rattle.std.proofs.Common.{[], ◌∷◌, Option, is_none, ap, sym}
use Rattle.book_commodity.specs.Rules.{broken_where, first_broken}
use Rattle.book_commodity.specs.declared.kind.Kind.TheVariants as kind
use Rattle.book_splits.specs.declared.split.Split.{Split}
use Rattle.book_command.specs.declared.rule.Rule.TheVariants.{Unknown}
use Rattle.book_step.proofs.split_search.known_split.Goals as goal

pub returns-in-Some-clause-unknown : goal.returns-in-Some-clause-unknown
returns-in-Some-clause-unknown c =
    ap (λ (found : Option Split). first_broken (broken_where (is_none found) (Unknown kind.Split c.args.number) ∷ []))
    (sym c.in-Some.ensures.split)

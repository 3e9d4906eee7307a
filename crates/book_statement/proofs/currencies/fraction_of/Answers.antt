use Rattle.std.proofs.Common.{sym, ap, ◌∙◌, rules, arith}
use Rattle.std.proofs.lemmas.List.{drop_all}
use Rattle.book_statement.specs.Currencies.{fraction_of}
use Rattle.book_statement.proofs.CurrencyLemmas.{fraction_of-found, fraction_of-other}
use Rattle.book_statement.proofs.currencies.fraction_of.Goals as goal

pub returns-then-is_some : goal.returns-then-is_some
returns-then-is_some c =
    fraction_of-found c.args.code.now c.args.known.now.entries c.loop-place.place c.fraction_if-found.result
    c.fraction_if-found.ensures (search rules)
    ∙ c.loop-place.invariant

pub loop-place-preserved : goal.loop-place-preserved
loop-place-preserved c =
    sym (fraction_of-other c.args.code.now c.args.known.now.entries c.loop-place.place c.fraction_if-found.result
    c.fraction_if-found.ensures (search rules))
    ∙ c.loop-place.invariant

pub returns : goal.returns
unfolding fraction_of
returns c = sym (ap (fraction_of c.args.code.now)
    (drop_all c.loop-place.place c.args.known.now.entries (omega arith))) ∙ c.loop-place.invariant

use Rattle.std.proofs.Common.{sym, ◌∙◌}
use Rattle.book_statement.proofs.CurrencyLemmas.{fraction_is}
use Rattle.mt940_read.proofs.checks.given_fraction.Goals as goal

pub of-requires : goal.of-requires
of-requires c = fraction_is c.args.code.now c.args.known.now.entries c.in-Some.number c.requires
    (sym c.fraction_of.ensures ∙ c.in-Some.is)

use Rattle.std.proofs.Common.{sym, ◌∙◌}
use Rattle.book_step.proofs.TableWalkLemmas.{named-here, named-past}
use Rattle.book_step.proofs.in_use.check_table.Goals as goal

pub returns-then-has_named : goal.returns-then-has_named
returns-then-has_named g c =
    named-here c.args.kind (g.T.NamesAccount.names c.args.account) c.args.table.now.entries c.loop-place.place
    c.number_at.result c.value_at.result.now c.loop-place.invariant c.value_at.ensures
    (sym c.has_named.ensures ∙ c.if-has_named.true) c.number_at.ensures

pub loop-place-preserved : goal.loop-place-preserved
loop-place-preserved g c =
    named-past (g.T.NamesAccount.names c.args.account) c.args.table.now.entries c.loop-place.place
    c.value_at.result.now c.loop-place.invariant c.value_at.ensures
    (sym c.has_named.ensures ∙ c.if-has_named.false)

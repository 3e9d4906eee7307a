use Rattle.std.proofs.Common.{sym, ◌∙◌}
use Rattle.book_step.proofs.BindingLemmas.{bound_here, bound_past}
use Rattle.book_step.proofs.bindings.binding_of.Goals as goal

pub returns-then-has_text : goal.returns-then-has_text
returns-then-has_text c =
    bound_here c.args.text.now c.args.bindings.now.entries c.loop-place.place c.number_at.result
    c.value_at-binding.result.now c.loop-place.invariant c.value_at-binding.ensures
    (sym c.has_text.ensures ∙ c.if-has_text.true) c.number_at.ensures

pub loop-place-preserved : goal.loop-place-preserved
loop-place-preserved c =
    bound_past c.args.text.now c.args.bindings.now.entries c.loop-place.place c.value_at-binding.result.now
    c.loop-place.invariant c.value_at-binding.ensures (sym c.has_text.ensures ∙ c.if-has_text.false)

use Rattle.std.proofs.Common.{◌≡◌, drop}
use Rattle.book_step.specs.Bindings.{binding_of}
use Rattle.book_step.proofs.bindings.binding_of.Given as goal

abbrev pub invariant-loop-place : goal.invariant-loop-place
invariant-loop-place l = binding_of l.text (drop l.place l.bindings.entries) ≡ binding_of l.text l.bindings.entries

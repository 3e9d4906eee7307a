use Rattle.std.proofs.Common.{subst}
use Rattle.book_step.specs.Soundness.{IsSound}
use Rattle.book_step.specs.State.{State}
use Rattle.book_step.proofs.present.Present.known.Goals as goal

pub returns : goal.returns
returns c = subst (λ (s : State). IsSound s) c.self.view_is c.self.invariant

-- A keeper without rows opens as the fresh machine.
use Rattle.std.proofs.Common.{◌≡◌, [], inl, inr}
use Rattle.book_opening.specs.Opening.{OpenAs}
use Rattle.book_opening.specs.State.{State}
use Rattle.book_engine.specs.Machine.{Machine, fresh}
use Rattle.book_engine.specs.Opens.{Opens, OpensTo}

no_state : (state : State) → OpenAs [] state → ⊥
no_state state h = let none = h.1.are in cc

-- no rows open as the fresh machine alone
pub opened_fresh : (machine : Machine) → OpensTo [] (Opens machine) → machine ≡ fresh
opened_fresh machine opens = elim opens as (λ h. machine ≡ fresh) [
  | inl h ↦ h.1
  | inr h ↦ absurd (no_state h.0 h.1)
]

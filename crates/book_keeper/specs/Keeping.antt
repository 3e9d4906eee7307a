-- Why a call on a keeper goes wrong.
use Rattle.std.specs.Prelude.{◌≡◌, ℕ, ◌≤◌, Result, OnOk, IfErr}
use Rattle.book_keeper.specs.declared.row.KeepError.{KeepError}
use Rattle.book_keeper.specs.declared.row.KeepError.TheVariants.{Failed}
use Rattle.book_keeper.specs.Faults.{Rose}

-- The count of faults never falls. A call that succeeds leaves it, so no fault is hidden; a call that answers Failed
-- raises it. Being out of memory needs no cause.
pub record HasKeepCause {T : Type 0} (before now : ℕ) (result : Result T KeepError) : Type 0 where
  pub later : before ≤ now
  pub done : OnOk result (now ≡ before)
  pub failed : IfErr result (λ error. error ≡ Failed → Rose before now)

-- What is added, and what is left to add, is what the changes come to.
use Rattle.std.proofs.Common.{◌≡◌, ◌≤◌, ◌+◌, ◌-◌, ℕ, List, ◌++◌, map}
use Rattle.book_keeper.specs.declared.row.Change.{Change}
use Rattle.book_history.specs.Numbers.{numbers_from}
use Rattle.book_opening.specs.Changes.{GoneForth, step_change}
use Rattle.book_turns.proofs.changes.add_forth_gone.Given as goal

-- The changes that delete so many steps forth from a first number on.
abbrev pub gone : ℕ → ℕ → List Change
gone first count = map step_change (map (λ number. GoneForth number) (numbers_from first count))

pub record Left (changes before : List Change) (number end first count : ℕ) : Type 0 where
  pub below : number ≤ end
  pub ends : end ≡ first + count
  pub added : changes ++ gone number (end - number) ≡ before ++ gone first count

abbrev pub invariant-loop-number : goal.invariant-loop-number
invariant-loop-number l = Left l.changes l.fn.changes l.number l.number-end l.fn.first l.fn.count

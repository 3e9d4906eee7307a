-- The rows of each register stand in order.
use Rattle.std.proofs.Common.{ℕ, ◌==◌, Bool, true, false, if◌then◌else◌, List, [], ◌∷◌, Some}
use Rattle.std.proofs.lemmas.List.Elements.{All-head, All-tail}
use Rattle.book_commodity.specs.Table.{value_of}
use Rattle.book_register.specs.Register.{IsSorted}
use Rattle.book_ledger.specs.Page.{Page}
use Rattle.book_ledger.specs.Ledger.{rows_at, rows_in}
use Rattle.book_ledger.specs.Room.{AreSorted}

-- so do those that are kept for an account
pub sorted_at : (account : ℕ) (registers : List (ℕ × Page)) → AreSorted registers → IsSorted (rows_at account registers)
sorted_at account [] all = tt
sorted_at account (e ∷ es) all =
    let Here : Bool → Type 0 = λ t. IsSorted (rows_in (if t then Some e.1 else value_of account es)) in
    elim (account == e.0) as Here [
      | true ↦ All-head (λ (x : ℕ × Page). IsSorted x.1.rows) e es all
      | false ↦ sorted_at account es (All-tail (λ (x : ℕ × Page). IsSorted x.1.rows) e es all)
    ]

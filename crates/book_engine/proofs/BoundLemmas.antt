-- Registers that were just made from a book count their changes in 64 bits.
use Rattle.std.proofs.Common.{ℕ, List, arith}
use Rattle.book_ledger.specs.Changes.{AreBounded}
use Rattle.book_ledger.specs.Opening.{AreNew}
use Rattle.book_ledger.specs.Page.{Page}

pub new_bounded : (registers : List (ℕ × Page)) → AreNew registers → AreBounded registers
new_bounded registers new = record { each = λ account. let rises = new.changes account in omega (arith, rises) }

use Rattle.std.proofs.Common.{◌≡◌, [], ◌++◌, drop, take}
use Rattle.book_register.specs.Register.{balance}
use Rattle.book_listings.specs.Account.{rows_after}
use Rattle.book_listings.proofs.account.add_rows.Given as goal

-- what was added, with the rows that are left, is all rows; and the balance is that of the rows so far
abbrev pub invariant-loop-place : goal.invariant-loop-place
invariant-loop-place l =
    (l.rows ++ rows_after l.book l.lines.items l.fraction (take l.place l.register.rows) (drop l.place l.register.rows)
    ≡ l.fn.rows ++ rows_after l.book l.lines.items l.fraction [] l.register.rows)
    × (l.balance ≡ balance (take l.place l.register.rows))

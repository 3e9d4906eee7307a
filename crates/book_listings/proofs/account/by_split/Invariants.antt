use Rattle.std.proofs.Common.{◌≡◌, ℕ, take}
use Rattle.book_listings.specs.Account.{line_of}
use Rattle.book_listings.proofs.account.by_split.Given as goal

-- what is found is that of the lines so far
abbrev pub invariant-loop-entry : goal.invariant-loop-entry
invariant-loop-entry l = (split : ℕ) → line_of split l.table.entries ≡ line_of split (take l.entry-index l.lines)

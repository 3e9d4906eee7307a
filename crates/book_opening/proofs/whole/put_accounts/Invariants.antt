-- What is left is put behind what was.
use Rattle.std.proofs.Common.{◌≡◌, ◌++◌, map, drop}
use Rattle.std.specs.List.{AllByRecursion}
use Rattle.book_rows.specs.AccountBytes.{account_bytes, IsAccount}
use Rattle.book_opening.specs.Changes.{entry_put}
use Rattle.book_opening.proofs.whole.put_accounts.Given as goal

abbrev pub invariant-loop-place : goal.invariant-loop-place
invariant-loop-place l = record {
  added : l.changes ++ map (entry_put 3 account_bytes) (drop l.place l.accounts.entries)
      ≡ l.fn.changes ++ map (entry_put 3 account_bytes) l.accounts.entries;
  fit : AllByRecursion (λ entry. IsAccount entry.1) (drop l.place l.accounts.entries)
      → AllByRecursion (λ entry. IsAccount entry.1) l.accounts.entries;
}

use Rattle.std.proofs.Common.{◌≡◌, ℕ, drop, find}
use Rattle.book_step.proofs.in_use.check_table.Given as goal

abbrev pub invariant-loop-place : goal.invariant-loop-place
invariant-loop-place g l =
    find (λ (entry : ℕ × g.row.T.Denot). g.T.NamesAccount.names l.account entry.1) (drop l.place l.table.entries)
    ≡ find (λ (entry : ℕ × g.row.T.Denot). g.T.NamesAccount.names l.account entry.1) l.table.entries

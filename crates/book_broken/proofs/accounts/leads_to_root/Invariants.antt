-- The accounts so far aren't the root, and those above are asked yet.
use Rattle.std.proofs.Common.{◌≡◌, ◌∷◌, ◌-◌, length}
use Rattle.std.specs.List.{list_any}
use Rattle.book_accounts.specs.AccountRules.{is_root_number, leads_to_root}
use Rattle.book_accounts.specs.Tree.{nearest_parents}
use Rattle.book_broken.proofs.accounts.leads_to_root.Given as goal

abbrev pub invariant-loop-step : goal.invariant-loop-step
invariant-loop-step l =
    leads_to_root l.accounts.entries l.number
    ≡ list_any (is_root_number l.accounts.entries)
    (l.current ∷ nearest_parents (length l.accounts.entries - l._step) l.accounts.entries l.current)

use Rattle.std.proofs.Common.{◌≡◌, ◌++◌, string_bytes, take}
use Rattle.std.specs.List.{flat_map}
use Rattle.book_reports.specs.Trial.{part_of}
use Rattle.book_reports.proofs.trial_balance.add_parts.Given as goal

-- the parts of the commodities so far were added
abbrev pub invariant-loop-number : goal.invariant-loop-number
invariant-loop-number l =
    string_bytes l.out ≡ string_bytes l.fn.out ++ flat_map (part_of l.view l.day l.form) (take l.number-index l.commodities)

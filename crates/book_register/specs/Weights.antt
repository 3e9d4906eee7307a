-- What an entry adds to the three balances of its register.
use Rattle.std.specs.Prelude.{pos, Bool, true, false, if◌then◌else◌}
use Rattle.book_seq.specs.declared.sums.Sums.{Sums}
use Rattle.book_register.specs.declared.entry.Entry.{Entry}
use Rattle.book_register.specs.declared.entry.Mark2.{Mark2}
use Rattle.book_register.specs.declared.entry.Mark2.TheVariants.{Plain, Cleared, Reconciled}

-- The mark is c or y.
abbrev pub is_cleared : Mark2 → Bool
is_cleared Plain = false
is_cleared Cleared = true
is_cleared Reconciled = true

-- The mark is y.
abbrev pub is_reconciled : Mark2 → Bool
is_reconciled Plain = false
is_reconciled Cleared = false
is_reconciled Reconciled = true

-- The quantity stands in the first balance; in the second where the mark is c or y; in the third where it is y.
abbrev pub weights_of : Entry → Sums
weights_of entry = record {
  first = entry.quantity;
  second = if is_cleared entry.mark then entry.quantity else pos 0;
  third = if is_reconciled entry.mark then entry.quantity else pos 0;
}

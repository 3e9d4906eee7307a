-- Worked rows: an account with three rows, one of them cleared and one reconciled.
use Rattle.std.proofs.Common.{◌≡◌, ℕ, true, List, [], ◌∷◌, ℤ, pos, negsuc, Some, None, refl}
use Rattle.std.specs.List.{position}
use Rattle.book_register.specs.Register.{balances, has_key, key_at, precedes, rows_until}
use Rattle.book_register.specs.declared.entry.Entry.{Entry}
use Rattle.book_register.specs.declared.entry.Mark2.{Mark2}
use Rattle.book_register.specs.declared.entry.Mark2.TheVariants.{Plain, Cleared, Reconciled}

abbrev row : ℤ → ℕ → ℤ → Mark2 → Entry
row day txn quantity mark = record {
  day = day;
  txn = txn;
  place = 0;
  split = txn;
  currency = 1;
  quantity = quantity;
  value = quantity;
  mark = mark;
}

-- 10.00 reconciled and 4.00 paid out on one day, and 1.50 cleared on the next
abbrev rows : List Entry
rows = row (pos 3) 5 (pos 1000) Reconciled ∷ row (pos 3) 7 (negsuc 399) Plain ∷ row (pos 4) 6 (pos 150) Cleared ∷ []

on_the_first_day : balances (rows_until
    (pos 3) rows) ≡ record { all = pos 600; cleared = pos 1000; reconciled = pos 1000 }
on_the_first_day = refl

on_the_next_day : balances (rows_until
    (pos 4) rows) ≡ record { all = pos 750; cleared = pos 1150; reconciled = pos 1000 }
on_the_next_day = refl

before_all : balances (rows_until (pos 2) rows) ≡ record { all = pos 0; cleared = pos 0; reconciled = pos 0 }
before_all = refl

-- a transaction of a later day with a smaller number stands behind
later_day : precedes (key_at (pos 3) 7 0) (key_at (pos 4) 6 0) ≡ true
later_day = refl

second_found : position (has_key (key_at (pos 3) 7 0)) rows ≡ Some 1
second_found = refl

none_found : position (has_key (key_at (pos 3) 6 0)) rows ≡ None
none_found = refl

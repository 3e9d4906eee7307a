-- Where the splits of an amount, or those near a day, begin and end in an index: the code's own.
use Rattle.std.specs.Prelude.{ℕ, nat_lt, nat_le, ℤ, pos, ◌+ℤ◌, ◌-ℤ◌, int_lt, Bool, ◌&&◌}
use Rattle.book_match.specs.AmountIndex.{is_of_amount}
use Rattle.book_match.specs.Proposal.{distance, in_turn}
use Rattle.book_match.specs.declared.free.Free.{Free}

-- Whether a split comes before those of an account with an amount, and whether it comes behind them.
abbrev pub is_under_amount : ℕ → ℤ → Free → Bool
is_under_amount account amount entry =
    in_turn (nat_lt entry.account account) (nat_lt account entry.account) (int_lt entry.amount amount)

abbrev pub is_past_amount : ℕ → ℤ → Free → Bool
is_past_amount account amount entry =
    in_turn (nat_lt account entry.account) (nat_lt entry.account account) (int_lt amount entry.amount)

-- Whether a split is one of an account with an amount that is at most so many days away from a day.
abbrev pub is_near : ℕ → ℤ → ℤ → ℕ → Free → Bool
is_near account amount day window entry =
    is_of_amount account amount entry && nat_le (distance day entry.day) window

-- Whether a split comes before those, and whether it comes behind them.
abbrev pub is_under_days : ℕ → ℤ → ℤ → ℕ → Free → Bool
is_under_days account amount day window entry =
    in_turn (nat_lt entry.account account) (nat_lt account entry.account)
    (in_turn (int_lt entry.amount amount) (int_lt amount entry.amount) (int_lt entry.day (day -ℤ pos window)))

abbrev pub is_past_days : ℕ → ℤ → ℤ → ℕ → Free → Bool
is_past_days account amount day window entry =
    in_turn (nat_lt account entry.account) (nat_lt entry.account account)
    (in_turn (int_lt amount entry.amount) (int_lt entry.amount amount) (int_lt (day +ℤ pos window) entry.day))

-- The currency of a book after leaves.
use Rattle.std.specs.Prelude.{ℕ, List, [], ◌∷◌}
use Rattle.book_undo.specs.Edit.{Leaf, OfCurrency, OfPut, OfGone}

-- The currency of a book after leaves, where this was the one before.
abbrev pub currency_after : List Leaf → ℕ → ℕ
currency_after [] currency = currency
currency_after (OfCurrency new ∷ more) currency = currency_after more new
currency_after (OfPut number thing ∷ more) currency = currency_after more currency
currency_after (OfGone kind number ∷ more) currency = currency_after more currency

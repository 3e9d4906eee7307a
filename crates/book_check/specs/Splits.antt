-- The splits of a book by their numbers, as lines are matched with them.
use Rattle.std.specs.Prelude.{◌≡◌, ℕ, ℤ, ◌==◌, not, Bool, false, ◌&&◌, List, ◌++◌, Option, Some, None, option_map}
use Rattle.std.specs.BTreeMap.{get}
use Rattle.std.specs.Ordering.{int_eq, nat_cmp}
use Rattle.book_splits.specs.TransactionRules.{is_voided}
use Rattle.book_splits.specs.declared.split.Split.{Split}
use Rattle.book_sound.specs.LineRules.{split_among}
use Rattle.book_check.specs.declared.splits.SplitFacts.{SplitFacts}
use Rattle.book_check.specs.declared.splits.Splits.{Splits}

-- What a split gives to its account, and whether it is voided.
abbrev pub facts_of : Split → SplitFacts
facts_of split =
    record { account = split.account; quantity = split.quantity; voided = is_voided split.mark }

-- Whether there is a split, it gives this quantity to the account, and it is not voided.
abbrev pub fits_facts : ℕ → ℤ → Option SplitFacts → Bool
fits_facts account quantity None = false
fits_facts account quantity (Some split) =
    (split.account == account) && (int_eq split.quantity quantity && not split.voided)

-- The map has what each number's first split gives, and nothing more.
abbrev pub HasSplits : List Split → Splits → Type 0
HasSplits splits map =
    (number : ℕ) → get nat_cmp map.quantities number ≡ option_map facts_of (split_among number splits)

-- The new map has these splits besides those that the old one has, and before them.
abbrev pub PutsBefore : List Split → Splits → Splits → Type 0
PutsBefore splits old new = (rest : List Split) → HasSplits rest old → HasSplits (splits ++ rest) new

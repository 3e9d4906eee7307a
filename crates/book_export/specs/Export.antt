-- The whole book as a plain-text journal, which ledger 3.3 and hledger 1.25 read (ledger 3 manual, journal format;
-- hledger manual, journal format): its commodities, its accounts, its prices, and its transactions by day.
use Rattle.std.specs.Prelude.{ℕ, ◌≡◌, ℤ, int_lt, if◌then◌else◌, is_none, List, [], ◌∷◌, ◌++◌, filter, map, codes}
use Rattle.std.specs.Prelude.{Result, Ok, Err, ◌⊎◌}
use Rattle.std.specs.List.{flat_map}
use Rattle.std.specs.List.Sorted.{IsSortedBy}
use Rattle.std.specs.Ordering.{int_eq}
use Rattle.book_accounts.specs.declared.account.Account.{Account}
use Rattle.book_keeper.specs.Faults.{Rose}
use Rattle.book_keeper.specs.Stream.{Wrote, WrotePart}
use Rattle.book_splits.specs.declared.transaction.Txn.{Txn}
use Rattle.book_undo.specs.Book.{Book}
use Rattle.book_export.specs.Entries.{lines_at}
use Rattle.book_export.specs.Names.{journal_path}
use Rattle.book_export.specs.Prices.{price_line}
use Rattle.book_export.specs.Symbols.{commodity_lines}
use Rattle.book_export.specs.declared.error.ExportError.{ExportError}
use Rattle.book_export.specs.declared.error.ExportError.TheVariants.{Memory, Output}

-- ---- the order of the transactions

-- The transactions by number: the day of each, and its number.
abbrev pub dated : List (ℕ × Txn) → List (ℤ × ℕ)
dated transactions = map (λ e. (e.1.day, e.0)) transactions

-- Those of one day.
abbrev pub on_day : ℤ → List (ℤ × ℕ) → List (ℤ × ℕ)
on_day day all = filter (λ e. int_eq e.0 day) all

-- Transactions stand by day: no day is before the one in front of it, and on each day they are all those of that day,
-- as they stood before. There is one such order.
pub record AreByDay (all order : List (ℤ × ℕ)) : Type 0 where
  pub rise : IsSortedBy (λ one other. int_lt one.0 other.0) order
  pub each : (day : ℤ) → on_day day order ≡ on_day day all

-- ---- the text

-- The directive of an account; the root has none, since no split stands on it.
abbrev pub account_line : List (ℕ × Account) → ℕ × Account → List ℕ
account_line accounts entry =
    if is_none entry.1.parent then [] else codes "account " ++ journal_path accounts entry.0 ++ 10 ∷ []

-- The lines before the transactions: all commodities, all accounts, hidden ones too, and all prices, each by number.
abbrev pub commodities_text : Book → List ℕ
commodities_text book = flat_map (λ e. commodity_lines e.1) book.commodities

abbrev pub accounts_text : Book → List ℕ
accounts_text book = flat_map (account_line book.accounts) book.accounts

abbrev pub prices_text : Book → List ℕ
prices_text book = flat_map (λ e. price_line book.commodities e.1) book.prices

-- The transactions in an order.
abbrev pub transactions_text : Book → List (ℤ × ℕ) → List ℕ
transactions_text book order = flat_map (λ e. lines_at book e.1) order

-- The journal of a book with its transactions in an order: from its prices on, from its accounts on, and all of it.
abbrev pub text_from_prices : Book → List (ℤ × ℕ) → List ℕ
text_from_prices book order = prices_text book ++ transactions_text book order

abbrev pub text_from_accounts : Book → List (ℤ × ℕ) → List ℕ
text_from_accounts book order = accounts_text book ++ text_from_prices book order

unfoldable pub export_text : Book → List (ℤ × ℕ) → List ℕ
export_text book order = commodities_text book ++ text_from_accounts book order

-- A text is the journal of a book: that with its transactions by day, and on one day by number.
pub record IsExport (book : Book) (text : List ℕ) : Type 0 where
  pub order : List (ℤ × ℕ)
  pub by_day : AreByDay (dated book.transactions) order
  pub are : text ≡ export_text book order

-- ---- what a call writes of a text

-- The first bytes of a text were written, perhaps none of them and perhaps all.
pub record WroteFront (old new : List ℕ → Type 0) (text : List ℕ) : Type 0 where
  pub front : List ℕ
  pub rest : List ℕ
  pub parts : text ≡ front ++ rest
  pub wrote : Wrote old new front

-- What was written of a text by how the call ended: all of it; where the output failed a part, which isn't all; and out
-- of memory what comes before some place.
abbrev pub HasWritten : (List ℕ → Type 0) → (List ℕ → Type 0) → List ℕ → Result Unit ExportError → Type 0
HasWritten old new text (Ok _) = Wrote old new text
HasWritten old new text (Err Output) = WrotePart old new text
HasWritten old new text (Err Memory) = WroteFront old new text

-- The output's count of faults rose exactly where the call says that the output failed.
abbrev pub HasFault : ℕ → ℕ → Result Unit ExportError → Type 0
HasFault before now (Ok _) = now ≡ before
HasFault before now (Err Output) = Rose before now
HasFault before now (Err Memory) = now ≡ before

-- What was written of the journal of a book. Out of memory before the first line, that is nothing, which begins every
-- text.
abbrev pub HasExported : (List ℕ → Type 0) → (List ℕ → Type 0) → Book → Result Unit ExportError → Type 0
HasExported old new book result =
    ((text : List ℕ) × IsExport book text × HasWritten old new text result)
    ⊎ ((result ≡ Err Memory) × Wrote old new [])

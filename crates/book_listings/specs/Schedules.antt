-- The schedules of a book as a table: each with its number, its next day, its end, and what it posts (GnuCash Manual,
-- scheduled transactions).
use Rattle.std.specs.Prelude.{ℕ, ◌≡◌, ℤ, List, [], ◌∷◌, ◌++◌, map, codes, Option, All}
use Rattle.std.specs.Fmt.{decimal}
use Rattle.std.specs.Int.{IsInRange}
use Rattle.std.specs.Option.{option_map_or}
use Rattle.book_commodity.specs.Day.{day_text}
use Rattle.book_next_day.specs.Ahead.{IsNextDay}
use Rattle.book_reports.specs.Measure.{commodity_of, name_of}
use Rattle.book_reports.specs.declared.form.Form.{Form}
use Rattle.book_reports.specs.declared.form.Form.TheVariants.{Csv, Plain}
use Rattle.book_schedule.specs.declared.timing.End.{End}
use Rattle.book_schedule.specs.declared.timing.End.TheVariants.{Never, Until, After}
use Rattle.book_splits.specs.declared.split.Split.{Split}
use Rattle.book_splits.specs.declared.transaction.Txn.{Txn}
use Rattle.book_table.specs.Columns.{table_text}
use Rattle.book_table.specs.declared.columns.Side.{Side}
use Rattle.book_table.specs.declared.columns.Side.TheVariants.{Free, Left, Right}
use Rattle.book_undo.specs.Book.{Book}
use Rattle.book_undo.specs.declared.schedule.Schedule.{Schedule}
use Rattle.book_listings.specs.Accounts.{name_in}
use Rattle.book_listings.specs.Journal.{amount_in, other_quantity}

-- The recurrences of each of these schedules step on: every so many steps, from 1 to 10,000.
abbrev pub AreTimed : List (ℕ × Schedule) → Type 0
AreTimed schedules = All (λ entry. All (λ r. IsInRange 1 10000 r.every) entry.1.timing.recurrences) schedules

-- The end of a schedule: its last day; or how many occurrences were made, and how many there will have been; empty,
-- where it has none.
abbrev pub end_text : End → ℕ → List ℕ
end_text Never made = []
end_text (Until last) made = day_text last
end_text (After count) made = decimal made ++ (codes " of " ++ decimal count)

-- The next day of a schedule; empty, where it has ended.
abbrev pub next_text : Option ℤ → List ℕ
next_text next = option_map_or day_text next []

-- ---- the rows for a person

-- The row of a schedule itself: its number, its next day, its end, the currency in which it posts, its name, and the
-- description of what it posts.
abbrev pub head_row : Book → ℕ → Schedule → Option ℤ → List (List ℕ)
head_row book number schedule next =
    decimal number
    ∷ next_text next
    ∷ end_text schedule.timing.end schedule.timing.made
    ∷ name_of book.commodities schedule.template.currency
    ∷ []
    ∷ []
    ∷ schedule.name
    ∷ schedule.template.description
    ∷ []

-- The row of a split that it posts: its value, its quantity, the number of its account, the account and the memo.
abbrev pub split_row : Book → Txn → Split → List (List ℕ)
split_row book template split =
    []
    ∷ []
    ∷ []
    ∷ amount_in book template.currency split.value
    ∷ other_quantity book template split
    ∷ decimal split.account
    ∷ name_in book split.account
    ∷ split.memo
    ∷ []

abbrev pub plain_rows : Book → ℕ → Schedule → Option ℤ → List (List (List ℕ))
plain_rows book number schedule next =
    head_row book number schedule next ∷ map (split_row book schedule.template) schedule.template.splits

-- ---- the rows for a program: one for each split, with what its schedule has

abbrev pub record_row : Book → ℕ → Schedule → Option ℤ → Split → List (List ℕ)
record_row book number schedule next split =
    decimal number
    ∷ schedule.name
    ∷ next_text next
    ∷ end_text schedule.timing.end schedule.timing.made
    ∷ schedule.template.description
    ∷ name_of book.commodities schedule.template.currency
    ∷ decimal split.account
    ∷ name_in book split.account
    ∷ amount_in book schedule.template.currency split.value
    ∷ amount_in book (commodity_of book split.account) split.quantity
    ∷ name_of book.commodities (commodity_of book split.account)
    ∷ split.memo
    ∷ []

abbrev pub rows_of : Form → Book → ℕ → Schedule → Option ℤ → List (List (List ℕ))
rows_of Plain book number schedule next = plain_rows book number schedule next
rows_of Csv book number schedule next = map (record_row book number schedule next) schedule.template.splits

-- Rows are those of schedules: of the first one with its next day, and behind them those of the others.
abbrev pub AreRows : Form → Book → List (ℕ × Schedule) → List (List (List ℕ)) → Type 0
AreRows form book [] rows = rows ≡ []
AreRows form book (entry ∷ entries) rows =
    (next : Option ℤ) × (more : List (List (List ℕ))) × IsNextDay entry.1.timing next
    × (rows ≡ rows_of form book entry.0 entry.1 next ++ more) × AreRows form book entries more

-- ---- the text

abbrev pub columns : Form → List (List ℕ)
columns Plain =
    codes "number" ∷ codes "next" ∷ codes "end" ∷ codes "value" ∷ codes "quantity" ∷ codes "account"
    ∷ codes "name" ∷ codes "description" ∷ []
columns Csv =
    codes "schedule" ∷ codes "name" ∷ codes "next" ∷ codes "end" ∷ codes "description" ∷ codes "currency"
    ∷ codes "account" ∷ codes "path" ∷ codes "value" ∷ codes "quantity" ∷ codes "commodity" ∷ codes "memo" ∷ []

abbrev pub sides : List Side
sides = Right ∷ Left ∷ Left ∷ Right ∷ Right ∷ Right ∷ Left ∷ Free ∷ []

-- A text shows the schedules of a book, by number.
pub record AreSchedules (book : Book) (form : Form) (text : List ℕ) : Type 0 where
  pub rows : List (List (List ℕ))
  pub of_all : AreRows form book book.schedules rows
  pub are : text ≡ table_text form sides (columns form ∷ rows)

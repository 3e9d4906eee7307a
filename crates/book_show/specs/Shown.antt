-- What is shown of the present book of a keeper's rows: what is written of the answer to a question.
use Rattle.std.specs.Prelude.{◌≡◌, ◌⊎◌, List, [], ℕ, Option, Some, None, Result, Ok, Err}
use Rattle.book_keeper.specs.Faults.{Rose}
use Rattle.book_keeper.specs.Stream.{Wrote, WrotePart}
use Rattle.book_keeper.specs.declared.row.Row.{Row}
use Rattle.book_reports.specs.declared.form.Form.{Form}
use Rattle.book_export.specs.Export.{IsExport, WroteFront}
use Rattle.book_listings.specs.Account.{account_text}
use Rattle.book_listings.specs.Accounts.{accounts_text}
use Rattle.book_listings.specs.Check.{check_text}
use Rattle.book_listings.specs.Command.{command_text}
use Rattle.book_listings.specs.Commodities.{commodities_text, prices_text}
use Rattle.book_listings.specs.Find.{AreFound}
use Rattle.book_listings.specs.Journal.{IsJournal}
use Rattle.book_show.specs.Opening.{AreRefused, HaveBook}
use Rattle.book_listings.specs.Schedules.{AreSchedules}
use Rattle.book_show.specs.declared.opening.Opened.{Opened}
use Rattle.book_show.specs.declared.question.Question.{Question}
use Rattle.book_show.specs.declared.question.Question.TheVariants.{Account, Accounts, Check, Command, Commodities}
use Rattle.book_show.specs.declared.question.Question.TheVariants.{Export, Find, Journal, Prices}
use Rattle.book_show.specs.declared.question.Question.TheVariants.{Schedules}
use Rattle.book_show.specs.declared.showing.ShowError.{ShowError}
use Rattle.book_show.specs.declared.showing.ShowError.TheVariants as error

-- There is a text, and this holds of it.
abbrev pub IsSomeText : Option (List ℕ) → (List ℕ → Type 0) → Type 0
IsSomeText (Some text) Is = Is text
IsSomeText None Is = ⊥

-- The answer of a book to a question: a text, or none where the book has nothing of the number that is asked for.
abbrev pub Answers : Opened → Question → Form → Option (List ℕ) → Type 0
Answers now Accounts form answer = answer ≡ Some (accounts_text now.book form)
Answers now Commodities form answer = answer ≡ Some (commodities_text now.book form)
Answers now Prices form answer = answer ≡ Some (prices_text now.book form)
Answers now Schedules form answer = IsSomeText answer (AreSchedules now.book form)
Answers now (Journal days) form answer = IsSomeText answer (IsJournal now.book days form)
Answers now (Find sought) form answer = IsSomeText answer (AreFound now.book sought form)
Answers now (Account number) form answer = answer ≡ account_text now.book number form
Answers now (Command number) form answer = answer ≡ command_text now.book number
Answers now Export form answer = IsSomeText answer (IsExport now.book)
Answers now Check form answer = answer ≡ Some (check_text now.book now.version)

-- ---- what a call writes of an answer

-- What was written of the answer of which this holds, by how the call ended: all its text; nothing, where the answer is
-- that there is none; where the output failed a part of its text, which isn't all; and out of memory its first bytes,
-- or nothing. `old` and `new` are the lists of bytes that the output may have been given, before and now.
abbrev pub HasAnswered :
    (List ℕ → Type 0) → (List ℕ → Type 0) → (Option (List ℕ) → Type 0) → Result Unit ShowError → Type 0
HasAnswered old new Is (Ok _) = (text : List ℕ) × Is (Some text) × Wrote old new text
HasAnswered old new Is (Err error.Unknown) = Is None × Wrote old new []
HasAnswered old new Is (Err error.Output) = (text : List ℕ) × Is (Some text) × WrotePart old new text
HasAnswered old new Is (Err error.OutOfMemory) =
    ((text : List ℕ) × Is (Some text) × WroteFront old new text) ⊎ Wrote old new []
HasAnswered old new Is (Err (error.Open why)) = ⊥

-- The output's count of faults rose where the call says that the output failed, and else it stayed.
abbrev pub HasFault : ℕ → ℕ → Result Unit ShowError → Type 0
HasFault before now (Ok _) = now ≡ before
HasFault before now (Err error.Unknown) = now ≡ before
HasFault before now (Err error.Output) = Rose before now
HasFault before now (Err error.OutOfMemory) = now ≡ before
HasFault before now (Err (error.Open why)) = now ≡ before

-- What was written of the answer of the present book of rows.
abbrev pub HasAnsweredOf :
    (List ℕ → Type 0) → (List ℕ → Type 0) → List Row → Question → Form → Result Unit ShowError → Type 0
HasAnsweredOf old new rows question form result =
    (now : Opened) × HaveBook rows now × HasAnswered old new (Answers now question form) result

-- What was written of rows: what was of the answer of their present book; or nothing, where the rows are refused.
abbrev pub HasShown :
    (List ℕ → Type 0) → (List ℕ → Type 0) → List Row → Question → Form → Result Unit ShowError → Type 0
HasShown old new rows question form (Ok u) = HasAnsweredOf old new rows question form (Ok u)
HasShown old new rows question form (Err error.Unknown) = HasAnsweredOf old new rows question form (Err error.Unknown)
HasShown old new rows question form (Err error.Output) = HasAnsweredOf old new rows question form (Err error.Output)
HasShown old new rows question form (Err error.OutOfMemory) =
    HasAnsweredOf old new rows question form (Err error.OutOfMemory)
HasShown old new rows question form (Err (error.Open why)) = AreRefused rows why × Wrote old new []

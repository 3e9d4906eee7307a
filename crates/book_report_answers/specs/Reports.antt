-- The reports that can be asked for: the rules of each, and what it is answered from the present book.
use Rattle.std.specs.Prelude.{◌≡◌, ⊤, ℕ, ℤ, pos, negsuc, int_lt, not, Bool, true, false, List, [], ◌∷◌, Option}
use Rattle.std.specs.Prelude.{Some, None}
use Rattle.std.specs.Option.{option_map_or}
use Rattle.book_accounts.specs.Group.{is_security}
use Rattle.book_accounts.specs.declared.account.Account.{Account}
use Rattle.book_commodity.specs.Table.{value_of}
use Rattle.book_commodity.specs.Rules.{broken_where, first_broken}
use Rattle.book_command.specs.declared.answer.Answer.{Answer}
use Rattle.book_command.specs.declared.answer.Answer.TheVariants as answer
use Rattle.book_command.specs.declared.command.Report.{Report}
use Rattle.book_command.specs.declared.command.Report.TheVariants.{Gains, Income, Lots, Register, Sheet, Trial}
use Rattle.book_command.specs.declared.refusal.Refusal.{Refusal}
use Rattle.book_command.specs.declared.refusal.Refusal.TheVariants as refusal
use Rattle.book_command.specs.declared.rule.Rule.{Rule}
use Rattle.book_command.specs.declared.rule.Rule.TheVariants.{Basis, DayRange}
use Rattle.book_reports.specs.Income.{income}
use Rattle.book_reports.specs.LotsText.{gains, lots_text}
use Rattle.book_reports.specs.RegisterText.{register_text}
use Rattle.book_reports.specs.Sheet.{sheet}
use Rattle.book_reports.specs.Trial.{trial}
use Rattle.book_reports.specs.declared.form.Form.{Form}
use Rattle.book_reports.specs.declared.form.Form.TheVariants.{Csv, Plain}
use Rattle.book_step.specs.Accounts.{unknown_account}
use Rattle.book_undo.specs.Book.{Book}

-- A report is laid out in columns, or where it is asked for as comma-separated values.
abbrev pub form_of : Bool → Form
form_of true = Csv
form_of false = Plain

-- The first day of a period: the one that is given, or else the first of all, 1900-01-01.
abbrev pub first_day : Option ℤ → ℤ
first_day (Some day) = day
first_day None = negsuc 25566

-- The last day of a period: the one that is given, or else the last of all, 2199-12-31.
abbrev pub last_day : Option ℤ → ℤ
last_day (Some day) = day
last_day None = pos 84005

-- The first day of a period comes after its last.
abbrev pub day_range : ℤ → ℤ → Option Rule
day_range first last = broken_where (int_lt last first) DayRange

-- The account of a number, if there is one, is no security account.
abbrev pub basis : List (ℕ × Account) → ℕ → Option Rule
basis accounts number =
    broken_where (not (option_map_or (λ account. is_security account.kind) (value_of number accounts) false))
    (Basis number)

-- The rules of a report: its account is one of the book's, that of lots and gains is a security account, and its period
-- has a day.
abbrev pub report_rules : Book → Report → List (Option Rule)
report_rules book (Register account from to csv) =
    unknown_account book.accounts account ∷ day_range (first_day from) (last_day to) ∷ []
report_rules book (Trial day csv) = []
report_rules book (Sheet day csv) = []
report_rules book (Income from to csv) = day_range from to ∷ []
report_rules book (Lots account csv) = unknown_account book.accounts account ∷ basis book.accounts account ∷ []
report_rules book (Gains account from to) =
    unknown_account book.accounts account ∷ basis book.accounts account ∷ day_range from to ∷ []

-- The answer: the text of the report on this book; for gains what sales gained.
abbrev pub report_answer : Book → Report → Answer
report_answer book (Register account from to csv) =
    answer.Register (register_text book account (first_day from) (last_day to) (form_of csv))
report_answer book (Trial day csv) = answer.Trial (trial book day (form_of csv))
report_answer book (Sheet day csv) = answer.Sheet (sheet book day (form_of csv))
report_answer book (Income from to csv) = answer.Income (income book from to (form_of csv))
report_answer book (Lots account csv) = answer.Lots (lots_text book account (form_of csv))
report_answer book (Gains account from to) = answer.Gains (gains book account from to)

-- A refusal of a question comes where the first of its rules that is broken is that one, or out of memory. No keeper is
-- asked.
abbrev pub IsAskRefusal : List (Option Rule) → Refusal → Type 0
IsAskRefusal rules (refusal.Broken rule) = first_broken rules ≡ Some rule
IsAskRefusal rules refusal.Keeper = ⊥
IsAskRefusal rules refusal.OutOfMemory = ⊤

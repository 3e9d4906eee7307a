-- Imports whose steps are known, in a book with an account 3 in euros.
use Rattle.std.proofs.Common.{◌≡◌, ℕ, pos, negsuc, List, [], ◌∷◌, ◌++◌, Some, None, false, codes, refl}
use Rattle.jiff_core.specs.Calendar.{days_from_civil, day_count, days_of_years, days_of_months}
use Rattle.book_accounts.specs.declared.account.Account.{Account}
use Rattle.book_accounts.specs.declared.kind.AccountKind.TheVariants.{Bank}
use Rattle.book_statement.specs.Dates.{date}
use Rattle.book_statement.specs.Keys.{keys_of}
use Rattle.book_statement.specs.Numbers.{number, units, unit_checks}
use Rattle.book_statement.specs.declared.bad.Bad.TheVariants.{NoStatement}
use Rattle.book_statement.specs.declared.binding.Binding.{Binding}
use Rattle.book_statement.specs.declared.statement.Statement.{Statement}
use Rattle.qif_read.specs.Kinds.{is_header, kind_of}
use Rattle.qif_read.specs.QifDate.{behind_spaces, numeral, behind_numeral, is_date_form, year_said, day_named}
use Rattle.qif_read.specs.QifAmount.{unsigned, whole_part, decimal_part, are_commas_placed, without_commas}
use Rattle.qif_read.specs.QifAmount.{is_number, amount_checks, amount}
use Rattle.qif_read.specs.Registers.{is_in_brackets, inside, is_opening_text}
use Rattle.qif_read.specs.Qif.{entry_checks, reading}
use Rattle.book_undo.specs.Book.{Book}
use Rattle.book_command.specs.declared.answer.Answer.{Answer}
use Rattle.book_command.specs.declared.answer.Answer.TheVariants as answer
use Rattle.book_command.specs.declared.command.Format.TheVariants.{QifDayFirst}
use Rattle.book_command.specs.declared.command.Update.TheVariants.{Import}
use Rattle.book_command.specs.declared.rule.Rule.{Rule}
use Rattle.book_command.specs.declared.rule.Rule.TheVariants.{BadStatement, Unbound, WrongCurrency}
use Rattle.book_step.specs.Importing.{import_statements}
use Rattle.book_step.specs.Outcome.{Outcome, Broken, Done}
use Rattle.book_step.specs.State.{State, fresh_state}
use Rattle.book_step.specs.Step.{outcome}

-- what an outcome says: a rule, or an answer with the version after
data Reply : Type 0 where
  Refused : Rule → Reply
  Answered : Answer → ℕ → Reply

abbrev reply : Outcome → Reply
reply (Broken rule) = Refused rule
reply (Done state answer) = Answered answer state.version

abbrev after : State → Outcome → State
after state (Broken rule) = state
after state (Done new answer) = new

abbrev giro : Account
giro = record {
  name = codes "Giro";
  kind = Bank;
  commodity = 1;
  parent = Some 2;
  code = [];
  note = [];
  hidden = false;
  placeholder = false;
  basis = None;
}

-- the book has the account, and perhaps a binding to it
abbrev with_giro : List (ℕ × Binding) → Book → Book
with_giro bindings book =
    record book { accounts = book.accounts ++ (3, giro) ∷ []; bindings = bindings }

abbrev state_with : List (ℕ × Binding) → State
state_with bindings = record { book = with_giro bindings fresh_state.book; next = 5; version = 2 }

abbrev bound : State
bound = state_with ((4, record { text = codes "NL01"; account = 3 }) ∷ [])

-- a statement of an account text and a currency, with one line of 2024-01-05
abbrev january : List ℕ → List ℕ → Statement
january text currency = record {
  account_text = text;
  number = codes "1";
  currency = currency;
  opening = None;
  closing = None;
  day = pos 19753;
  ties = None;
  lines = record {
    day = pos 19727;
    value_day = pos 19727;
    amount = negsuc 19999;
    kind = codes "NTRF";
    ref_own = [];
    ref_bank = [];
    text = codes "Rent";
    category = [];
    parts = [];
  } ∷ [];
}

abbrev in_euros : List Statement
in_euros = january (codes "NL01") (codes "EUR") ∷ []

-- the statement draws a number, and then its line
goes_to_the_binding : reply (import_statements bound [] None in_euros) ≡ Answered (answer.Import (5 ∷ []) (6 ∷ []) 0) 3
unfolding keys_of
goes_to_the_binding = refl

-- the same file again leaves the book
adds_nothing_again :
    reply (import_statements (after bound (import_statements bound [] None in_euros)) [] None in_euros)
    ≡ Answered (answer.Import [] [] 1) 3
unfolding keys_of
adds_nothing_again = refl

-- the account that is given goes before a binding
goes_to_the_given : reply (import_statements (state_with []) [] (Some 3) in_euros)
    ≡ Answered (answer.Import (5 ∷ []) (6 ∷ []) 0) 3
unfolding keys_of
goes_to_the_given = refl

no_binding : reply (import_statements (state_with []) [] None in_euros) ≡ Refused (Unbound (codes "NL01"))
unfolding keys_of
no_binding = refl

-- statement by statement: the currency of the first is asked before the account of the second
first_statement_first :
    reply (import_statements bound [] None (january (codes "NL01") (codes "USD") ∷ january [] (codes "EUR") ∷ []))
    ≡ Refused (WrongCurrency 1)
unfolding keys_of
first_statement_first = refl

abbrev line : List ℕ → List ℕ
line text = text ++ 10 ∷ []

-- a file in QIF, day before month, in euros
qif_file :
    reply (outcome bound (Import (QifDayFirst 1)
    (line (codes "!Type:Bank") ++ line (codes "D15/1'24") ++ line (codes "T-34.50") ++ line (codes "^")) (Some 3)))
    ≡ Answered (answer.Import (5 ∷ []) (6 ∷ []) 0) 3
unfolding reading is_header kind_of behind_spaces numeral behind_numeral is_date_form year_said day_named unsigned
    whole_part decimal_part are_commas_placed without_commas is_number amount_checks amount is_in_brackets inside
    is_opening_text entry_checks date number units unit_checks days_from_civil day_count days_of_years
    days_of_months keys_of
qif_file = refl

no_file : reply (outcome bound (Import (QifDayFirst 1) [] (Some 3)))
    ≡ Refused (BadStatement (record { line = 0; bad = NoStatement }))
unfolding reading is_header kind_of
no_file = refl

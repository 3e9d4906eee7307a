-- The machine of whole books: what a command comes to. No edit and no inverse stands here.
use Rattle.std.specs.Prelude.{ℕ, ◌+◌, ◌-◌, ◌==◌, if◌then◌else◌, List, [], ◌∷◌, Option, Some, None, length, take}
use Rattle.book_undo.specs.Book.{Book}
use Rattle.book_commodity.specs.Rules.{first_broken}
use Rattle.book_splits.specs.Balance.{splits_of}
use Rattle.book_command.specs.declared.answer.Answer.{Answer}
use Rattle.book_command.specs.declared.answer.Answer.TheVariants as answer
use Rattle.book_command.specs.declared.command.Command.{Command}
use Rattle.book_command.specs.declared.command.What.{What}
use Rattle.book_command.specs.declared.command.What.TheVariants.{Update, Undo, Redo, Price, Report, Due, Status}
use Rattle.book_command.specs.declared.command.What.TheVariants.{Lines, Statements}
use Rattle.book_command.specs.declared.command.What.TheVariants.{Recons, Voided}
use Rattle.book_command.specs.declared.rule.Rule.{Rule}
use Rattle.book_command.specs.declared.rule.Rule.TheVariants.{NothingToUndo, NothingToRedo}
use Rattle.book_step.specs.BankLines.{account_asked, lines_of, statements_of}
use Rattle.book_step.specs.Outcome.{Outcome, numbers}
use Rattle.book_step.specs.Outcome as outcome
use Rattle.book_command.specs.Rates.{rate_on}
use Rattle.book_step.specs.Prices.{rate_rules}
use Rattle.book_step.specs.Reconciling.{recons_of}
use Rattle.book_step.specs.Schedules.{day_rules, due_of}
use Rattle.book_step.specs.State.{State, fresh_book}
use Rattle.book_step.specs.Step.{outcome as outcome_of, stale}
use Rattle.book_step.specs.Voiding.{voided_of}
use Rattle.book_report_answers.specs.Reports.{report_answer, report_rules}

-- The past books, the nearest first; the present book; the later ones, the nearest first; the number that the next
-- thing gets; the count of the changes so far; and how many steps lead from the fresh book to the present one.
pub record Machine : Type 0 where
  pub past : List Book
  pub book : Book
  pub later : List Book
  pub next : ℕ
  pub version : ℕ
  pub position : ℕ

-- The machine of a fresh book.
abbrev pub fresh : Machine
fresh = record { past = []; book = fresh_book; later = []; next = 3; version = 0; position = 0 }

-- The state from which a command steps.
abbrev pub present : Machine → State
present machine = record { book = machine.book; next = machine.next; version = machine.version }

-- What a command comes to: a broken rule, or a machine and an answer.
pub data Reply : Type 0 where
  Broken : Rule → Reply
  Done : Machine → Answer → Reply

-- The rule, if one is broken, or else what follows.
abbrev pub unless_broken : Option Rule → Reply → Reply
unless_broken (Some rule) reply = Broken rule
unless_broken None reply = reply

-- The machine after a change: the book before it is a past one, of which the last 256 stay, and there are no later
-- books any more.
abbrev pub changed : Machine → State → Machine
changed machine new = record {
  past = take 256 (machine.book ∷ machine.past);
  book = new.book;
  later = [];
  next = new.next;
  version = new.version;
  position = machine.position + 1;
}

-- An update that leaves the version leaves all, the later books too.
abbrev pub updated : Machine → Outcome → Reply
updated machine (outcome.Broken rule) = Broken rule
updated machine (outcome.Done new answer) =
    Done (if new.version == machine.version then machine else changed machine new) answer

-- The nearest past book becomes the present one, which becomes the nearest later one. The version counts this too.
abbrev pub undone : List Book → Machine → Reply
undone [] machine = Broken NothingToUndo
undone (book ∷ past) machine =
    unless_broken (numbers (present machine) 0)
    (Done (record {
      past = past;
      book = book;
      later = machine.book ∷ machine.later;
      next = machine.next;
      version = machine.version + 1;
      position = machine.position - 1;
    })
    answer.Undo)

-- And the other way.
abbrev pub redone : List Book → Machine → Reply
redone [] machine = Broken NothingToRedo
redone (book ∷ later) machine =
    unless_broken (numbers (present machine) 0)
    (Done (record {
      past = machine.book ∷ machine.past;
      book = book;
      later = later;
      next = machine.next;
      version = machine.version + 1;
      position = machine.position + 1;
    })
    answer.Redo)

-- A question: the first of its rules that is broken, or its answer, which leaves the machine as it is.
abbrev pub asked : Machine → List (Option Rule) → Answer → Reply
asked machine rules answer = unless_broken (first_broken rules) (Done machine answer)

-- How much of each kind there is.
abbrev pub status : Machine → Answer
status machine =
    answer.Status (length machine.book.accounts) (length machine.later) (length machine.book.lines)
    (length machine.past) (length machine.book.reconciliations) (length (splits_of machine.book.transactions))
    (length machine.book.transactions)

-- What is asked comes to this.
abbrev pub reply : Machine → What → Reply
reply machine (Update update) = updated machine (outcome_of (present machine) update)
reply machine Undo = undone machine.past machine
reply machine Redo = redone machine.later machine
reply machine (Price commodity currency day) =
    asked machine (rate_rules machine.book commodity currency)
    (answer.Price (rate_on machine.book.prices commodity currency day))
reply machine (Report report) =
    asked machine (report_rules machine.book report) (report_answer machine.book report)
reply machine (Lines account) =
    asked machine (account_asked machine.book account) (answer.Lines (lines_of account machine.book.lines))
reply machine (Statements account) =
    asked machine (account_asked machine.book account)
    (answer.Statements (statements_of account machine.book.statements))
reply machine (Recons account) =
    asked machine (account_asked machine.book account) (answer.Recons (recons_of account machine.book))
reply machine (Voided account) =
    asked machine (account_asked machine.book account) (answer.Voided (voided_of account machine.book.transactions))
reply machine (Due upto) =
    asked machine (day_rules upto machine.book.schedules) (answer.Due (due_of machine.book upto))
reply machine Status = Done machine (status machine)

-- The step of a command: the version is asked first.
abbrev pub step : Machine → Command → Reply
step machine command = unless_broken (stale machine.version command.at) (reply machine command.what)

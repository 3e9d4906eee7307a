-- How a machine goes on by a command that is done: it stays, it is changed, or it goes to the nearest past book or to
-- the nearest later one.
use Rattle.std.proofs.Common.{◌≡◌, ◌+◌, ◌-◌, ◌==◌, Bool, true, false, if◌then◌else◌, List, [], ◌∷◌, Option, Some, None}
use Rattle.std.proofs.Common.{refl}
use Rattle.book_commodity.specs.Rules.{first_broken}
use Rattle.book_undo.specs.Book.{Book}
use Rattle.book_command.specs.Rates.{rate_on}
use Rattle.book_command.specs.declared.answer.Answer.{Answer}
use Rattle.book_command.specs.declared.answer.Answer.TheVariants as answers
use Rattle.book_command.specs.declared.command.Command.{Command}
use Rattle.book_command.specs.declared.command.Update.{Update}
use Rattle.book_command.specs.declared.command.What.{What}
use Rattle.book_command.specs.declared.command.What.TheVariants as ask
use Rattle.book_command.specs.declared.rule.Rule.{Rule}
use Rattle.book_step.specs.BankLines.{account_asked, lines_of, statements_of}
use Rattle.book_step.specs.Outcome as outcomes
use Rattle.book_step.specs.Outcome.{Outcome, numbers}
use Rattle.book_step.specs.Prices.{rate_rules}
use Rattle.book_step.specs.Reconciling.{recons_of}
use Rattle.book_step.specs.Voiding.{voided_of}
use Rattle.book_step.specs.Schedules.{day_rules, due_of}
use Rattle.book_step.specs.State.{State}
use Rattle.book_step.specs.Step.{outcome, stale}
use Rattle.book_report_answers.specs.Reports.{report_answer, report_rules}
use Rattle.book_engine.specs.Machine.{Done, Machine, Reply, asked, changed, present, redone, reply, step}
use Rattle.book_engine.specs.Machine.{undone, unless_broken, updated}

-- The machine with this past book as the present one, before which these stand.
abbrev pub gone_back : Book → List Book → Machine → Machine
gone_back book past machine = record {
  past = past;
  book = book;
  later = machine.book ∷ machine.later;
  next = machine.next;
  version = machine.version + 1;
  position = machine.position - 1;
}

-- The machine with this later book as the present one, after which these stand.
abbrev pub gone_forth : Book → List Book → Machine → Machine
gone_forth book later machine = record {
  past = machine.book ∷ machine.past;
  book = book;
  later = later;
  next = machine.next;
  version = machine.version + 1;
  position = machine.position + 1;
}

-- How a machine comes to another by what is asked.
pub data Move (machine new : Machine) (what : What) : Type 0 where
  Stays : machine ≡ new → Move machine new what
  Changes :
      (update : Update) (state : State) (given : Answer) → what ≡ ask.Update update
      → outcome (present machine) update ≡ outcomes.Done state given → changed machine state ≡ new
      → Move machine new what
  Undoes :
      (book : Book) (past : List Book) → what ≡ ask.Undo → machine.past ≡ book ∷ past
      → numbers (present machine) 0 ≡ None → gone_back book past machine ≡ new → Move machine new what
  Redoes :
      (book : Book) (later : List Book) → what ≡ ask.Redo → machine.later ≡ book ∷ later
      → numbers (present machine) 0 ≡ None → gone_forth book later machine ≡ new → Move machine new what

unless-done :
    (rule : Option Rule) (comes : Reply) (new : Machine) (given : Answer) → unless_broken rule comes ≡ Done new given
    → (rule ≡ None) × (comes ≡ Done new given)
unless-done None comes new given e = (refl, e)
unless-done (Some rule) comes new given e = absurd cc

asked-moves :
    (machine : Machine) (rules : List (Option Rule)) (said : Answer) (what : What) (new : Machine) (given : Answer)
    → asked machine rules said ≡ Done new given → Move machine new what
asked-moves machine rules said what new given e =
    let both = (unless-done (first_broken rules) (Done machine said) new given e).1 in Stays cc

either-moves :
    (same : Bool) (machine : Machine) (update : Update) (state : State) (said : Answer) (new : Machine)
    (given : Answer) → outcome (present machine) update ≡ outcomes.Done state said
    → Done (if same then machine else changed machine state) said ≡ Done new given
    → Move machine new (ask.Update update)
either-moves true machine update state said new given is e = Stays cc
either-moves false machine update state said new given is e = Changes update state said refl is cc

updated-moves :
    (machine : Machine) (update : Update) (comes : Outcome) (new : Machine) (given : Answer)
    → outcome (present machine) update ≡ comes → updated machine comes ≡ Done new given
    → Move machine new (ask.Update update)
updated-moves machine update (outcomes.Broken rule) new given is e = absurd cc
updated-moves machine update (outcomes.Done state said) new given is e =
    either-moves (state.version == machine.version) machine update state said new given is e

undone-moves :
    (past : List Book) (machine new : Machine) (given : Answer) → machine.past ≡ past
    → undone past machine ≡ Done new given → Move machine new ask.Undo
undone-moves [] machine new given is e = absurd cc
undone-moves (book ∷ past) machine new given is e =
    let both = unless-done (numbers (present machine) 0) (Done (gone_back book past machine) answers.Undo) new given e
    in
    let leads = both.1 in
    Undoes book past refl is both.0 cc

redone-moves :
    (later : List Book) (machine new : Machine) (given : Answer) → machine.later ≡ later
    → redone later machine ≡ Done new given → Move machine new ask.Redo
redone-moves [] machine new given is e = absurd cc
redone-moves (book ∷ later) machine new given is e =
    let both = unless-done (numbers (present machine) 0) (Done (gone_forth book later machine) answers.Redo) new given e
    in
    let leads = both.1 in
    Redoes book later refl is both.0 cc

reply-moves :
    (machine : Machine) (what : What) (new : Machine) (given : Answer) → reply machine what ≡ Done new given
    → Move machine new what
reply-moves machine (ask.Update update) new given e =
    updated-moves machine update (outcome (present machine) update) new given refl e
reply-moves machine ask.Undo new given e = undone-moves machine.past machine new given refl e
reply-moves machine ask.Redo new given e = redone-moves machine.later machine new given refl e
reply-moves machine (ask.Price commodity currency day) new given e =
    asked-moves machine (rate_rules machine.book commodity currency)
    (answers.Price (rate_on machine.book.prices commodity currency day)) (ask.Price commodity currency day) new given e
reply-moves machine (ask.Report report) new given e =
    asked-moves machine (report_rules machine.book report) (report_answer machine.book report) (ask.Report report) new
    given e
reply-moves machine (ask.Lines account) new given e =
    asked-moves machine (account_asked machine.book account) (answers.Lines (lines_of account machine.book.lines))
    (ask.Lines account) new given e
reply-moves machine (ask.Statements account) new given e =
    asked-moves machine (account_asked machine.book account)
    (answers.Statements (statements_of account machine.book.statements)) (ask.Statements account) new given e
reply-moves machine (ask.Recons account) new given e =
    asked-moves machine (account_asked machine.book account) (answers.Recons (recons_of account machine.book))
    (ask.Recons account) new given e
reply-moves machine (ask.Voided account) new given e =
    asked-moves machine (account_asked machine.book account)
    (answers.Voided (voided_of account machine.book.transactions)) (ask.Voided account) new given e
reply-moves machine (ask.Due upto) new given e =
    asked-moves machine (day_rules upto machine.book.schedules) (answers.Due (due_of machine.book upto)) (ask.Due upto)
    new given e
reply-moves machine ask.Status new given e = Stays cc

-- A step that is done is one of these moves.
pub step-moves :
    (machine : Machine) (command : Command) (new : Machine) (given : Answer) → step machine command ≡ Done new given
    → Move machine new command.what
step-moves machine command new given e =
    reply-moves machine command.what new given
    (unless-done (stale machine.version command.at) (reply machine command.what) new given e).1

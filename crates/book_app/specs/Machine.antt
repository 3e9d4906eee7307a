-- How the machine of whole books answers a line, a request, and a statement file: computed afresh from the machine
-- before it.
use Rattle.std.specs.Prelude.{◌≡◌, ℕ, List, [], ◌∷◌, None, Some}
use Rattle.book_command.specs.declared.answer.Answer.{Answer}
use Rattle.book_command.specs.declared.command.Command.{Command}
use Rattle.book_command.specs.declared.command.Update.TheVariants as update
use Rattle.book_command.specs.declared.command.What.TheVariants as what
use Rattle.book_command.specs.declared.wire_error.WireError.TheVariants as fault
use Rattle.book_lines.specs.Marks.{Mark, Answered, Memory, Keeper, memory_answer, keeper_answer}
use Rattle.book_lines.specs.Transcript.{Answers}
use Rattle.book_engine.specs.Acting.{IsChange}
use Rattle.book_engine.specs.Machine.{Broken, Done, Machine, Reply, step}
use Rattle.book_texts.specs.AnswerText.{answer_bytes}
use Rattle.book_texts.specs.RefusedText.{fault_bytes, too_long_bytes}
use Rattle.book_texts.specs.RuleText.{rule_bytes}
use Rattle.book_statement.specs.Texts.{text_of_bytes}
use Rattle.book_app.specs.declared.words.ImportWords.{ImportWords}
use Rattle.book_wire.specs.Asked.{Asked, Asks, NotJson, NotCommand, LineAsks}
use Rattle.book_http.specs.declared.next.Request.{Request}
use Rattle.book_requests.specs.Requests.{RequestAsks}

-- A reply as text: a broken rule with the version, which leaves the machine; or the answer with the version after.
abbrev pub IsOutcome : Reply → Machine → List ℕ → Machine → Type 0
IsOutcome (Broken rule) old text new = (text ≡ rule_bytes rule old.version) × (new ≡ old)
IsOutcome (Done after answer) old text new = (text ≡ answer_bytes answer after.version) × (new ≡ after)

-- The reply to what a line asks: that to its command, or the refusal of a line that asks for none, which leaves the
-- machine.
abbrev pub IsReply : Asked → Machine → List ℕ → Machine → Type 0
IsReply (Asks command) old text new = IsOutcome (step old command) old text new
IsReply NotJson old text new = (fault_bytes fault.NotJson ≡ Some text) × (new ≡ old)
IsReply (NotCommand name) old text new = (fault_bytes (fault.NotCommand name) ≡ Some text) × (new ≡ old)

-- The machine replies to the bytes of a line by a text.
pub record Replies (old : Machine) (bytes text : List ℕ) (new : Machine) : Type 0 where
  pub asked : Asked
  pub read : LineAsks bytes asked
  pub reply : IsReply asked old text new

-- A line changes the machine: it asks for a command whose step leads to another one.
pub record Changes (old : Machine) (bytes : List ℕ) : Type 0 where
  pub command : Command
  pub read : LineAsks bytes (Asks command)
  pub change : IsChange old (step old command)

-- The machine answers a line as the mark says: a line for which there was no memory leaves it, and so does one
-- whose change the keeper failed to keep; a line of more than 8 MiB is refused by its length and leaves it too.
abbrev pub answers : Machine → List ℕ → Mark → List ℕ → Machine → Type 0
answers old line mark text new =
    Answers Replies too_long_bytes (λ before after. after ≡ before) Changes old line mark text new

-- The status that answers an outcome: a broken rule is a conflict.
abbrev pub status_of_outcome : Reply → ℕ
status_of_outcome (Broken rule) = 409
status_of_outcome (Done after answer) = 200

-- The status that answers what is asked: what is no command is a bad request.
abbrev pub status_of_asked : Machine → Asked → ℕ
status_of_asked old (Asks command) = status_of_outcome (step old command)
status_of_asked old NotJson = 400
status_of_asked old (NotCommand name) = 400

-- The machine replies to a request by a status and a body: the text that it replies by to a line that asks the same.
pub record Responds (old : Machine) (request : Request) (status : ℕ) (body : List ℕ) (new : Machine) : Type 0 where
  pub asked : Asked
  pub read : RequestAsks request asked
  pub status_is : status ≡ status_of_asked old asked
  pub reply : IsReply asked old body new

-- A request changes the machine: it asks for a command whose step leads to another one.
pub record RequestChanges (old : Machine) (request : Request) : Type 0 where
  pub command : Command
  pub read : RequestAsks request (Asks command)
  pub change : IsChange old (step old command)

-- The machine answers a request as the mark says: one for which there was no memory leaves it, by the status 507; and
-- so does one whose change the keeper failed to keep, by the status 503.
abbrev pub request_answers : Machine → Request → Mark → ℕ → List ℕ → Machine → Type 0
request_answers old request Answered status body new = Responds old request status body new
request_answers old request Memory status body new = (status ≡ 507) × (body ≡ memory_answer) × (new ≡ old)
request_answers old request Keeper status body new =
    (status ≡ 503) × (body ≡ keeper_answer) × (new ≡ old) × RequestChanges old request

-- The commands are done one after the other, from a machine to another.
abbrev pub AreDone : Machine → List Command → Machine → Type 0
AreDone old [] new = new ≡ old
AreDone old (command ∷ more) new =
    (mid : Machine) × (given : Answer) × (step old command ≡ Done mid given) × AreDone mid more new

-- Commands lead from a machine to another.
abbrev pub Leads : Machine → Machine → Type 0
Leads old new = (commands : List Command) × AreDone old commands new

-- The command of an import: the format and the account that the words name, and this text.
unfoldable pub import_of_text : ImportWords → List ℕ → Command
import_of_text words text = record {
  at = None;
  what = what.Update (update.Import words.format text words.account);
}

-- The command of an import of a file of these bytes.
abbrev pub import_command : ImportWords → List ℕ → Command
import_command words bytes = import_of_text words (text_of_bytes bytes)

-- The machine answers the bytes of a statement file as the mark says: as its import, or that there was no memory, or
-- that the keeper failed to keep the change which the import makes. The last two leave the machine.
abbrev pub import_answers : ImportWords → Machine → List ℕ → Mark → List ℕ → Machine → Type 0
import_answers words old bytes Answered text new = IsOutcome (step old (import_command words bytes)) old text new
import_answers words old bytes Memory text new = (text ≡ memory_answer) × (new ≡ old)
import_answers words old bytes Keeper text new =
    (text ≡ keeper_answer) × (new ≡ old) × IsChange old (step old (import_command words bytes))

-- What holds of all books after lines were answered and files imported, from the fresh machine on.
use Rattle.std.proofs.Common.{◌≡◌, ◌⊎◌, ℕ, ◌^◌, Bool, true, false, nat_lt, IsTrue, MatchBool, List, [], ◌∷◌, Option}
use Rattle.std.proofs.Common.{inl, inr, refl, sym, ap, ◌∙◌, subst, length}
use Rattle.book_command.specs.declared.answer.Answer.{Answer}
use Rattle.book_command.specs.declared.command.Command.{Command}
use Rattle.book_keeper.specs.declared.row.Row.{Row}
use Rattle.book_lines.specs.Lines.{lines, sent, whole_lines}
use Rattle.book_lines.specs.Marks.{Answered, Keeper, Mark, Memory, mark_of, marks}
use Rattle.book_lines.specs.RunClause.{Moment, RunClause, at}
use Rattle.book_lines.specs.Transcript.{IsTranscript, Run}
use Rattle.book_lines.specs.WholeClause.{IsOneAnswer, WholeClause}
use Rattle.book_lines.specs.declared.running.RunEnd.{RunEnd}
use Rattle.book_lines.specs.declared.running.RunEnd.TheVariants as end
use Rattle.book_engine.specs.Machine.{Broken, Done, Machine, Reply, fresh, step}
use Rattle.book_engine.specs.Opens.{Opens, OpensTo}
use Rattle.book_wire.specs.Asked.{Asked, Asks, NotCommand, NotJson}
use Rattle.book_texts.specs.RefusedText.{too_long_bytes}
use Rattle.book_app.specs.Machine.{AreDone, IsOutcome, IsReply, Replies, answers, import_answers}
use Rattle.book_app.specs.Machine.{import_command}
use Rattle.book_app.specs.StatusClause.{IsBookRun, IsImportRun, IsImported, IsLineRun, IsSession, Keeping}
use Rattle.book_app.specs.StatusClause.{HasLed, ImportClause, NowOpensTo, OpenedTo, ServedRows, StatusClause}
use Rattle.book_app.specs.StatusClause.{WorkClause}
use Rattle.book_app.specs.Words.{Import, Lines, Sample, Serve, Work}
use Rattle.book_app.specs.declared.status.Status.{Status}
use Rattle.book_app.specs.declared.status.Status.TheVariants as status
use Rattle.book_app.specs.declared.words.ImportWords.{ImportWords}
use Rattle.book_chain_run.specs.Books.{AreChained, AreSound, AllKeepBroken, AllSumToLast}
use Rattle.book_chain_run.specs.Made.{ByFile, ByLines, ByLinks, HoldsMade, IsMade, Knows, New, OpensMade}
use Rattle.book_one_opening.proofs.OneOpening.{only-machine}
use Rattle.book_chain_run.proofs.StepLaws.{all-books-sum, fresh-all-chained, fresh-all-sound, fresh-keeps-broken}
use Rattle.book_chain_run.proofs.StepLaws.{step-chained, step-keeps-broken, step-sound}

-- ---- one line, and one file

-- A machine stays, or a step of it leads to another.
abbrev Steps : Machine → Machine → Type 0
Steps old new =
    (new ≡ old) ⊎ ((command : Command) × (given : Answer) × (step old command ≡ Done new given))

outcome-leads :
    (command : Command) (old new : Machine) (text : List ℕ) (comes : Reply) → step old command ≡ comes
    → IsOutcome comes old text new → Steps old new
outcome-leads command old new text (Broken rule) is outcome = inl outcome.1
outcome-leads command old new text (Done after given) is outcome =
    inr (command, given, is ∙ ap (λ (m : Machine). Done m given) (sym outcome.1))

reply-leads : (asked : Asked) (old new : Machine) (text : List ℕ) → IsReply asked old text new → Steps old new
reply-leads (Asks command) old new text is = outcome-leads command old new text (step old command) refl is
reply-leads NotJson old new text is = inl is.1
reply-leads (NotCommand name) old new text is = inl is.1

answered-leads :
    (long : Bool) (old new : Machine) (line text : List ℕ)
    → MatchBool long ((text ≡ too_long_bytes (length line)) × (new ≡ old)) (Replies old line text new)
    → Steps old new
answered-leads true old new line text is = inl is.1
answered-leads false old new line text is = reply-leads is.asked old new text is.reply

line-leads :
    (old : Machine) (line : List ℕ) (mark : Mark) (text : List ℕ) (new : Machine) → answers old line mark text new
    → Steps old new
line-leads old line Answered text new is = answered-leads (nat_lt (2 ^ 23) (length line)) old new line text is
line-leads old line Memory text new is = inl is.1
line-leads old line Keeper text new is = inl is.1

file-leads :
    (words : ImportWords) (old : Machine) (bytes : List ℕ) (mark : Mark) (text : List ℕ) (new : Machine)
    → import_answers words old bytes mark text new → Steps old new
file-leads words old bytes Answered text new is =
    let command = import_command words bytes in outcome-leads command old new text (step old command) refl is
file-leads words old bytes Memory text new is = inl is.1
file-leads words old bytes Keeper text new is = inl is.1

-- ---- what holds of each machine that is made

-- The books of a machine are all chained and sound, and from each to the one after it what isn't intact stays so.
record Holds (machine : Machine) : Type 0 where
  chained : AreChained machine
  sound : AreSound machine
  broken : AllKeepBroken machine

leads-hold : (old new : Machine) → Holds old → Steps old new → Holds new
leads-hold old new holds (inl same) = subst Holds (sym same) holds
leads-hold old new holds (inr done) = record {
  chained = step-chained old done.0 new done.1 holds.sound.state holds.chained done.2;
  sound = step-sound old done.0 new done.1 holds.sound done.2;
  broken = step-keeps-broken old done.0 new done.1 holds.sound.state holds.broken done.2;
}

run-holds :
    (old : Machine) (all : List (List ℕ)) (shown : List Mark) (text : List ℕ) (new : Machine) → Holds old
    → Run answers old all shown text new → Holds new
run-holds old [] [] text new holds run = subst Holds (sym run.1) holds
run-holds old [] (mark ∷ others) text new holds run = absurd run
run-holds old (line ∷ more) [] text new holds run = absurd run
run-holds old (line ∷ more) (mark ∷ others) text new holds run =
    run-holds run.1 more others run.2 new (leads-hold old run.1 holds (line-leads old line mark run.0 run.1 run.3))
    run.5

commands-hold :
    (old : Machine) (commands : List Command) (new : Machine) → Holds old → AreDone old commands new → Holds new
commands-hold old [] new holds same = subst Holds (sym same) holds
commands-hold old (command ∷ more) new holds is =
    commands-hold is.0 more new (leads-hold old is.0 holds (inr (command, is.1, is.2))) is.3

made-holds : (machine : Machine) → IsMade machine → Holds machine
made-holds machine New = record {
  chained = fresh-all-chained;
  sound = fresh-all-sound;
  broken = fresh-keeps-broken;
}
made-holds machine (ByLines old new all shown text made run) =
    run-holds old all shown text new (made-holds old made) run
made-holds machine (ByFile words old new bytes text mark made is) =
    leads-hold old new (made-holds old made) (file-leads words old bytes mark text new is)
made-holds machine (ByLinks old new made leads) = commands-hold old leads.0 new (made-holds old made) leads.1

-- The books of a machine that the program makes from nothing are all chained.
pub made-chained : (machine : Machine) → IsMade machine → AreChained machine
made-chained machine made = (made-holds machine made).chained

-- They are all sound.
pub made-sound : (machine : Machine) → IsMade machine → AreSound machine
made-sound machine made = (made-holds machine made).sound

-- From each to the one after it what isn't intact stays so.
pub made-keeps-broken : (machine : Machine) → IsMade machine → AllKeepBroken machine
made-keeps-broken machine made = (made-holds machine made).broken

-- In each, where all reconciliations of an account are intact, the quantities of their lists sum to the last closing
-- balance.
pub made-sums : (machine : Machine) → IsMade machine → AllSumToLast machine
made-sums machine made = all-books-sum machine (made-sound machine made) (made-chained machine made)

-- ---- runs

-- After a transcript of any lines from the fresh machine its books are all chained.
pub transcript-chained :
    (all : List (List ℕ)) (text : List ℕ) (new : Machine) → IsTranscript answers fresh all text new → AreChained new
transcript-chained all text new run =
    made-chained new (ByLines fresh new (sent all) (marks text) text New run)

-- By the end of a run of lines.
clause-made :
    (old new : Moment Machine) (bytes read left text : List ℕ) (ended : RunEnd) → IsMade old.machine
    → RunClause answers old bytes read left text new ended → IsMade new.machine
clause-made old new bytes read left text end.Done made clause =
    ByLines old.machine new.machine (sent (lines bytes)) (marks text) text made clause.2.transcript
clause-made old new bytes read left text end.InputLimit made clause =
    ByLines old.machine new.machine (sent (lines bytes)) (marks text) text made clause.1.transcript
clause-made old new bytes read left text end.InputFault made clause =
    ByLines old.machine new.machine (sent (whole_lines read)) (marks text) text made clause.1.transcript
clause-made old new bytes read left text end.OutputFault made clause =
    ByLines old.machine new.machine _ _ _ made clause.cut.run

-- A run of lines from a machine that the program makes from nothing leads to such a machine, whatever its end is.
pub line_run-made :
    (before after : Moment Machine) (input_before input_after : Option (List ℕ)) (ended : Status)
    → IsMade before.machine → IsLineRun before input_before input_after after ended → IsMade after.machine
line_run-made before after input_before input_after ended made run =
    clause-made before after run.bytes run.read run.left run.text run.ended made run.clause

answer-made :
    (words : ImportWords) (old new : Moment Machine) (bytes text : List ℕ) → IsMade old.machine
    → IsOneAnswer (import_answers words) old bytes text new → IsMade new.machine
answer-made words old new bytes text made is =
    ByFile words old.machine new.machine bytes is.answer (mark_of is.answer) made is.gave.answered

whole-made :
    (words : ImportWords) (old new : Moment Machine) (read left text : List ℕ) (ended : RunEnd)
    → IsMade old.machine → WholeClause (import_answers words) old read left text new ended → IsMade new.machine
whole-made words old new read left text end.Done made clause = answer-made words old new read text made clause.2
whole-made words old new read left text end.OutputFault made clause =
    answer-made words old new read _ made clause.4
whole-made words old new read left text end.InputLimit made clause =
    subst IsMade (sym clause.2.same_machine) made
whole-made words old new read left text end.InputFault made clause =
    subst IsMade (sym clause.2.same_machine) made

-- So does an import.
pub import_run-made :
    (words : ImportWords) (before after : Moment Machine) (input_before input_after : Option (List ℕ)) (ended : Status)
    → IsMade before.machine → IsImportRun words before input_before input_after after ended → IsMade after.machine
import_run-made words before after input_before input_after ended made run =
    whole-made words before after run.whole.read run.whole.left run.whole.text run.ended made run.whole.clause

-- ---- a run of the program

-- No rows open as the fresh machine.
pub none-made : OpensMade []
none-made = (fresh, inl (refl, refl), New)

first-made : (rows : List Row) (machine : Machine) → OpensMade rows → OpensTo rows (Opens machine) → IsMade machine
first-made rows machine made opens = subst IsMade (only-machine rows made.0 machine made.1 opens) made.2

-- The machine as which such rows open has chained books.
pub rows-chained :
    (rows : List Row) (machine : Machine) → OpensMade rows → OpensTo rows (Opens machine) → AreChained machine
rows-chained rows machine made opens = made-chained machine (first-made rows machine made opens)

as-before :
    (keeping : Keeping) (rows : List Row) → Knows keeping → keeping.held rows → OpensMade rows
    → (IsTrue keeping.sure → (rows : List Row) → keeping.held rows → keeping.holds rows) → HoldsMade keeping
as-before keeping rows known held made same = (rows, same known.sure rows held, made)

session-made :
    (keeping : Keeping) (rows : List Row) (before after : List ℕ → Type 0) (bytes read left text : List ℕ)
    (ended : RunEnd) → Knows keeping → keeping.held rows → OpensMade rows
    → IsSession keeping before after bytes read left text ended → HoldsMade keeping
session-made keeping rows before after bytes read left text ended known held made session =
    let first = first-made rows session.first made (session.opened known.honest rows held) in
    let last = clause-made (at session.first before keeping.faults_before) (at session.last after keeping.faults_after)
    bytes read left text ended first session.run in
    let kept = session.kept known.sure in
    (kept.0, kept.1, (session.last, kept.2, last))

imported-made :
    (words : ImportWords) (keeping : Keeping) (rows : List Row) (before after : List ℕ → Type 0)
    (read left text : List ℕ) (ended : RunEnd) → Knows keeping → keeping.held rows → OpensMade rows
    → IsImported words keeping before after read left text ended → HoldsMade keeping
imported-made words keeping rows before after read left text ended known held made imported =
    let first = first-made rows imported.first made (imported.opened known.honest rows held) in
    let last = whole-made words (at imported.first before keeping.faults_before)
    (at imported.last after keeping.faults_after) read left text ended first imported.asked in
    let kept = imported.kept known.sure in
    (kept.0, kept.1, (imported.last, kept.2, last))

-- By the status of a run of lines.
lines_status-made :
    (keeping : Keeping) (rows : List Row) (before after : List ℕ → Type 0) (bytes read left text : List ℕ)
    (ended : Status) → Knows keeping → keeping.held rows → OpensMade rows
    → StatusClause keeping before after bytes read left text ended → HoldsMade keeping
lines_status-made keeping rows before after bytes read left text status.Done known held made clause =
    session-made keeping rows before after bytes read left text end.Done known held made clause
lines_status-made keeping rows before after bytes read left text status.InputLimit known held made clause =
    session-made keeping rows before after bytes read left text end.InputLimit known held made clause
lines_status-made keeping rows before after bytes read left text status.InputFault known held made clause =
    session-made keeping rows before after bytes read left text end.InputFault known held made clause
lines_status-made keeping rows before after bytes read left text status.OutputFault known held made clause =
    session-made keeping rows before after bytes read left text end.OutputFault known held made clause
lines_status-made keeping rows before after bytes read left text status.Usage known held made clause =
    as-before keeping rows known held made clause.rows.rows
lines_status-made keeping rows before after bytes read left text status.Memory known held made clause =
    as-before keeping rows known held made clause.rows.rows
lines_status-made keeping rows before after bytes read left text status.KeeperFault known held made clause =
    as-before keeping rows known held made clause.rows.rows
lines_status-made keeping rows before after bytes read left text (status.BadRows kind id) known held made clause =
    as-before keeping rows known held made clause.0.rows.rows
lines_status-made keeping rows before after bytes read left text (status.UnsoundBook kind id) known held made clause =
    as-before keeping rows known held made clause.0.rows.rows
lines_status-made keeping rows before after bytes read left text status.PortFault known held made clause = absurd clause

-- And by that of an import.
import_status-made :
    (words : ImportWords) (keeping : Keeping) (rows : List Row) (before after : List ℕ → Type 0)
    (read left text : List ℕ) (ended : Status) → Knows keeping → keeping.held rows → OpensMade rows
    → ImportClause words keeping before after read left text ended → HoldsMade keeping
import_status-made words keeping rows before after read left text status.Done known held made clause =
    imported-made words keeping rows before after read left text end.Done known held made clause
import_status-made words keeping rows before after read left text status.OutputFault known held made clause =
    imported-made words keeping rows before after read left text end.OutputFault known held made clause
import_status-made words keeping rows before after read left text status.InputLimit known held made clause =
    imported-made words keeping rows before after read left text end.InputLimit known held made clause.0
import_status-made words keeping rows before after read left text status.InputFault known held made clause =
    imported-made words keeping rows before after read left text end.InputFault known held made clause.0
import_status-made words keeping rows before after read left text status.Usage known held made clause =
    as-before keeping rows known held made clause.rows.rows
import_status-made words keeping rows before after read left text status.Memory known held made clause =
    as-before keeping rows known held made clause.rows.rows
import_status-made words keeping rows before after read left text status.KeeperFault known held made clause =
    as-before keeping rows known held made clause.rows.rows
import_status-made words keeping rows before after read left text (status.BadRows kind id) known held made clause =
    as-before keeping rows known held made clause.0.rows.rows
import_status-made words keeping rows before after read left text (status.UnsoundBook kind id) known held made clause =
    as-before keeping rows known held made clause.0.rows.rows
import_status-made words keeping rows before after read left text status.PortFault known held made clause = absurd clause

led-made :
    (keeping : Keeping) (rows : List Row) → Knows keeping → keeping.held rows → OpensMade rows → HasLed keeping
    → HoldsMade keeping
led-made keeping rows known held made led =
    let first = first-made rows led.first made (led.opened known.honest rows held) in
    let kept = led.kept known.sure in
    (kept.0, kept.1, (led.last, kept.2, ByLinks led.first led.last first led.led))

-- And by that of a serving of links.
serve_status-made :
    (keeping : Keeping) (rows : List Row) (ended : Status) → Knows keeping → keeping.held rows → OpensMade rows
    → ServedRows keeping ended → HoldsMade keeping
serve_status-made keeping rows status.Done known held made led = led-made keeping rows known held made led
serve_status-made keeping rows status.PortFault known held made led = led-made keeping rows known held made led
serve_status-made keeping rows status.Memory known held made (inl same) = as-before keeping rows known held made same.rows
serve_status-made keeping rows status.Memory known held made (inr led) = led-made keeping rows known held made led
serve_status-made keeping rows status.Usage known held made same = as-before keeping rows known held made same.rows
serve_status-made keeping rows status.KeeperFault known held made same = as-before keeping rows known held made same.rows
serve_status-made keeping rows (status.BadRows kind id) known held made clause =
    as-before keeping rows known held made clause.0.rows
serve_status-made keeping rows (status.UnsoundBook kind id) known held made clause =
    as-before keeping rows known held made clause.0.rows
serve_status-made keeping rows status.InputFault known held made clause = absurd clause
serve_status-made keeping rows status.OutputFault known held made clause = absurd clause
serve_status-made keeping rows status.InputLimit known held made clause = absurd clause

work-made :
    (work : Work) (keeping : Keeping) (rows : List Row) (before after : List ℕ → Type 0)
    (bytes read left text : List ℕ) (ended : Status) → Knows keeping → keeping.held rows → OpensMade rows
    → WorkClause work keeping before after bytes read left text ended → HoldsMade keeping
work-made Lines keeping rows before after bytes read left text ended known held made clause =
    lines_status-made keeping rows before after bytes read left text ended known held made clause
work-made (Import words) keeping rows before after bytes read left text ended known held made clause =
    import_status-made words keeping rows before after read left text ended known held made clause
work-made (Serve serve) keeping rows before after bytes read left text ended known held made clause =
    serve_status-made keeping rows ended known held made clause.2
work-made (Sample number) keeping rows before after bytes read left text ended known held made clause =
    as-before keeping rows known held made clause.0.rows.rows

-- A run of the program, whatever its words and its status are: where its keeper held rows of a book that the program
-- makes from nothing, and still knows its rows, it holds such rows at the end.
pub book_run-made :
    (work : Work) (keeping : Keeping) (rows : List Row) (input_before input_after : Option (List ℕ))
    (output_before output_after : List ℕ → Type 0) (ended : Status) → Knows keeping → keeping.held rows
    → OpensMade rows → IsBookRun work keeping input_before input_after output_before output_after ended
    → HoldsMade keeping
book_run-made work keeping rows input_before input_after output_before output_after ended known held made run =
    work-made work keeping rows output_before output_after run.bytes run.read run.left run.text ended known held made
    run.clause

-- Two runs one after the other join: where the rows that one ended with are those that the other began with, the other
-- began as the machine with which the one ended.
pub runs-join :
    (one other : Keeping) (last first : Machine) → Knows one → IsTrue other.honest
    → ((rows : List Row) → one.holds rows → other.held rows) → NowOpensTo one last → OpenedTo other (Opens first)
    → first ≡ last
runs-join one other last first known honest passes kept opened =
    let now = kept known.sure in
    only-machine now.0 first last (opened honest now.0 (passes now.0 now.1)) now.2

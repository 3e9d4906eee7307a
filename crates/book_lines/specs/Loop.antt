-- What the parts of the line loop do.
use Rattle.std.specs.Prelude.{◌≡◌, ℕ, ◌+◌, ◌<◌, ◌≤◌, true, List, [], ◌∷◌, ◌++◌, length, Result, Ok, Err}
use Rattle.book_keeper.specs.Stream.{Wrote}
use Rattle.book_lines.specs.Lines.{ended, left_over, rest_line, last_piece, sent}
use Rattle.book_lines.specs.Marks.{Mark, mark_of, marks, is_one_line, RoseForEach, memory_answer, keeper_answer}
use Rattle.book_lines.specs.Transcript.{AnswerRelation, Run}
use Rattle.book_lines.specs.Room.{Seen, seen}
use Rattle.book_lines.specs.RunClause.{Moment, IsAnswered}
use Rattle.book_lines.specs.declared.machine.Unanswered.{Unanswered}
use Rattle.book_lines.specs.declared.machine.Unanswered.TheVariants.{Memory as NoMemory, Keeper as NotKept}
use Rattle.book_lines.specs.declared.running.RunEnd.{RunEnd}
use Rattle.book_lines.specs.declared.running.RunEnd.TheVariants.{Done, InputLimit, InputFault, OutputFault}

-- The answer that says why the machine gave none.
abbrev pub text_of : Unanswered → List ℕ
text_of NoMemory = memory_answer
text_of NotKept = keeper_answer

-- The text that answers a line, whether the machine gave it or not.
abbrev pub answer_of : Result (List ℕ) Unanswered → List ℕ
answer_of (Ok text) = text
answer_of (Err unanswered) = text_of unanswered

-- The machine, or the loop in its place, gave this answer to the line.
pub record GaveAnswer {S : Type 0} (answers : AnswerRelation S) (old : S) (line answer : List ℕ) (new : S)
    (faults_before faults_after : ℕ) : Type 0 where
  pub answered : answers old line (mark_of answer) answer new
  pub one_line : is_one_line answer ≡ true
  pub kept : RoseForEach faults_before faults_after (mark_of answer ∷ [])

-- These lines were answered and the answers written.
pub record HasAnswered {S : Type 0} (answers : AnswerRelation S) (old : Moment S) (all : List (List ℕ))
    (new : Moment S) : Type 0 where
  pub text : List ℕ
  pub wrote : Wrote old.written new.written text
  pub ends : last_piece text ≡ []
  pub answered : IsAnswered answers old all text new

-- These lines were answered, and the writing of the last answer failed.
pub record HasBroken {S : Type 0} (answers : AnswerRelation S) (old : Moment S) (all : List (List ℕ))
    (new : Moment S) : Type 0 where
  pub text : List ℕ
  pub more : List ℕ
  pub mark : Mark
  pub wrote : Wrote old.written new.written text
  pub some : 0 < length more
  pub run : Run answers old.machine (sent all) (marks text ++ mark ∷ []) (text ++ more) new.machine
  pub kept : RoseForEach old.faults new.faults (marks text ++ mark ∷ [])

-- These bytes were taken behind what had begun: the lines that they end were answered, and the rest is in the room.
pub record HasTaken {S : Type 0} (answers : AnswerRelation S) (begun bytes : List ℕ) (old new : Moment S)
    (room : Seen) (count_before count_after : ℕ) : Type 0 where
  pub answered : HasAnswered answers old (ended begun bytes) new
  pub room_is : room ≡ seen (left_over begun bytes)
  pub count_is : count_after ≡ count_before + length (ended begun bytes)
  pub few : count_after + length (rest_line (left_over begun bytes)) ≤ 1000000

-- Why the taking of these bytes stopped before their end: a byte stands behind the last line that may be taken, or the
-- output failed.
abbrev pub HasStopped : {S : Type 0} → (AnswerRelation S) → List ℕ → List ℕ → Moment S → Moment S → ℕ → RunEnd → Type 0
HasStopped answers begun bytes old new count InputLimit = (part : List ℕ) × (rest : List ℕ)
    × (bytes ≡ part ++ rest) × (0 < length rest) × HasAnswered answers old (ended begun part) new
    × (left_over begun part ≡ []) × (count + length (ended begun part) ≡ 1000000)
HasStopped answers begun bytes old new count OutputFault = (part : List ℕ) × (rest : List ℕ)
    × (bytes ≡ part ++ rest) × HasBroken answers old (ended begun part) new
    × (count + length (ended begun part) ≤ 1000000)
HasStopped answers begun bytes old new count Done = ⊥
HasStopped answers begun bytes old new count InputFault = ⊥

-- How the end of the input leaves the lines that were still to be answered.
abbrev pub HasEnded : {S : Type 0} → (AnswerRelation S) → Moment S → List (List ℕ) → Moment S → RunEnd → Type 0
HasEnded answers old all new Done = HasAnswered answers old all new
HasEnded answers old all new OutputFault = HasBroken answers old all new
HasEnded answers old all new InputLimit = ⊥
HasEnded answers old all new InputFault = ⊥

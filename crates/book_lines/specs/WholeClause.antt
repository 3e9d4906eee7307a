-- What holds at each end where a whole input is answered as one line.
use Rattle.std.specs.Prelude.{◌≡◌, ℕ, ◌+◌, ◌^◌, ◌<◌, ◌≤◌, List, [], ◌∷◌, ◌++◌, Option, length}
use Rattle.std.specs.Io.KnownBytes.{Consumes}
use Rattle.book_keeper.specs.Stream.{Are, Wrote}
use Rattle.book_lines.specs.Transcript.{AnswerRelation}
use Rattle.book_lines.specs.Room.{Seen, seen}
use Rattle.book_lines.specs.RunClause.{Moment}
use Rattle.book_lines.specs.Loop.{GaveAnswer}
use Rattle.book_lines.specs.declared.running.RunEnd.{RunEnd}
use Rattle.book_lines.specs.declared.running.RunEnd.TheVariants.{Done, InputLimit, InputFault, OutputFault}

-- The text is one answer to these bytes and a line feed. How the answer came about is read from itself: the machine
-- gave it, or it says why the machine gave none, and the faults rose where it speaks of what is kept.
pub record IsOneAnswer
    {S : Type 0} (answers : AnswerRelation S) (old : Moment S) (bytes text : List ℕ) (new : Moment S) : Type 0 where
  pub answer : List ℕ
  pub text_is : text ≡ answer ++ 10 ∷ []
  pub gave : GaveAnswer answers old.machine bytes answer new.machine old.faults new.faults

-- Nothing was asked: the machine is as it was, and so are the faults.
pub record IsUnasked {S : Type 0} (old new : Moment S) : Type 0 where
  pub same_machine : new.machine ≡ old.machine
  pub same_faults : new.faults ≡ old.faults

-- By the end: `read` is what was read of the input, `left` what it has left now, `text` what was written. At Done the
-- text is the answer to the whole input, and at OutputFault a front part of it and not all. At InputLimit one byte past
-- 8 MiB was read.
abbrev pub WholeClause :
    {S : Type 0} → AnswerRelation S → Moment S → List ℕ → List ℕ → List ℕ → Moment S → RunEnd → Type 0
WholeClause answers old read left text new Done =
    (length read ≤ 2 ^ 23) × (left ≡ []) × IsOneAnswer answers old read text new
WholeClause answers old read left text new OutputFault =
    (length read ≤ 2 ^ 23) × (left ≡ []) × (more : List ℕ) × (0 < length more)
    × IsOneAnswer answers old read (text ++ more) new
WholeClause answers old read left text new InputLimit =
    (length read ≡ 2 ^ 23 + 1) × (text ≡ []) × IsUnasked old new
WholeClause answers old read left text new InputFault = (length read ≤ 2 ^ 23) × (text ≡ []) × IsUnasked old new

-- A whole input was answered. There are the bytes that the input had left, as far as it reports them: what was read, at
-- most one byte past 8 MiB, and then what it has left now. There is the text that the output gained, as far as it
-- reports it. Of these holds what belongs to the end.
pub record IsWhole
    {S : Type 0} (answers : AnswerRelation S) (before after : Option (List ℕ)) (old new : Moment S) (end : RunEnd)
    : Type 0 where
  pub bytes : List ℕ
  pub read : List ℕ
  pub left : List ℕ
  pub text : List ℕ
  pub bytes_are : Are before bytes
  pub left_are : Are after left
  pub parts : bytes ≡ read ++ left
  pub few : length read ≤ 2 ^ 23 + 1
  pub wrote : Wrote old.written new.written text
  pub clause : WholeClause answers old read left text new end

-- The bytes that were read of an input stand in the room, and are at most one more than 8 MiB.
pub record HasRead (before after : Option (List ℕ)) (room : Seen) : Type 0 where
  pub read : List ℕ
  pub took : Consumes before after read
  pub room_is : room ≡ seen read
  pub few : length read ≤ 2 ^ 23 + 1

-- Why an input of which so many bytes were read was not read to its end.
abbrev pub HasHalted : ℕ → RunEnd → Type 0
HasHalted size InputLimit = 2 ^ 23 < size
HasHalted size InputFault = size ≤ 2 ^ 23
HasHalted size Done = ⊥
HasHalted size OutputFault = ⊥

-- How the writing of the one answer to these bytes has ended.
abbrev pub HasAsked :
    {S : Type 0} → AnswerRelation S → Moment S → List ℕ → Moment S → RunEnd → Type 0
HasAsked answers old bytes new Done =
    (text : List ℕ) × Wrote old.written new.written text × IsOneAnswer answers old bytes text new
HasAsked answers old bytes new OutputFault =
    (text : List ℕ) × (more : List ℕ) × Wrote old.written new.written text × (0 < length more)
    × IsOneAnswer answers old bytes (text ++ more) new
HasAsked answers old bytes new InputLimit = ⊥
HasAsked answers old bytes new InputFault = ⊥

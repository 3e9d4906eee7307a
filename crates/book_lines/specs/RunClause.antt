-- What holds at each end of a run.
use Rattle.std.specs.Prelude.{◌≡◌, ℕ, ◌+◌, ◌^◌, ◌≤◌, List, [], ◌∷◌, ◌++◌, Option, length}
use Rattle.book_keeper.specs.Stream.{Are, Wrote}
use Rattle.book_lines.specs.Lines.{lines, whole_lines, AreAll, AreNotAll}
use Rattle.book_lines.specs.Marks.{Mark, marks, RoseForEach}
use Rattle.book_lines.specs.Transcript.{AnswerRelation, IsTranscript, IsCutShort}
use Rattle.book_lines.specs.declared.running.RunEnd.{RunEnd}
use Rattle.book_lines.specs.declared.running.RunEnd.TheVariants.{Done, InputLimit, InputFault, OutputFault}

-- What is seen at one moment: the machine's state, the bytes that the output may have been given, and the faults of
-- what is kept.
pub record Moment (S : Type 0) : Type 1 where
  pub machine : S
  pub written : List ℕ → Type 0
  pub faults : ℕ

-- The moment of these three.
abbrev pub at : {S : Type 0} → S → (List ℕ → Type 0) → ℕ → Moment S
at machine written faults = record { machine = machine; written = written; faults = faults }

-- The text answers these lines, and the faults rose with each mark that speaks of what is kept.
pub record IsAnswered
    {S : Type 0} (answers : AnswerRelation S) (old : Moment S) (all : List (List ℕ)) (text : List ℕ) (new : Moment S)
    : Type 0 where
  pub transcript : IsTranscript answers old.machine all text new.machine
  pub kept : RoseForEach old.faults new.faults (marks text)

-- The text stops within the answer to one of these lines, which the machine has answered.
pub record IsBroken
    {S : Type 0} (answers : AnswerRelation S) (old : Moment S) (all : List (List ℕ)) (text : List ℕ) (new : Moment S)
    : Type 0 where
  pub mark : Mark
  pub cut : IsCutShort answers old.machine all text mark new.machine
  pub kept : RoseForEach old.faults new.faults (marks text ++ mark ∷ [])

-- By the end of the run: `bytes` is what the input had left before, `read` what was read of it, `left` what it has
-- left now, `text` what was written.
abbrev pub RunClause :
    {S : Type 0} → AnswerRelation S → Moment S → List ℕ → List ℕ → List ℕ → List ℕ → Moment S → RunEnd → Type 0
RunClause answers old bytes read left text new Done =
    AreAll bytes × (left ≡ []) × IsAnswered answers old (lines bytes) text new
RunClause answers old bytes read left text new InputLimit =
    AreNotAll bytes × IsAnswered answers old (lines bytes) text new
RunClause answers old bytes read left text new InputFault =
    AreAll read × IsAnswered answers old (whole_lines read) text new
RunClause answers old bytes read left text new OutputFault = IsBroken answers old (lines bytes) text new

-- A run has ended. There are the bytes that the input had left, as far as it reports them: what was read, at most one
-- byte past the limit, and then what it has left now. There is the text that the output gained, as far as it reports
-- it.
-- Of these holds what belongs to the end.
pub record IsRun
    {S : Type 0} (answers : AnswerRelation S) (before after : Option (List ℕ)) (old new : Moment S) (end : RunEnd)
    : Type 0 where
  pub bytes : List ℕ
  pub read : List ℕ
  pub left : List ℕ
  pub text : List ℕ
  pub bytes_are : Are before bytes
  pub left_are : Are after left
  pub parts : bytes ≡ read ++ left
  pub few : length read ≤ 2 ^ 33 + 1
  pub wrote : Wrote old.written new.written text
  pub clause : RunClause answers old bytes read left text new end

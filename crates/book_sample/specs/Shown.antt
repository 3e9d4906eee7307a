-- What is shown of the answers to the lines of the sample.
use Rattle.std.specs.Prelude.{◌≡◌, ℕ, ◌<◌, List, [], ◌++◌, length, map}
use Rattle.book_keeper.specs.Stream.{Wrote}
use Rattle.book_lines.specs.Lines.{AreAll, lines, sent}
use Rattle.book_lines.specs.Marks.{Answered}
use Rattle.book_lines.specs.Transcript.{AnswerRelation, Run}
use Rattle.book_sample.specs.LastLines.{last_two}
use Rattle.book_sample.specs.declared.showing.SampleEnd.{SampleEnd}
use Rattle.book_sample.specs.declared.showing.SampleEnd.TheVariants.{Done, OutOfMemory, OutputFault}

-- From the state `first` the machine answers all lines of the input itself, and `text` is the last two of its answers.
pub record AreLastAnswers {S : Type 0} (answers : AnswerRelation S) (first : S) (bytes text : List ℕ) : Type 0 where
  pub transcript : List ℕ
  pub last : S
  pub all : AreAll bytes
  pub run : Run answers first (sent (lines bytes)) (map (λ line. Answered) (sent (lines bytes))) transcript last
  pub ends : text ≡ last_two transcript

-- By the end: `text` is what was written of the last two answers.
abbrev pub ShownClause :
    {S : Type 0} → AnswerRelation S → S → List ℕ → List ℕ → SampleEnd → Type 0
ShownClause answers first bytes text Done = AreLastAnswers answers first bytes text
ShownClause answers first bytes text OutputFault =
    (more : List ℕ) × (0 < length more) × AreLastAnswers answers first bytes (text ++ more)
ShownClause answers first bytes text OutOfMemory = text ≡ []

-- A text was added to what the output may have been given, and of it holds what belongs to the end.
pub record IsShown
    {S : Type 0} (answers : AnswerRelation S) (first : S) (bytes : List ℕ) (before after : List ℕ → Type 0)
    (end : SampleEnd) : Type 0 where
  pub text : List ℕ
  pub wrote : Wrote before after text
  pub clause : ShownClause answers first bytes text end

-- What a run of the program comes to over objects that never fail.
use Rattle.std.specs.Prelude.{◌≡◌, ℕ, true, ◌++◌, ◌∷◌, [], All, List, codes, take}
use Rattle.book_lines.specs.Lines.{lines}
use Rattle.book_lines.specs.Marks.{mark_of, marks}
use Rattle.book_lines.specs.Transcript.{IsTranscript}
use Rattle.book_engine.specs.Machine.{Machine, fresh}
use Rattle.book_engine.specs.Opens.{Opens, OpensTo}
use Rattle.book_sample.specs.Sample.{sample_text}
use Rattle.book_sample.specs.Shown.{AreLastAnswers}
use Rattle.book_app.specs.Machine.{answers, import_answers}
use Rattle.book_app.specs.Words.{Work, is_book, work_of}
use Rattle.book_app.specs.declared.status.Status.{Status}
use Rattle.book_app.specs.declared.words.ImportWords.{ImportWords}
use Rattle.book_complete.specs.Complete.{DoneOrMemory, IsToldOrMemory}
use Rattle.book_complete.specs.NoFail.{BytesLeft, RowsKept}
use Rattle.book_complete.specs.Ready.{AreWords}

-- The words are `run` and the name of a book.
pub record AreRunWords (words : List (List ℕ)) : Type 0 where
  pub book : List ℕ
  pub words_are : words ≡ codes "run" ∷ book ∷ []
  pub named : is_book book ≡ true

-- The words are of the grammar, and ask for this work.
pub record AskFor (words : List (List ℕ)) (work : Work) : Type 0 where
  pub grammar : AreWords words
  pub work_is : work_of words ≡ work

-- All was read and answered: the text is the transcript of the lines from the machine as which the rows opened, each
-- line is told or `memory`, the rows open as the last machine, and of what was given to the sink it has kept as much as
-- it has room for.
pub record IsAnsweredWhole (machine : Machine) (room : ℕ) (input_before input_after : BytesLeft)
    (keeper_after : RowsKept) (kept_before kept_after : List ℕ) : Type 0 where
  pub text : List ℕ
  pub last : Machine
  pub transcript : IsTranscript answers machine (lines input_before.left) text last
  pub told : All IsToldOrMemory (marks text)
  pub read : input_after.left ≡ []
  pub rows : OpensTo keeper_after.rows (Opens last)
  pub kept : kept_after ≡ take room (kept_before ++ text)

-- Nothing was read, nothing written, and the rows are as they were.
pub record IsAsBefore (input_before input_after : BytesLeft) (keeper_before keeper_after : RowsKept)
    (kept_before kept_after : List ℕ) : Type 0 where
  pub left : input_after.left ≡ input_before.left
  pub rows : keeper_after.rows ≡ keeper_before.rows
  pub kept : kept_after ≡ kept_before

-- A run of lines over such objects: Done or Memory.
abbrev pub IsSureRun :
    Machine → ℕ → BytesLeft → BytesLeft → RowsKept → RowsKept → List ℕ → List ℕ → Status → Type 0
IsSureRun machine room input_before input_after keeper_before keeper_after kept_before kept_after status =
    DoneOrMemory status
    (IsAnsweredWhole machine room input_before input_after keeper_after kept_before kept_after)
    (IsAsBefore input_before input_after keeper_before keeper_after kept_before kept_after)

-- All was read and imported: the answer is that of the machine as which the rows opened, or says that there was no
-- memory; the rows open as the machine after it.
pub record IsImportedWhole (import : ImportWords) (machine : Machine) (room : ℕ) (input_before input_after : BytesLeft)
    (keeper_after : RowsKept) (kept_before kept_after : List ℕ) : Type 0 where
  pub answer : List ℕ
  pub last : Machine
  pub answered : import_answers import machine input_before.left (mark_of answer) answer last
  pub told : IsToldOrMemory (mark_of answer)
  pub read : input_after.left ≡ []
  pub rows : OpensTo keeper_after.rows (Opens last)
  pub kept : kept_after ≡ take room (kept_before ++ (answer ++ 10 ∷ []))

-- An import over such objects: Done or Memory.
abbrev pub IsSureImport :
    ImportWords → Machine → ℕ → BytesLeft → BytesLeft → RowsKept → RowsKept → List ℕ → List ℕ → Status → Type 0
IsSureImport import machine room input_before input_after keeper_before keeper_after kept_before kept_after status =
    DoneOrMemory status
    (IsImportedWhole import machine room input_before input_after keeper_after kept_before kept_after)
    (IsAsBefore input_before input_after keeper_before keeper_after kept_before kept_after)

-- The last two answers of the sample of a number were given to the sink.
pub record IsShownWhole (number room : ℕ) (kept_before kept_after : List ℕ) : Type 0 where
  pub text : List ℕ
  pub shown : AreLastAnswers answers fresh (sample_text number) text
  pub kept : kept_after ≡ take room (kept_before ++ text)

-- A sample over such objects: Done or Memory, where nothing was given to the sink.
abbrev pub IsSureSample : ℕ → ℕ → List ℕ → List ℕ → Status → Type 0
IsSureSample number room kept_before kept_after status =
    DoneOrMemory status (IsShownWhole number room kept_before kept_after) (kept_after ≡ kept_before)

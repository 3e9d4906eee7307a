-- What a run of lines comes to over objects that never fail.
use Rattle.std.proofs.Common.{◌≡◌, ℕ, ◌≤◌, ◌^◌, Bool, true, if◌then◌else◌, List, [], ◌∷◌, ◌++◌, Option, Some, None}
use Rattle.std.proofs.Common.{inl, inr, refl, sym, ap, ◌∙◌, subst, arith, length, take}
use Rattle.std.proofs.lemmas.List.{append-nil, take_all}
use Rattle.std.specs.Prelude.{codes}
use Rattle.book_keeper.specs.RisingRows.{told_where}
use Rattle.book_keeper.specs.Rows.{Rises, do_rise}
use Rattle.book_keeper.specs.declared.row.Row.{Row}
use Rattle.book_lines.specs.Lines.{AreAll, lines}
use Rattle.book_lines.specs.Transcript.{IsTranscript}
use Rattle.book_engine.specs.Machine.{Machine, fresh}
use Rattle.book_engine.specs.Opens.{Opens, OpensTo}
use Rattle.book_one_opening.proofs.OneOpening.{only-machine}
use Rattle.book_app.specs.Machine.{answers, import_answers}
use Rattle.book_sample.specs.Sample.{sample_text}
use Rattle.book_sample.specs.Shown.{AreLastAnswers}
use Rattle.book_lines.specs.Marks.{mark_of}
use Rattle.book_app.specs.declared.words.ImportWords.{ImportWords}
use Rattle.book_app.specs.StatusClause.{IsBookRun, IsLeft, IsUnopened, Keeping}
use Rattle.book_app.specs.Words.{Import, Lines, Sample, Work, is_book, named_book, work_of}
use Rattle.book_app.specs.declared.status.Status.{Status}
use Rattle.book_complete.specs.Complete.{AreAllTold, DoneOrMemory, IsCompleteRun, IsImportTold}
use Rattle.book_complete.specs.NoFail.{BytesLeft, RowsKept, may_be_given}
use Rattle.book_complete.specs.Quiet.{AreQuiet, DidNotRise, FaultsSeen, IsCaused}
use Rattle.book_complete.specs.Ready.{AreWords, BookOpens, IsReady}
use Rattle.book_complete.specs.SureRun.{AreRunWords, AskFor, IsAnsweredWhole, IsAsBefore, IsImportedWhole, IsSureImport}
use Rattle.book_complete.specs.SureRun.{IsSureRun, IsSureSample}
use Rattle.book_complete.proofs.CompleteLaws.{book_run-complete}

-- What is seen of the keeper that never fails.
abbrev pub sure_keeping : RowsKept → RowsKept → Keeping
sure_keeping before after = record {
  honest = do_rise after.rows;
  sure = do_rise after.rows;
  held = λ rows. (before.rows ≡ rows) × Rises rows;
  holds = λ rows. (after.rows ≡ rows) × Rises rows;
  might_leave = λ rows. (before.rows ≡ rows) × Rises rows;
  may_leave = λ rows. (after.rows ≡ rows) × Rises rows;
  faults_before = 0;
  faults_after = 0;
}

-- The counts of objects that never fail, beside those of some ports.
abbrev pub no_faults : ℕ → ℕ → FaultsSeen
no_faults ports_before ports_after = record {
  input_before = 0;
  input_after = 0;
  output_before = 0;
  output_after = 0;
  ports_before = ports_before;
  ports_after = ports_after;
}

quiet-zero : DidNotRise 0 0
quiet-zero = record { same = refl; counts = omega arith }

-- The words of `run` ask for lines.
pub run-words-lines : (words : List (List ℕ)) → AreRunWords words → work_of words ≡ Lines
run-words-lines words are = ap work_of are.words_are

-- And they are of the grammar.
pub run-words-named : (words : List (List ℕ)) → AreRunWords words → AreWords words
run-words-named words are none =
    let some : named_book words ≡ Some are.book = ap named_book are.words_are ∙ book-named are.book are.named in
    let no = none.no_book in absurd cc
  where
    book-named : (book : List ℕ) → is_book book ≡ true → named_book (codes "run" ∷ book ∷ []) ≡ Some book
    book-named book is = ap (λ (t : Bool). if t then Some book else None) is

module _ (machine : Machine) (room : ℕ) (input_before input_after : BytesLeft) (keeper_before keeper_after : RowsKept)
    (kept_before kept_after : List ℕ) (fits : length kept_before ≤ room) (rise : Rises keeper_before.rows)
    (rises : Rises keeper_after.rows) (opens : OpensTo keeper_before.rows (Opens machine)) where
  book-opens : BookOpens (sure_keeping keeper_before keeper_after)
  book-opens = record {
    honest = told_where keeper_after.rows rises;
    rows = keeper_before.rows;
    held = (refl, rise);
    rise = rise;
    machine = machine;
    opens = opens;
  }

  answered :
      (bytes read left text : List ℕ) → input_before.left ≡ bytes → input_after.left ≡ left
      → kept_after ≡ take room (kept_before ++ text)
      → AreAllTold (sure_keeping keeper_before keeper_after) (may_be_given room kept_before)
      (may_be_given room kept_after) bytes read left text
      → IsAnsweredWhole machine room input_before input_after keeper_after kept_before kept_after
  answered bytes read left text are left_are kept told =
      let session = told.session in
      let sure = told_where keeper_after.rows rises in
      let first = only-machine keeper_before.rows session.first machine
      (session.opened sure keeper_before.rows (refl, rise)) opens in
      let now = session.kept sure in
      record {
        text = text;
        last = session.last;
        transcript = subst (λ (m : Machine). IsTranscript answers m (lines input_before.left) text session.last) first
            (subst (λ (l : List ℕ). IsTranscript answers session.first (lines l) text session.last) (sym are)
            session.run.2.transcript);
        told = told.told;
        read = left_are ∙ session.run.1;
        rows = subst (λ (l : List Row). OpensTo l (Opens session.last)) (sym now.1.0) now.2;
        kept = kept;
      }

  as-before :
      (bytes read left text : List ℕ) → input_before.left ≡ bytes → input_after.left ≡ left → bytes ≡ read ++ left
      → kept_after ≡ take room (kept_before ++ text)
      → IsUnopened (sure_keeping keeper_before keeper_after) read text
      → IsAsBefore input_before input_after keeper_before keeper_after kept_before kept_after
  as-before bytes read left text are left_are parts kept same =
      let rows = same.rows.rows (told_where keeper_after.rows rises) keeper_before.rows (refl, rise) in
      record {
        left = left_are ∙ sym (are ∙ parts ∙ ap (λ (l : List ℕ). l ++ left) same.input);
        rows = rows.0;
        kept = kept ∙ ap (λ (l : List ℕ). take room (kept_before ++ l)) same.output
            ∙ ap (take room) (append-nil kept_before) ∙ take_all room kept_before fits;
      }

  complete-sure :
      (ended : Status)
      → IsCompleteRun Lines (sure_keeping keeper_before keeper_after) (Some input_before.left) (Some input_after.left)
      (may_be_given room kept_before) (may_be_given room kept_after) ended
      → IsSureRun machine room input_before input_after keeper_before keeper_after kept_before kept_after ended
  complete-sure ended run = by ended run.clause
    where
      kept : kept_after ≡ take room (kept_before ++ run.text)
      kept = run.wrote.each kept_before (sym (take_all room kept_before fits))

      by :
          (ended : Status)
          → DoneOrMemory ended
          (AreAllTold (sure_keeping keeper_before keeper_after) (may_be_given room kept_before)
          (may_be_given room kept_after) run.bytes run.read run.left run.text)
          (IsUnopened (sure_keeping keeper_before keeper_after) run.read run.text)
          → IsSureRun machine room input_before input_after keeper_before keeper_after kept_before kept_after ended
      by ended (inl done) =
          inl (done.0, answered run.bytes run.read run.left run.text run.bytes_are run.left_are kept done.1)
      by ended (inr spent) =
          inr (
            spent.0,
            as-before run.bytes run.read run.left run.text run.bytes_are run.left_are run.parts kept
                spent.1,
          )

  imported :
      (import : ImportWords) (bytes read left text : List ℕ) → input_before.left ≡ bytes → input_after.left ≡ left
      → bytes ≡ read ++ left → kept_after ≡ take room (kept_before ++ text)
      → IsImportTold import (sure_keeping keeper_before keeper_after) (may_be_given room kept_before)
      (may_be_given room kept_after) read left text
      → IsImportedWhole import machine room input_before input_after keeper_after kept_before kept_after
  imported import bytes read left text are left_are parts kept told =
      let done = told.imported in
      let sure = told_where keeper_after.rows rises in
      let first = only-machine keeper_before.rows done.first machine
      (done.opened sure keeper_before.rows (refl, rise)) opens in
      let now = done.kept sure in
      let one = done.asked.2 in
      let all : read ≡ input_before.left =
      sym (are ∙ parts ∙ ap (λ (l : List ℕ). read ++ l) done.asked.1 ∙ append-nil read) in
      record {
        answer = one.answer;
        last = done.last;
        answered = subst (λ (m : Machine). import_answers import m input_before.left (mark_of one.answer) one.answer
            done.last) first
            (subst (λ (l : List ℕ). import_answers import done.first l (mark_of one.answer) one.answer done.last) all
            one.gave.answered);
        told = told.told;
        read = left_are ∙ done.asked.1;
        rows = subst (λ (l : List Row). OpensTo l (Opens done.last)) (sym now.1.0) now.2;
        kept = kept ∙ ap (λ (l : List ℕ). take room (kept_before ++ l)) one.text_is;
      }

  complete-import :
      (import : ImportWords) (ended : Status)
      → IsCompleteRun (Import import) (sure_keeping keeper_before keeper_after) (Some input_before.left)
      (Some input_after.left) (may_be_given room kept_before) (may_be_given room kept_after) ended
      → IsSureImport import machine room input_before input_after keeper_before keeper_after kept_before kept_after
      ended
  complete-import import ended run = by ended run.clause
    where
      kept : kept_after ≡ take room (kept_before ++ run.text)
      kept = run.wrote.each kept_before (sym (take_all room kept_before fits))

      by :
          (ended : Status)
          → DoneOrMemory ended
          (IsImportTold import (sure_keeping keeper_before keeper_after) (may_be_given room kept_before)
          (may_be_given room kept_after) run.read run.left run.text)
          (IsUnopened (sure_keeping keeper_before keeper_after) run.read run.text)
          → IsSureImport import machine room input_before input_after keeper_before keeper_after kept_before kept_after
          ended
      by ended (inl done) =
          inl (
            done.0,
            imported import run.bytes run.read run.left run.text run.bytes_are run.left_are run.parts kept
                done.1,
          )
      by ended (inr spent) =
          inr (
            spent.0,
            as-before run.bytes run.read run.left run.text run.bytes_are run.left_are run.parts kept
                spent.1,
          )

  all-quiet : (ports_before ports_after : ℕ)
      → AreQuiet (sure_keeping keeper_before keeper_after) (no_faults ports_before ports_after)
  all-quiet ports_before ports_after = record { keeper = quiet-zero; input = quiet-zero; output = quiet-zero }

  -- What the clauses of `book_main` come to.
  pub sure-run :
      (words : List (List ℕ)) (ports_before ports_after : ℕ) (ended : Status) → AreRunWords words
      → AreAll input_before.left
      → IsCaused words (sure_keeping keeper_before keeper_after) (no_faults ports_before ports_after) ended
      → IsBookRun (work_of words) (sure_keeping keeper_before keeper_after) (Some input_before.left)
      (Some input_after.left) (may_be_given room kept_before) (may_be_given room kept_after) ended
      → IsSureRun machine room input_before input_after keeper_before keeper_after kept_before kept_after ended
  sure-run words ports_before ports_after ended are all causes run =
      let keeping = sure_keeping keeper_before keeper_after in
      let faults = no_faults ports_before ports_after in
      let quiet = all-quiet ports_before ports_after in
      let ready : IsReady Lines keeping faults (Some input_before.left) =
      (book-opens, quiet, record { bytes = input_before.left; known = refl; few = all }) in
      let of_lines = subst (λ (w : Work). IsBookRun w keeping (Some input_before.left) (Some input_after.left)
      (may_be_given room kept_before) (may_be_given room kept_after) ended) (run-words-lines words are) run in
      complete-sure ended
      (book_run-complete words Lines keeping faults (Some input_before.left) (Some input_after.left)
      (may_be_given room kept_before) (may_be_given room kept_after) ended (run-words-named words are) ready causes
      of_lines)

  -- And with the words of an import.
  pub sure-import :
      (words : List (List ℕ)) (import : ImportWords) (ports_before ports_after : ℕ) (ended : Status)
      → AskFor words (Import import) → length input_before.left ≤ 2 ^ 23
      → IsCaused words (sure_keeping keeper_before keeper_after) (no_faults ports_before ports_after) ended
      → IsBookRun (work_of words) (sure_keeping keeper_before keeper_after) (Some input_before.left)
      (Some input_after.left) (may_be_given room kept_before) (may_be_given room kept_after) ended
      → IsSureImport import machine room input_before input_after keeper_before keeper_after kept_before kept_after
      ended
  sure-import words import ports_before ports_after ended ask few causes run =
      let keeping = sure_keeping keeper_before keeper_after in
      let faults = no_faults ports_before ports_after in
      let ready : IsReady (Import import) keeping faults (Some input_before.left) =
      (book-opens, all-quiet ports_before ports_after, record { bytes = input_before.left; known = refl; few = few }) in
      let of_file = subst (λ (w : Work). IsBookRun w keeping (Some input_before.left) (Some input_after.left)
      (may_be_given room kept_before) (may_be_given room kept_after) ended) ask.work_is run in
      complete-import import ended
      (book_run-complete words (Import import) keeping faults (Some input_before.left) (Some input_after.left)
      (may_be_given room kept_before) (may_be_given room kept_after) ended ask.grammar ready causes of_file)

-- With the words of a sample, whatever the rows are.
pub sure-sample :
    (number room : ℕ) (keeping : Keeping) (input_before input_after : Option (List ℕ))
    (kept_before kept_after : List ℕ) (words : List (List ℕ)) (ports_before ports_after : ℕ) (ended : Status)
    → length kept_before ≤ room → AskFor words (Sample number)
    → IsCaused words keeping (no_faults ports_before ports_after) ended
    → IsBookRun (work_of words) keeping input_before input_after (may_be_given room kept_before)
    (may_be_given room kept_after) ended
    → IsSureSample number room kept_before kept_after ended
sure-sample number room keeping input_before input_after kept_before kept_after words ports_before ports_after ended
    fits ask causes run =
    by ended whole.clause
  where
    whole : IsCompleteRun (Sample number) keeping input_before input_after (may_be_given room kept_before)
        (may_be_given room kept_after) ended
    whole = book_run-complete words (Sample number) keeping (no_faults ports_before ports_after) input_before
        input_after (may_be_given room kept_before) (may_be_given room kept_after) ended ask.grammar quiet-zero causes
        (subst (λ (w : Work). IsBookRun w keeping input_before input_after (may_be_given room kept_before)
        (may_be_given room kept_after) ended) ask.work_is run)

    kept : kept_after ≡ take room (kept_before ++ whole.text)
    kept = whole.wrote.each kept_before (sym (take_all room kept_before fits))

    by :
        (ended : Status)
        → DoneOrMemory ended
        (IsLeft keeping whole.read × AreLastAnswers answers fresh (sample_text number) whole.text)
        (IsLeft keeping whole.read × (whole.text ≡ []))
        → IsSureSample number room kept_before kept_after ended
    by ended (inl done) = inl (done.0, record { text = whole.text; shown = done.1.1; kept = kept })
    by ended (inr spent) =
        inr (
          spent.0,
          kept ∙ ap (λ (l : List ℕ). take room (kept_before ++ l)) spent.1.1
              ∙ ap (take room) (append-nil kept_before) ∙ take_all room kept_before fits,
        )

-- From what holds at a run's end to what holds when the program's work has ended.
use Rattle.std.proofs.Common.{◌≡◌, ◌≢◌, ℕ, List, [], Option, Some, None, IsTrue, inl, inr}
use Rattle.std.proofs.Common.{Result, Ok, Err, IfOk, IfSome, OnErr, refl, sym, subst, ◌∙◌, arith}
use Rattle.book_keeper.proofs.StreamLemmas.{Are-some, Wrote-nil}
use Rattle.book_keeper.specs.declared.keeper.Keeper.{Ghosts}
use Rattle.book_keeper.specs.declared.row.Row.{Row}
use Rattle.book_lines.specs.RunClause.{at, RunClause}
use Rattle.book_lines.specs.declared.running.RunEnd.{RunEnd}
use Rattle.book_lines.specs.declared.running.RunEnd.TheVariants as end
use Rattle.book_opening.specs.Opening.{StaysSure, WasRead}
use Rattle.book_engine.specs.Opening.{AreAnew, KeepsRows, WasOpened, WhereRefused}
use Rattle.book_engine.specs.Books.{machine_kept}
use Rattle.book_engine.specs.Kept.{Kept}
use Rattle.book_engine.specs.Machine.{Machine}
use Rattle.book_engine.specs.Opening.{Opened, WhereOpened}
use Rattle.book_engine.specs.Opening.{row_key}
use Rattle.book_engine.specs.Opens.{Bad, Opening, Opens, Unsound}
use Rattle.book_engine.specs.Standing.{StandForKept, Stands}
use Rattle.book_engine.proofs.StandLemmas.{kept_format}
use Rattle.book_engine.specs.declared.fault.OpenError.{OpenError}
use Rattle.book_engine.specs.declared.fault.OpenError.TheVariants as error
use Rattle.book_lines.specs.WholeClause.{WholeClause}
use Rattle.book_app.specs.Machine.{answers, import_answers}
use Rattle.book_app.specs.Numbers.{status_of, status_shown, status_unopened}
use Rattle.book_serve.specs.Served.{LinkReports}
use Rattle.book_serve.specs.declared.serve_end.ServeEnd.{ServeEnd}
use Rattle.book_app.specs.ServeClause.{HasServedBook, PortsSeen, ServeClause}
use Rattle.book_app.specs.StatusClause.{IsBookRun, IsLineRun, IsSession, IsUntouched, Keeping, MayOpenTo, NowOpensTo}
use Rattle.book_app.specs.StatusClause.{OpenedTo}
use Rattle.book_app.specs.StatusClause.{HasBookPath, HoldsAsBefore, HoldsOpened, HoldsUnopened, IsUnopened, LeavesSameOrAnew, RowsByAnswer}
use Rattle.book_app.specs.StatusClause.{ImportClause, IsImported, IsImportRun, IsShownAs}
use Rattle.book_app.specs.StatusClause.{HasLed, IsStreamRun, SampleClause, ServedRows, StatusClause, WorkClause, over}
use Rattle.book_app.specs.Words.{Work, Lines, Import, Serve, Sample, named_number}
use Rattle.book_app.specs.declared.words.ImportWords.{ImportWords}
use Rattle.book_app.specs.declared.words.ServeWords.{ServeWords}
use Rattle.book_app.specs.declared.status.Status.{Status}
use Rattle.book_app.specs.declared.status.Status.TheVariants.{Done, Usage, Memory, InputFault}
use Rattle.book_app.specs.declared.status.Status.TheVariants.{OutputFault, KeeperFault, BadRows, UnsoundBook}
use Rattle.book_app.specs.declared.status.Status.TheVariants.{InputLimit, PortFault}
use Rattle.book_engine.specs.Machine.{fresh}
use Rattle.book_sample.specs.Sample.{sample_text}
use Rattle.book_sample.specs.Shown.{IsShown, ShownClause}
use Rattle.book_sample.specs.declared.showing.SampleEnd.{SampleEnd}
use Rattle.book_sample.specs.declared.showing.SampleEnd.TheVariants as shown

session_clause :
    (keeping : Keeping) (before after : List ℕ → Type 0) (bytes read left text : List ℕ) (ended : RunEnd)
    → IsSession keeping before after bytes read left text ended
    → StatusClause keeping before after bytes read left text (status_of ended)
session_clause keeping before after bytes read left text end.Done h = h
session_clause keeping before after bytes read left text end.InputLimit h = h
session_clause keeping before after bytes read left text end.InputFault h = h
session_clause keeping before after bytes read left text end.OutputFault h = h

-- a run of lines, from the state as which the rows opened, is the program's work
pub run_of_lines :
    (keeping : Keeping) (first last : Machine) (faults : ℕ) (input_before input_after : Option (List ℕ))
    (output_before output_after : List ℕ → Type 0) (status : Status) → faults ≡ keeping.faults_before
    → OpenedTo keeping (Opens first) → NowOpensTo keeping last → MayOpenTo keeping last
    → IsLineRun (at first output_before faults) input_before input_after (at last output_after keeping.faults_after)
    status
    → IsBookRun Lines keeping input_before input_after output_before output_after status
run_of_lines keeping first last faults input_before input_after output_before output_after status same opened kept
    leaves run =
    let session : IsSession keeping output_before output_after run.bytes run.read run.left run.text run.ended =
    record {
      first = first;
      last = last;
      opened = opened;
      run = subst
          (λ (n : ℕ). RunClause answers (at first output_before n) run.bytes run.read run.left run.text
          (at last output_after keeping.faults_after) run.ended) same run.clause;
      kept = kept;
      leaves = leaves;
    } in
    record {
      bytes = run.bytes;
      read = run.read;
      left = run.left;
      text = run.text;
      bytes_are = run.bytes_are;
      left_are = run.left_are;
      parts = run.parts;
      few = run.few;
      wrote = run.wrote;
      clause =
          subst (λ (s : Status). StatusClause keeping output_before output_after run.bytes run.read run.left run.text s)
          (sym run.status_is)
          (session_clause keeping output_before output_after run.bytes run.read run.left run.text run.ended session);
    }

-- a keeper that was not asked after its book was opened holds the rows that it held then
pub same_rows :
    {K : Type 0} (of : Ghosts K) (old mid new : K) → new ≡ mid → HoldsOpened (over of old mid)
    → HoldsOpened (over of old new)
same_rows of old mid new same before = subst (λ k. HoldsOpened (over of old k)) (sym same) before

import_clause :
    (words : ImportWords) (keeping : Keeping) (before after : List ℕ → Type 0) (read left text : List ℕ)
    (ended : RunEnd) (status : Status) → status ≡ status_of ended
    → (status ≡ InputLimit → HoldsOpened keeping) → (status ≡ InputFault → HoldsOpened keeping)
    → IsImported words keeping before after read left text ended
    → ImportClause words keeping before after read left text (status_of ended)
import_clause words keeping before after read left text end.Done status is limit fault h = h
import_clause words keeping before after read left text end.OutputFault status is limit fault h = h
import_clause words keeping before after read left text end.InputLimit status is limit fault h = (h, limit is)
import_clause words keeping before after read left text end.InputFault status is limit fault h = (h, fault is)

-- an import of the input, into the state as which the rows opened, is the program's work
pub run_of_import :
    (words : ImportWords) (keeping : Keeping) (first last : Machine) (faults : ℕ)
    (input_before input_after : Option (List ℕ)) (output_before output_after : List ℕ → Type 0) (status : Status)
    → faults ≡ keeping.faults_before → OpenedTo keeping (Opens first) → NowOpensTo keeping last
    → MayOpenTo keeping last
    → (status ≡ InputLimit → HoldsOpened keeping) → (status ≡ InputFault → HoldsOpened keeping)
    → IsImportRun words (at first output_before faults) input_before input_after
    (at last output_after keeping.faults_after) status
    → IsBookRun (Import words) keeping input_before input_after output_before output_after status
run_of_import words keeping first last faults input_before input_after output_before output_after status same opened
    kept leaves limit fault run =
    let whole = run.whole in
    let imported : IsImported words keeping output_before output_after whole.read whole.left whole.text run.ended =
    record {
      first = first;
      last = last;
      opened = opened;
      asked = subst
          (λ (n : ℕ). WholeClause (import_answers words) (at first output_before n) whole.read whole.left whole.text
          (at last output_after keeping.faults_after) run.ended) same whole.clause;
      kept = kept;
      leaves = leaves;
    } in
    record {
      bytes = whole.bytes;
      read = whole.read;
      left = whole.left;
      text = whole.text;
      bytes_are = whole.bytes_are;
      left_are = whole.left_are;
      parts = whole.parts;
      few = omega (arith, whole.few);
      wrote = whole.wrote;
      clause =
          subst
          (λ (s : Status). ImportClause words keeping output_before output_after whole.read whole.left whole.text s)
          (sym run.status_is)
          (import_clause words keeping output_before output_after whole.read whole.left whole.text run.ended status
          run.status_is limit fault imported);
    }

-- where nothing was touched, what belongs to the work and the status holds of no bytes and no text
pub run_of_nothing :
    (work : Work) (keeping : Keeping) (input : Option (List ℕ)) (output : List ℕ → Type 0) (status : Status)
    → ((bytes : List ℕ) → WorkClause work keeping output output bytes [] bytes [] status)
    → IsBookRun work keeping input input output output status
run_of_nothing work keeping input output status holds = let bytes = Are-some input in record {
  bytes = bytes.0;
  read = [];
  left = bytes.0;
  text = [];
  bytes_are = bytes.1;
  left_are = bytes.1;
  parts = refl;
  few = omega arith;
  wrote = Wrote-nil output;
  clause = holds bytes.0;
}

pub untouched : (keeping : Keeping) → HoldsAsBefore keeping → IsUntouched keeping [] []
untouched keeping rows = record { input = refl; output = refl; rows = rows }

pub unopened : (keeping : Keeping) → HoldsUnopened keeping → IsUnopened keeping [] []
unopened keeping rows = record { input = refl; output = refl; rows = rows }

-- a keeper whose rows are as before holds them where no book was opened
pub still_unopened : (keeping : Keeping) → HoldsAsBefore keeping → HoldsUnopened keeping
still_unopened keeping rows = record { rows = rows.rows; left = λ honest old may. inl (rows.left honest old may) }

-- a keeper that was not asked is as it was
pub not_asked : {K : Type 0} (of : Ghosts K) (keeper : K) → HoldsAsBefore (over of keeper keeper)
not_asked of keeper = record { rows = λ still rows held. held; left = λ honest rows left. left }

-- where no book was opened
pub unopened_clause :
    (keeping : Keeping) (output : List ℕ → Type 0) (bytes : List ℕ) (why : OpenError)
    → RowsByAnswer {T = Kept} keeping (Err why)
    → (IsTrue keeping.honest → (rows : List Row) → keeping.held rows → Opened rows (Err why))
    → StatusClause keeping output output bytes [] bytes [] (status_unopened why)
unopened_clause keeping output bytes error.Keeper rows opened = unopened keeping rows
unopened_clause keeping output bytes (error.BadRows kind id) rows opened = (untouched keeping rows, opened)
unopened_clause keeping output bytes (error.UnsoundBook kind id) rows opened = (untouched keeping rows, opened)
unopened_clause keeping output bytes error.OutOfMemory rows opened = unopened keeping rows

-- where no book was opened for an import
pub unopened_import :
    (words : ImportWords) (keeping : Keeping) (output : List ℕ → Type 0) (bytes : List ℕ) (why : OpenError)
    → RowsByAnswer {T = Kept} keeping (Err why)
    → (IsTrue keeping.honest → (rows : List Row) → keeping.held rows → Opened rows (Err why))
    → ImportClause words keeping output output [] bytes [] (status_unopened why)
unopened_import words keeping output bytes error.Keeper rows opened = unopened keeping rows
unopened_import words keeping output bytes (error.BadRows kind id) rows opened = (untouched keeping rows, opened)
unopened_import words keeping output bytes (error.UnsoundBook kind id) rows opened = (untouched keeping rows, opened)
unopened_import words keeping output bytes error.OutOfMemory rows opened = unopened keeping rows

-- where the words could not be read
pub run_without_words :
    (keeping : Keeping) (input : Option (List ℕ)) (output : List ℕ → Type 0) (status : Status)
    → HoldsAsBefore keeping
    → (status ≢ Usage → status ≡ Memory) → IsBookRun Lines keeping input input output output status
run_without_words keeping input output Usage rows is =
    run_of_nothing Lines keeping input output Usage (λ bytes. untouched keeping rows)
run_without_words keeping input output other rows is =
    subst (λ (s : Status). IsBookRun Lines keeping input input output output s) (sym (is (λ same. cc)))
    (run_of_nothing Lines keeping input output Memory (λ bytes. unopened keeping (still_unopened keeping rows)))

shown_clause :
    (number : ℕ) (text : List ℕ) (end : SampleEnd) → ShownClause answers fresh (sample_text number) text end
    → SampleClause number text (status_shown end)
shown_clause number text shown.Done h = h
shown_clause number text shown.OutOfMemory h = h
shown_clause number text shown.OutputFault h = h

-- a sample that was shown from the fresh machine on
pub sample_shown :
    (number : ℕ) (before after : List ℕ → Type 0) (end : SampleEnd) (status : Status) → status ≡ status_shown end
    → IsShown answers fresh (sample_text number) before after end → IsShownAs number before after status
sample_shown number before after end status is run = record {
  text = run.text;
  wrote = run.wrote;
  clause = subst (λ (s : Status). SampleClause number run.text s) (sym is) (shown_clause number run.text end run.clause);
}

-- where nothing was shown
pub nothing_shown : (number : ℕ) (output : List ℕ → Type 0) → IsShownAs number output output Memory
nothing_shown number output = record { text = []; wrote = Wrote-nil output; clause = refl }

-- a sample ends by no other status than Done, Memory and OutputFault
pub no_sample :
    (number : ℕ) (before after : List ℕ → Type 0) (status other : Status) → IsShownAs number before after status
    → ((text : List ℕ) → SampleClause number text other → ⊥) → status ≡ other → ⊥
no_sample number before after status other run never is =
    never run.text (subst (λ (s : Status). SampleClause number run.text s) is run.clause)

-- of the keeper's path nothing is said with the words of a sample
pub path_of_sample :
    (words : List (List ℕ)) (path : List ℕ) (number : ℕ) (status : Status) → Some number ≡ named_number words
    → HasBookPath words path status
path_of_sample words path number Usage is = tt
path_of_sample words path number Memory is = tt
path_of_sample words path number KeeperFault is = tt
path_of_sample words path number Done is = λ none. absurd (let e : Some number ≡ None = is ∙ none in cc)
path_of_sample words path number InputFault is = λ none. absurd (let e : Some number ≡ None = is ∙ none in cc)
path_of_sample words path number OutputFault is = λ none. absurd (let e : Some number ≡ None = is ∙ none in cc)
path_of_sample words path number PortFault is = λ none. absurd (let e : Some number ≡ None = is ∙ none in cc)
path_of_sample words path number InputLimit is = λ none. absurd (let e : Some number ≡ None = is ∙ none in cc)
path_of_sample words path number (BadRows kind id) is = λ none. absurd (let e : Some number ≡ None = is ∙ none in cc)
path_of_sample words path number (UnsoundBook kind id) is =
    λ none. absurd (let e : Some number ≡ None = is ∙ none in cc)

-- a sample leaves the input and the keeper as they are
pub run_of_sample :
    (work : Work) (number : ℕ) (keeping : Keeping) (input : Option (List ℕ)) (before after : List ℕ → Type 0)
    (status : Status) → HoldsAsBefore keeping
    → Sample number ≡ work → IsShownAs number before after status
    → IsBookRun work keeping input input before after status
run_of_sample work number keeping input before after status rows is run =
    let bytes = Are-some input in
    subst (λ (w : Work). IsBookRun w keeping input input before after status) is
    (record {
      bytes = bytes.0;
      read = [];
      left = bytes.0;
      text = run.text;
      bytes_are = bytes.1;
      left_are = bytes.1;
      parts = refl;
      few = omega arith;
      wrote = run.wrote;
      clause = (record { input = refl; rows = rows }, run.clause);
    })

-- where no link was served
pub unopened_rows :
    (keeping : Keeping) (why : OpenError) → RowsByAnswer {T = Kept} keeping (Err why)
    → (IsTrue keeping.honest → (rows : List Row) → keeping.held rows → Opened rows (Err why))
    → ServedRows keeping (status_unopened why)
unopened_rows keeping error.Keeper rows opened = rows
unopened_rows keeping (error.BadRows kind id) rows opened = (rows, opened)
unopened_rows keeping (error.UnsoundBook kind id) rows opened = (rows, opened)
unopened_rows keeping error.OutOfMemory rows opened = inl rows

-- the serving of links leaves the input and the output as they are
pub run_of_serving :
    (work : Work) (serve : ServeWords) (keeping : Keeping) (input : Option (List ℕ)) (output : List ℕ → Type 0)
    (status : Status) → ServedRows keeping status → Serve serve ≡ work
    → IsBookRun work keeping input input output output status
run_of_serving work serve keeping input output status rows is =
    let bytes = Are-some input in
    subst (λ (w : Work). IsBookRun w keeping input input output output status) is
    (record {
      bytes = bytes.0;
      read = [];
      left = bytes.0;
      text = [];
      bytes_are = bytes.1;
      left_are = bytes.1;
      parts = refl;
      few = omega arith;
      wrote = Wrote-nil output;
      clause = (refl, refl, rows);
    })

-- and never ends by a fault of theirs
pub no_serving : (keeping : Keeping) (status other : Status) → ServedRows keeping status
    → (ServedRows keeping other → ⊥) → status ≡ other → ⊥
no_serving keeping status other rows never is = never (subst (λ (s : Status). ServedRows keeping s) is rows)

-- What is answered of the rows that an honest keeper held before it was opened, and of what it may leave.
module _ {K : Type 0} (of : Ghosts K) (old mid new : K) (known : IsTrue (of.honest mid) → IsTrue (of.sure mid))
    (read : WasOpened of mid new) where
  pub opened_honest :
      (result : Result Kept OpenError) → (IsTrue (of.sure mid) → (rows : List Row) → of.holds old rows → of.holds mid rows)
      → WhereOpened result (StaysSure of mid new)
      → (IsTrue (of.sure new) → (rows : List Row) → of.holds mid rows → Opened rows result)
      → IsTrue (of.honest new) → (rows : List Row) → of.holds old rows → Opened rows result
  opened_honest (Ok engine) kept still opened = λ honest rows held.
      let before = known (read.still_honest honest) in
      opened (still honest before) rows (kept before rows held)
  opened_honest (Err (error.BadRows kind id)) kept still opened = λ honest rows held.
      let before = known (read.still_honest honest) in
      opened (still honest before) rows (kept before rows held)
  opened_honest (Err (error.UnsoundBook kind id)) kept still opened = λ honest rows held.
      let before = known (read.still_honest honest) in
      opened (still honest before) rows (kept before rows held)
  opened_honest (Err error.Keeper) kept still opened = λ honest rows held. tt
  opened_honest (Err error.OutOfMemory) kept still opened = λ honest rows held. tt

  -- The rows that the keeper holds as an engine was opened stand for that engine.
  pub stands_opened :
      (result : Result Kept OpenError) → (IsTrue (of.sure mid) → (rows : List Row) × of.holds mid rows)
      → (IsTrue (of.sure mid) → (rows : List Row) → of.may_leave mid rows → of.holds mid rows)
      → WhereOpened result (StaysSure of mid new)
      → (IsTrue (of.sure new) → (rows : List Row) → of.holds mid rows → Opened rows result)
      → IfOk result (λ kept. IsTrue (of.sure new) → (rows : List Row) × of.holds new rows × StandForKept kept rows)
      → IfOk result (Stands of new)
  stands_opened (Ok engine) told settled still opened stand = record {
    rows = stand;
    left = λ honest rows left.
        let before = known (read.still_honest honest) in
        let now = still honest before in
        inl (elim (read.leaves honest rows left) [
          | inl earlier ↦ opened now rows (settled before rows earlier)
          | inr anew ↦
              let held = told before in
              (anew.1 held.0 held.1).same (machine_kept engine) (opened now held.0 held.1)
        ]);
  }
  stands_opened (Err why) told settled still opened stand = tt

  leaves_same :
      (IsTrue (of.sure mid) → (rows : List Row) × of.holds mid rows)
      → ((rows other : List Row) → of.holds mid rows → of.holds mid other → rows ≡ other)
      → (IsTrue (of.sure mid) → (rows : List Row) → of.holds old rows → of.holds mid rows)
      → (IsTrue (of.honest mid) → (rows : List Row) → of.may_leave mid rows → of.may_leave old rows)
      → LeavesSameOrAnew (over of old new)
  leaves_same told one kept left honest rows may =
      elim (read.leaves honest rows may) [
        | inl earlier ↦ inl (left (read.still_honest honest) rows earlier)
        | inr anew ↦
            let held = told anew.0 in
            inr (
              held.0,
              anew.1 held.0 held.1,
              λ other is. one held.0 other held.1 (kept anew.0 other is),
            )
      ]

  -- What became of the rows.
  pub rows_opened :
      (result : Result Kept OpenError) → (IsTrue (of.sure mid) → (rows : List Row) × of.holds mid rows)
      → ((rows other : List Row) → of.holds mid rows → of.holds mid other → rows ≡ other)
      → ((rows other : List Row) → of.holds new rows → of.holds new other → rows ≡ other)
      → (IsTrue (of.sure mid) → (rows : List Row) → of.holds old rows → of.holds mid rows)
      → (IsTrue (of.honest mid) → (rows : List Row) → of.may_leave mid rows → of.may_leave old rows)
      → IfOk result (λ kept. IsTrue (of.sure new) → (rows : List Row) × of.holds new rows × StandForKept kept rows)
      → OnErr result (KeepsRows of mid new) → WhereRefused result (WasRead of mid new)
      → RowsByAnswer (over of old new) result
  rows_opened (Ok engine) told one only kept left stand unchanged refused = record {
    rows = λ sure rows held.
        let stood = stand sure in (
          stood.0,
          stood.1,
          kept_format engine stood.0 stood.2,
          elim (read.rows sure rows (kept (read.still_sure sure) rows held)) [
            | inl same ↦ inl (only stood.0 rows stood.1 same)
            | inr anew ↦ inr (subst (AreAnew rows) (only anew.0 stood.0 anew.2 stood.1) anew.1)
          ],
        );
    left = leaves_same told one kept left;
  }
  rows_opened (Err (error.BadRows kind id)) told one only kept left stand unchanged refused = record {
    rows = λ sure rows held. unchanged sure rows (kept (read.still_sure sure) rows held);
    left = λ honest rows may. left (refused.still_honest honest) rows (refused.leaves honest rows may);
  }
  rows_opened (Err (error.UnsoundBook kind id)) told one only kept left stand unchanged refused = record {
    rows = λ sure rows held. unchanged sure rows (kept (read.still_sure sure) rows held);
    left = λ honest rows may. left (refused.still_honest honest) rows (refused.leaves honest rows may);
  }
  rows_opened (Err error.Keeper) told one only kept left stand unchanged refused = record {
    rows = λ sure rows held. unchanged sure rows (kept (read.still_sure sure) rows held);
    left = leaves_same told one kept left;
  }
  rows_opened (Err error.OutOfMemory) told one only kept left stand unchanged refused = record {
    rows = λ sure rows held. unchanged sure rows (kept (read.still_sure sure) rows held);
    left = leaves_same told one kept left;
  }

-- a run, seen with other rows that the keeper held before, if it held these
abbrev pub with_held : Keeping → (List Row → Type 0) → (List Row → Type 0) → Keeping
with_held keeping held might = record keeping { held = held; might_leave = might }

module _ (keeping : Keeping) (held might : List Row → Type 0)
    (holds : IsTrue keeping.honest → (rows : List Row) → held rows → keeping.held rows)
    (leaves : IsTrue keeping.honest → (rows : List Row) → keeping.might_leave rows → might rows)
    (trusted : IsTrue keeping.sure → IsTrue keeping.honest) where
  opened_held : (opening : Opening) → OpenedTo keeping opening → OpenedTo (with_held keeping held might) opening
  opened_held opening opened still rows h = opened still rows (holds still rows h)

  rows_held : HoldsAsBefore keeping → HoldsAsBefore (with_held keeping held might)
  rows_held same = record {
    rows = λ still rows h. same.rows still rows (holds (trusted still) rows h);
    left = λ honest rows left. leaves honest rows (same.left honest rows left);
  }

  left_held : LeavesSameOrAnew keeping → LeavesSameOrAnew (with_held keeping held might)
  left_held same honest rows left =
      elim (same honest rows left) [
        | inl earlier ↦ inl (leaves honest rows earlier)
        | inr anew ↦ inr (anew.0, anew.1, λ other h. anew.2 other (holds honest other h))
      ]

  rows_unopened_held : HoldsUnopened keeping → HoldsUnopened (with_held keeping held might)
  rows_unopened_held same = record {
    rows = λ still rows h. same.rows still rows (holds (trusted still) rows h);
    left = left_held same.left;
  }

  rows_opened_held : HoldsOpened keeping → HoldsOpened (with_held keeping held might)
  rows_opened_held same = record {
    rows = λ still rows h. same.rows still rows (holds (trusted still) rows h);
    left = left_held same.left;
  }

  unopened_held : (read text : List ℕ) → IsUnopened keeping read text → IsUnopened (with_held keeping held might) read text
  unopened_held read text it = record { input = it.input; output = it.output; rows = rows_unopened_held it.rows }

  untouched_held : (read text : List ℕ) → IsUntouched keeping read text → IsUntouched (with_held keeping held might) read text
  untouched_held read text it = record {
    input = it.input;
    output = it.output;
    rows = rows_held it.rows;
  }

  session_held :
      (before after : List ℕ → Type 0) (bytes read left text : List ℕ) (ended : RunEnd)
      → IsSession keeping before after bytes read left text ended
      → IsSession (with_held keeping held might) before after bytes read left text ended
  session_held before after bytes read left text ended it = record {
    first = it.first;
    last = it.last;
    opened = opened_held (Opens it.first) it.opened;
    run = it.run;
    kept = it.kept;
    leaves = it.leaves;
  }

  status_held :
      (before after : List ℕ → Type 0) (bytes read left text : List ℕ) (status : Status)
      → StatusClause keeping before after bytes read left text status
      → StatusClause (with_held keeping held might) before after bytes read left text status
  status_held before after bytes read left text Done h = session_held before after bytes read left text end.Done h
  status_held before after bytes read left text InputLimit h =
      session_held before after bytes read left text end.InputLimit h
  status_held before after bytes read left text InputFault h =
      session_held before after bytes read left text end.InputFault h
  status_held before after bytes read left text OutputFault h =
      session_held before after bytes read left text end.OutputFault h
  status_held before after bytes read left text Usage h = untouched_held read text h
  status_held before after bytes read left text Memory h = unopened_held read text h
  status_held before after bytes read left text KeeperFault h = unopened_held read text h
  status_held before after bytes read left text (BadRows kind id) h =
      (untouched_held read text h.0, opened_held (Bad (row_key kind id)) h.1)
  status_held before after bytes read left text (UnsoundBook kind id) h =
      (untouched_held read text h.0, opened_held (Unsound (row_key kind id)) h.1)
  status_held before after bytes read left text PortFault h = absurd h

  imported_held :
      (words : ImportWords) (before after : List ℕ → Type 0) (read left text : List ℕ) (ended : RunEnd)
      → IsImported words keeping before after read left text ended
      → IsImported words (with_held keeping held might) before after read left text ended
  imported_held words before after read left text ended it = record {
    first = it.first;
    last = it.last;
    opened = opened_held (Opens it.first) it.opened;
    asked = it.asked;
    kept = it.kept;
    leaves = it.leaves;
  }

  import_held :
      (words : ImportWords) (before after : List ℕ → Type 0) (read left text : List ℕ) (status : Status)
      → ImportClause words keeping before after read left text status
      → ImportClause words (with_held keeping held might) before after read left text status
  import_held words before after read left text Done h = imported_held words before after read left text end.Done h
  import_held words before after read left text OutputFault h =
      imported_held words before after read left text end.OutputFault h
  import_held words before after read left text InputLimit h =
      (imported_held words before after read left text end.InputLimit h.0, rows_opened_held h.1)
  import_held words before after read left text InputFault h =
      (imported_held words before after read left text end.InputFault h.0, rows_opened_held h.1)
  import_held words before after read left text Usage h = untouched_held read text h
  import_held words before after read left text Memory h = unopened_held read text h
  import_held words before after read left text KeeperFault h = unopened_held read text h
  import_held words before after read left text (BadRows kind id) h =
      (untouched_held read text h.0, opened_held (Bad (row_key kind id)) h.1)
  import_held words before after read left text (UnsoundBook kind id) h =
      (untouched_held read text h.0, opened_held (Unsound (row_key kind id)) h.1)
  import_held words before after read left text PortFault h = absurd h

  led_held : HasLed keeping → HasLed (with_held keeping held might)
  led_held it = record {
    first = it.first;
    last = it.last;
    opened = opened_held (Opens it.first) it.opened;
    led = it.led;
    kept = it.kept;
    leaves = it.leaves;
  }

  served_held : (status : Status) → ServedRows keeping status → ServedRows (with_held keeping held might) status
  served_held Done h = led_held h
  served_held PortFault h = led_held h
  served_held Memory (inl h) = inl (rows_unopened_held h)
  served_held Memory (inr h) = inr (led_held h)
  served_held Usage h = rows_held h
  served_held KeeperFault h = rows_unopened_held h
  served_held (BadRows kind id) h = (rows_held h.0, opened_held (Bad (row_key kind id)) h.1)
  served_held (UnsoundBook kind id) h = (rows_held h.0, opened_held (Unsound (row_key kind id)) h.1)
  served_held InputFault h = absurd h
  served_held OutputFault h = absurd h
  served_held InputLimit h = absurd h

  work_held :
      (work : Work) (before after : List ℕ → Type 0) (bytes read left text : List ℕ) (status : Status)
      → WorkClause work keeping before after bytes read left text status
      → WorkClause work (with_held keeping held might) before after bytes read left text status
  work_held Lines before after bytes read left text status h = status_held before after bytes read left text status h
  work_held (Import words) before after bytes read left text status h =
      import_held words before after read left text status h
  work_held (Serve serve) before after bytes read left text status h = (h.0, h.1, served_held status h.2)
  work_held (Sample number) before after bytes read left text status h = (
    record { input = h.0.input; rows = rows_held h.0.rows },
    h.1,
  )

  book_run_held :
      (work : Work) (input_before input_after : Option (List ℕ)) (before after : List ℕ → Type 0) (status : Status)
      → IsBookRun work keeping input_before input_after before after status
      → IsBookRun work (with_held keeping held might) input_before input_after before after status
  book_run_held work input_before input_after before after status it = record {
    bytes = it.bytes;
    read = it.read;
    left = it.left;
    text = it.text;
    bytes_are = it.bytes_are;
    left_are = it.left_are;
    parts = it.parts;
    few = it.few;
    wrote = it.wrote;
    clause = work_held work before after it.bytes it.read it.left it.text status it.clause;
  }

  pub stream_run_held :
      (work : Work) (status : Status) → IsStreamRun work keeping status
      → IsStreamRun work (with_held keeping held might) status
  stream_run_held work status it = record {
    input_before = it.input_before;
    input_after = it.input_after;
    output_before = it.output_before;
    output_after = it.output_after;
    is_unknown = it.is_unknown;
    run = book_run_held work it.input_before it.input_after _ _ status it.run;
  }

  -- and what holds of the links
  book_held : {L : Type 0} (serve : ServeWords) (of : LinkReports L) (ports : PortsSeen L) (ended : ServeEnd)
      → HasServedBook serve keeping of ports ended → HasServedBook serve (with_held keeping held might) of ports ended
  book_held serve of ports ended it = record {
    first = it.first;
    last = it.last;
    opened = opened_held (Opens (machine_kept it.first)) it.opened;
    served = it.served;
    kept = it.kept;
    leaves = it.leaves;
  }

  serve_held : {L : Type 0} (serve : ServeWords) (of : LinkReports L) (ports : PortsSeen L) (status : Status)
      → ServeClause serve keeping of ports status → ServeClause serve (with_held keeping held might) of ports status
  serve_held serve of ports Done h = book_held serve of ports _ h
  serve_held serve of ports PortFault h = book_held serve of ports _ h
  serve_held serve of ports Memory (inl h) = inl (h.0, rows_unopened_held h.1)
  serve_held serve of ports Memory (inr h) = inr (book_held serve of ports _ h)
  serve_held serve of ports Usage h = h
  serve_held serve of ports KeeperFault h = h
  serve_held serve of ports (BadRows kind id) h = h
  serve_held serve of ports (UnsoundBook kind id) h = h
  serve_held serve of ports InputFault h = absurd h
  serve_held serve of ports OutputFault h = absurd h
  serve_held serve of ports InputLimit h = absurd h

  pub serves_held :
      {L : Type 0} (words : Option ServeWords) (of : LinkReports L) (ports : PortsSeen L) (status : Status)
      → IfSome words (λ serve. ServeClause serve keeping of ports status)
      → IfSome words (λ serve. ServeClause serve (with_held keeping held might) of ports status)
  serves_held None of ports status h = h
  serves_held (Some serve) of ports status h = serve_held serve of ports status h

-- what holds of the links, seen with other rows that the keeper held before, if it held these, and with the count of
-- faults that it had
pub serve_seen :
    {L : Type 0} (keeping : Keeping) (held might : List Row → Type 0) (faults : ℕ) (words : Option ServeWords)
    (of : LinkReports L) (ports : PortsSeen L) (status : Status)
    → keeping.faults_before ≡ faults → (IsTrue keeping.honest → (rows : List Row) → held rows → keeping.held rows)
    → (IsTrue keeping.honest → (rows : List Row) → keeping.might_leave rows → might rows)
    → (IsTrue keeping.sure → IsTrue keeping.honest)
    → IfSome words (λ serve. ServeClause serve keeping of ports status)
    → IfSome words (λ serve. ServeClause serve (record keeping { held = held; might_leave = might; faults_before = faults }) of ports status)
serve_seen keeping held might faults words of ports status same holds leaves trusted clause =
    subst
    (λ (n : ℕ). IfSome words (λ serve. ServeClause serve (record keeping { held = held; might_leave = might; faults_before = n }) of ports status))
    same (serves_held keeping held might holds leaves trusted words of ports status clause)

-- a run, seen with other rows that the keeper held before, if it held these, and with the count of faults that it had
pub stream_run_seen :
    (keeping : Keeping) (held might : List Row → Type 0) (faults : ℕ) (work : Work) (status : Status)
    → keeping.faults_before ≡ faults → (IsTrue keeping.honest → (rows : List Row) → held rows → keeping.held rows)
    → (IsTrue keeping.honest → (rows : List Row) → keeping.might_leave rows → might rows)
    → (IsTrue keeping.sure → IsTrue keeping.honest)
    → IsStreamRun work keeping status
    → IsStreamRun work (record keeping { held = held; might_leave = might; faults_before = faults }) status
stream_run_seen keeping held might faults work status same holds leaves trusted run =
    subst
    (λ (n : ℕ). IsStreamRun work (record keeping { held = held; might_leave = might; faults_before = n }) status)
    same (stream_run_held keeping held might holds leaves trusted work status run)

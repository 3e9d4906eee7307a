-- What holds when the program's work has ended, by its status.
use Rattle.std.specs.Prelude.{◌≡◌, ℕ, ◌+◌, ◌^◌, ◌<◌, ◌≤◌, ◌⊎◌, ⊤, Bool, false, IsTrue, List, [], ◌++◌, Option, Some}
use Rattle.std.specs.Prelude.{None, Result, Ok, Err}
use Rattle.std.specs.Prelude.{length}
use Rattle.book_keeper.specs.Stream.{Are, Wrote}
use Rattle.book_keeper.specs.declared.keeper.Keeper.{Ghosts}
use Rattle.book_keeper.specs.declared.row.Row.{Row}
use Rattle.book_lines.specs.RunClause.{Moment, at, RunClause}
use Rattle.book_lines.specs.WholeClause.{IsWhole, WholeClause}
use Rattle.book_lines.specs.declared.running.RunEnd.{RunEnd}
use Rattle.book_lines.specs.declared.running.RunEnd.TheVariants as end
use Rattle.book_engine.specs.Machine.{Machine, fresh}
use Rattle.book_rows.specs.declared.format.RowFormat.TheVariants.{Two}
use Rattle.book_opening.specs.BookRows.{rows_format}
use Rattle.book_engine.specs.Opening.{AreAnew, row_key}
use Rattle.book_engine.specs.declared.fault.OpenError.{OpenError}
use Rattle.book_engine.specs.declared.fault.OpenError.TheVariants as error
use Rattle.book_engine.specs.Opens.{Bad, Opening, Opens, OpensTo, Unsound}
use Rattle.book_engine.specs.Standing.{OpensToNext}
use Rattle.book_app.specs.Machine.{Leads, answers, import_answers}
use Rattle.book_app.specs.Numbers.{status_of}
use Rattle.book_sample.specs.Sample.{sample_text}
use Rattle.book_sample.specs.Shown.{AreLastAnswers}
use Rattle.book_app.specs.Words.{Work, Lines, Import, Serve, Sample, named_book, named_number}
use Rattle.book_app.specs.declared.words.ImportWords.{ImportWords}
use Rattle.book_app.specs.declared.status.Status.{Status}
use Rattle.book_app.specs.declared.status.Status.TheVariants.{Done, Usage, Memory, InputFault, OutputFault, KeeperFault}
use Rattle.book_app.specs.declared.status.Status.TheVariants.{BadRows, UnsoundBook, PortFault, InputLimit}

-- What is seen of a keeper before and after: whether it is honest, and still knows its rows; those that it held, and
-- that it holds; those that the next keeper could find before, and may find now; and its count of faults.
pub record Keeping : Type 1 where
  pub honest : Bool
  pub sure : Bool
  pub held : List Row → Type 0
  pub holds : List Row → Type 0
  pub might_leave : List Row → Type 0
  pub may_leave : List Row → Type 0
  pub faults_before : ℕ
  pub faults_after : ℕ

-- What is seen of this keeper, before and after.
abbrev pub over : {K : Type 0} → Ghosts K → K → K → Keeping
over of before after = record {
  honest = of.honest after;
  sure = of.sure after;
  held = of.holds before;
  holds = of.holds after;
  might_leave = of.may_leave before;
  may_leave = of.may_leave after;
  faults_before = of.faults before;
  faults_after = of.faults after;
}

-- The rows that the keeper held before open as this, where it is honest.
abbrev pub OpenedTo : Keeping → Opening → Type 0
OpenedTo keeping opening = IsTrue keeping.honest → (rows : List Row) → keeping.held rows → OpensTo rows opening

-- A keeper that still knows its rows holds rows that open as this machine; there are none, or they have format 2.
abbrev pub NowOpensTo : Keeping → Machine → Type 0
NowOpensTo keeping machine =
    IsTrue keeping.sure
    → (rows : List Row) × keeping.holds rows × OpensTo rows (Opens machine) × (rows_format rows ≡ Two)

-- As long as the keeper is honest, what the next one may find opens as this machine, or as the one that one command
-- more makes of it.
abbrev pub MayOpenTo : Keeping → Machine → Type 0
MayOpenTo keeping machine =
    IsTrue keeping.honest → (rows : List Row) → keeping.may_leave rows
    → OpensTo rows (Opens machine) ⊎ OpensToNext machine rows

-- A keeper that still knows its rows holds those that it held before. As long as it is honest, the next one may find no
-- rows that it could not find before.
pub record HoldsAsBefore (keeping : Keeping) : Type 0 where
  pub rows : IsTrue keeping.sure → (rows : List Row) → keeping.held rows → keeping.holds rows
  pub left : IsTrue keeping.honest → (rows : List Row) → keeping.may_leave rows → keeping.might_leave rows

-- As long as the keeper is honest, the next one may find no rows that it could not find before, but some rows written
-- anew in format 2. Where it was known which rows the keeper held, it is these that were written anew.
abbrev pub LeavesSameOrAnew : Keeping → Type 0
LeavesSameOrAnew keeping =
    IsTrue keeping.honest → (rows : List Row) → keeping.may_leave rows
    → keeping.might_leave rows
    ⊎ ((old : List Row) × AreAnew old rows × ((other : List Row) → keeping.held other → old ≡ other))

-- The book was not opened. A keeper that still knows its rows holds those that it held before; a commit that failed to
-- write them anew may leave either.
pub record HoldsUnopened (keeping : Keeping) : Type 0 where
  pub rows : IsTrue keeping.sure → (rows : List Row) → keeping.held rows → keeping.holds rows
  pub left : LeavesSameOrAnew keeping

-- The book was opened, and no command was done. A keeper that still knows its rows holds those that it held before, or
-- these written anew; there are none, or they have format 2.
pub record HoldsOpened (keeping : Keeping) : Type 0 where
  pub rows : IsTrue keeping.sure → (rows : List Row) → keeping.held rows
      → (new : List Row) × keeping.holds new × (rows_format new ≡ Two) × ((new ≡ rows) ⊎ AreAnew rows new)
  pub left : LeavesSameOrAnew keeping

-- Nothing was read, nothing written, and the book was not opened.
pub record IsUnopened (keeping : Keeping) (read text : List ℕ) : Type 0 where
  pub input : read ≡ []
  pub output : text ≡ []
  pub rows : HoldsUnopened keeping

-- Nothing was read, nothing written, and the keeper's rows are as they were.
pub record IsUntouched (keeping : Keeping) (read text : List ℕ) : Type 0 where
  pub input : read ≡ []
  pub output : text ≡ []
  pub rows : HoldsAsBefore keeping

-- Lines were answered from the machine as which the keeper's rows opened, and its rows open as the last one.
pub record IsSession (keeping : Keeping) (output_before output_after : List ℕ → Type 0)
    (bytes read left text : List ℕ) (ended : RunEnd) : Type 0 where
  pub first : Machine
  pub last : Machine
  pub opened : OpenedTo keeping (Opens first)
  pub run : RunClause answers (at first output_before keeping.faults_before) bytes read left text
      (at last output_after keeping.faults_after) ended
  pub kept : NowOpensTo keeping last
  pub leaves : MayOpenTo keeping last

-- By the status: `bytes` is what the input had left before, `read` what was read of it, `left` what it has left now,
-- `text` what was written.
abbrev pub StatusClause :
    Keeping → (List ℕ → Type 0) → (List ℕ → Type 0) → List ℕ → List ℕ → List ℕ → List ℕ → Status → Type 0
StatusClause keeping before after bytes read left text Done =
    IsSession keeping before after bytes read left text end.Done
StatusClause keeping before after bytes read left text InputLimit =
    IsSession keeping before after bytes read left text end.InputLimit
StatusClause keeping before after bytes read left text InputFault =
    IsSession keeping before after bytes read left text end.InputFault
StatusClause keeping before after bytes read left text OutputFault =
    IsSession keeping before after bytes read left text end.OutputFault
StatusClause keeping before after bytes read left text Usage = IsUntouched keeping read text
StatusClause keeping before after bytes read left text Memory = IsUnopened keeping read text
StatusClause keeping before after bytes read left text KeeperFault = IsUnopened keeping read text
StatusClause keeping before after bytes read left text (BadRows kind id) =
    IsUntouched keeping read text × OpenedTo keeping (Bad (row_key kind id))
StatusClause keeping before after bytes read left text (UnsoundBook kind id) =
    IsUntouched keeping read text × OpenedTo keeping (Unsound (row_key kind id))
StatusClause keeping before after bytes read left text PortFault = ⊥

-- Nothing was read, and the keeper's rows are as they were.
pub record IsLeft (keeping : Keeping) (read : List ℕ) : Type 0 where
  pub input : read ≡ []
  pub rows : HoldsAsBefore keeping

-- The input was imported as one statement file into the machine as which the keeper's rows opened, and its rows open as
-- the last one.
pub record IsImported (import : ImportWords) (keeping : Keeping) (output_before output_after : List ℕ → Type 0)
    (read left text : List ℕ) (ended : RunEnd) : Type 0 where
  pub first : Machine
  pub last : Machine
  pub opened : OpenedTo keeping (Opens first)
  pub asked : WholeClause (import_answers import) (at first output_before keeping.faults_before) read left text
      (at last output_after keeping.faults_after) ended
  pub kept : NowOpensTo keeping last
  pub leaves : MayOpenTo keeping last

-- With the words of `import`, by the status: at Done `text` is the one answer to the whole input, of at most 8 MiB; at
-- OutputFault a front part of it and not all. At each other status nothing was written; at InputLimit and InputFault
-- the book was opened and the rows are the same book's, and one byte past 8 MiB was read at InputLimit; at Usage,
-- BadRows and UnsoundBook the keeper's rows are as they were; at Memory and KeeperFault the book was not opened.
abbrev pub ImportClause :
    ImportWords → Keeping → (List ℕ → Type 0) → (List ℕ → Type 0) → List ℕ → List ℕ → List ℕ → Status → Type 0
ImportClause import keeping before after read left text Done =
    IsImported import keeping before after read left text end.Done
ImportClause import keeping before after read left text OutputFault =
    IsImported import keeping before after read left text end.OutputFault
ImportClause import keeping before after read left text InputLimit =
    IsImported import keeping before after read left text end.InputLimit × HoldsOpened keeping
ImportClause import keeping before after read left text InputFault =
    IsImported import keeping before after read left text end.InputFault × HoldsOpened keeping
ImportClause import keeping before after read left text Usage = IsUntouched keeping read text
ImportClause import keeping before after read left text Memory = IsUnopened keeping read text
ImportClause import keeping before after read left text KeeperFault = IsUnopened keeping read text
ImportClause import keeping before after read left text (BadRows kind id) =
    IsUntouched keeping read text × OpenedTo keeping (Bad (row_key kind id))
ImportClause import keeping before after read left text (UnsoundBook kind id) =
    IsUntouched keeping read text × OpenedTo keeping (Unsound (row_key kind id))
ImportClause import keeping before after read left text PortFault = ⊥

-- With the words of `sample`, by the status: at Done `text` is the last two answers to all lines of the sample, which
-- the machine answers itself from the fresh one on; at OutputFault a front part of them and not all. There are no other
-- statuses but Memory.
abbrev pub SampleClause : ℕ → List ℕ → Status → Type 0
SampleClause number text Done = AreLastAnswers answers fresh (sample_text number) text
SampleClause number text OutputFault =
    (more : List ℕ) × (0 < length more) × AreLastAnswers answers fresh (sample_text number) (text ++ more)
SampleClause number text Memory = text ≡ []
SampleClause number text Usage = ⊥
SampleClause number text InputFault = ⊥
SampleClause number text KeeperFault = ⊥
SampleClause number text (BadRows kind id) = ⊥
SampleClause number text (UnsoundBook kind id) = ⊥
SampleClause number text PortFault = ⊥
SampleClause number text InputLimit = ⊥

-- A text was added to what the output may have been given, and of it holds what belongs to the status of the sample.
pub record IsShownAs (number : ℕ) (output_before output_after : List ℕ → Type 0) (status : Status) : Type 0 where
  pub text : List ℕ
  pub wrote : Wrote output_before output_after text
  pub clause : SampleClause number text status

-- Commands led from the machine as which the keeper's rows opened to that as which its rows open now.
pub record HasLed (keeping : Keeping) : Type 0 where
  pub first : Machine
  pub last : Machine
  pub opened : OpenedTo keeping (Opens first)
  pub led : Leads first last
  pub kept : NowOpensTo keeping last
  pub leaves : MayOpenTo keeping last

-- With the words of `serve`, what became of the keeper's rows, by the status: where the book was opened, commands led
-- from the machine that they opened as to that as which they open now. At Usage, BadRows and UnsoundBook they are as
-- they were; at KeeperFault, and at Memory before the first link, the book was not opened.
abbrev pub ServedRows : Keeping → Status → Type 0
ServedRows keeping Done = HasLed keeping
ServedRows keeping PortFault = HasLed keeping
ServedRows keeping Memory = HoldsUnopened keeping ⊎ HasLed keeping
ServedRows keeping Usage = HoldsAsBefore keeping
ServedRows keeping KeeperFault = HoldsUnopened keeping
ServedRows keeping (BadRows kind id) = HoldsAsBefore keeping × OpenedTo keeping (Bad (row_key kind id))
ServedRows keeping (UnsoundBook kind id) = HoldsAsBefore keeping × OpenedTo keeping (Unsound (row_key kind id))
ServedRows keeping InputFault = ⊥
ServedRows keeping OutputFault = ⊥
ServedRows keeping InputLimit = ⊥

-- By the work that the words ask for, and by the status.
abbrev pub WorkClause :
    Work → Keeping → (List ℕ → Type 0) → (List ℕ → Type 0) → List ℕ → List ℕ → List ℕ → List ℕ → Status → Type 0
WorkClause Lines keeping before after bytes read left text status =
    StatusClause keeping before after bytes read left text status
WorkClause (Import import) keeping before after bytes read left text status =
    ImportClause import keeping before after read left text status
WorkClause (Serve serve) keeping before after bytes read left text status =
    (read ≡ []) × (text ≡ []) × ServedRows keeping status
WorkClause (Sample number) keeping before after bytes read left text status =
    IsLeft keeping read × SampleClause number text status

-- A run of the program over a keeper. There are the bytes that the input had left, as far as it reports them: what was
-- read, at most one byte past the limit, and then what it has left now. There is the text that the output gained, as
-- far as it reports it. Of these holds what belongs to the status and to the work that the words ask for.
pub record IsBookRun
    (work : Work) (keeping : Keeping) (input_before input_after : Option (List ℕ))
    (output_before output_after : List ℕ → Type 0) (status : Status) : Type 0 where
  pub bytes : List ℕ
  pub read : List ℕ
  pub left : List ℕ
  pub text : List ℕ
  pub bytes_are : Are input_before bytes
  pub left_are : Are input_after left
  pub parts : bytes ≡ read ++ left
  pub few : length read ≤ 2 ^ 33 + 1
  pub wrote : Wrote output_before output_after text
  pub clause : WorkClause work keeping output_before output_after bytes read left text status

-- A writer may hold these bytes: it is known to hold exactly these, or nothing is known of it.
abbrev pub may_be : Bool → Option (List ℕ) → List ℕ → Type 0
may_be unknown known bytes = unknown ≡ false → known ≡ Some bytes

-- A run of the program over streams of which nothing is said: there is something that the input had left before and
-- has left now, and something that the output held and holds.
pub record IsStreamRun (work : Work) (keeping : Keeping) (status : Status) : Type 0 where
  pub input_before : Option (List ℕ)
  pub input_after : Option (List ℕ)
  pub output_before : Option (List ℕ)
  pub output_after : Option (List ℕ)
  pub is_unknown : Bool
  pub run : IsBookRun work keeping input_before input_after (may_be false output_before) (may_be is_unknown output_after)
      status

-- A run of lines from a machine to a machine: the same, and it ends neither by Usage nor before the first line.
pub record IsLineRun
    (before : Moment Machine) (input_before input_after : Option (List ℕ)) (after : Moment Machine)
    (status : Status) : Type 0 where
  pub bytes : List ℕ
  pub read : List ℕ
  pub left : List ℕ
  pub text : List ℕ
  pub bytes_are : Are input_before bytes
  pub left_are : Are input_after left
  pub parts : bytes ≡ read ++ left
  pub few : length read ≤ 2 ^ 33 + 1
  pub wrote : Wrote before.written after.written text
  pub ended : RunEnd
  pub status_is : status ≡ status_of ended
  pub clause : RunClause answers before bytes read left text after ended

-- The input was imported as one statement file, from a machine to a machine, and it ends neither by Usage nor before
-- the input was read.
pub record IsImportRun
    (import : ImportWords) (before : Moment Machine) (input_before input_after : Option (List ℕ))
    (after : Moment Machine) (status : Status) : Type 0 where
  pub ended : RunEnd
  pub status_is : status ≡ status_of ended
  pub whole : IsWhole (import_answers import) input_before input_after before after ended

-- What became of the keeper's rows as the book was opened, by what is answered.
abbrev pub RowsByAnswer : {T : Type 0} → Keeping → Result T OpenError → Type 0
RowsByAnswer keeping (Ok engine) = HoldsOpened keeping
RowsByAnswer keeping (Err (error.BadRows kind id)) = HoldsAsBefore keeping
RowsByAnswer keeping (Err (error.UnsoundBook kind id)) = HoldsAsBefore keeping
RowsByAnswer keeping (Err error.Keeper) = HoldsUnopened keeping
RowsByAnswer keeping (Err error.OutOfMemory) = HoldsUnopened keeping

-- The keeper's path is the book that the words name, once it was opened: at each status but these three, where the
-- words are not those of a sample.
abbrev pub HasBookPath : List (List ℕ) → List ℕ → Status → Type 0
HasBookPath words path Usage = ⊤
HasBookPath words path Memory = ⊤
HasBookPath words path KeeperFault = ⊤
HasBookPath words path other = named_number words ≡ None → named_book words ≡ Some path

-- The keeper's path is that of the book, unless it failed or the program was out of memory before it was opened.
abbrev pub IsOpenedAt : {T : Type 0} → List ℕ → List ℕ → Result T OpenError → Type 0
IsOpenedAt book path (Ok engine) = path ≡ book
IsOpenedAt book path (Err (error.BadRows kind id)) = path ≡ book
IsOpenedAt book path (Err (error.UnsoundBook kind id)) = path ≡ book
IsOpenedAt book path (Err error.Keeper) = ⊤
IsOpenedAt book path (Err error.OutOfMemory) = ⊤

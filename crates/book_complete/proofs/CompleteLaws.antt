-- Runs of the program that meet no fault are complete: what follows from the clauses of `book_main`.
use Rattle.std.proofs.Common.{◌≡◌, ◌⊎◌, ℕ, ◌^◌, ◌+◌, ◌<◌, ◌≤◌, All, List, [], ◌∷◌, ◌++◌, length, Option, Some}
use Rattle.std.proofs.Common.{inl, inr, refl, subst, ◌∙◌, arith, length-append}
use Rattle.std.specs.Prelude.{IfSome}
use Rattle.std.proofs.lemmas.List.Elements.{All-cons, All-head, All-nil}
use Rattle.book_keeper.specs.Stream.{Are}
use Rattle.book_lines.specs.Lines.{AreAll, AreNotAll}
use Rattle.book_lines.specs.Marks.{mark_of, marks}
use Rattle.book_engine.specs.Opening.{row_key}
use Rattle.book_engine.specs.Opens.{Bad, Unsound}
use Rattle.book_serve.specs.Exchange.{RequestRelation}
use Rattle.book_serve.specs.Served.{LinkReports, ServedInTurn, ServedLink}
use Rattle.book_serve.specs.declared.link_end.LinkEnd.{LinkEnd}
use Rattle.book_serve.specs.declared.link_end.LinkEnd.TheVariants as stop
use Rattle.book_serve.specs.declared.serve_end.ServeEnd.{ServeEnd}
use Rattle.book_serve.specs.declared.serve_end.ServeEnd.TheVariants as close
use Rattle.book_engine.specs.Machine.{fresh}
use Rattle.book_sample.specs.Sample.{sample_text}
use Rattle.book_sample.specs.Shown.{AreLastAnswers}
use Rattle.book_app.specs.Machine.{answers}
use Rattle.book_app.specs.Respond.{kept_answers}
use Rattle.book_app.specs.ServeClause.{HasServedBook, PortsSeen, ServeClause}
use Rattle.book_app.specs.StatusClause.{HasLed, HoldsUnopened, ImportClause, IsBookRun, IsLeft, Keeping, OpenedTo}
use Rattle.book_app.specs.StatusClause.{SampleClause, ServedRows, StatusClause, WorkClause}
use Rattle.book_app.specs.Words.{Import, Lines, Sample, Serve, Work}
use Rattle.book_app.specs.declared.status.Status.{Status}
use Rattle.book_app.specs.declared.status.Status.TheVariants as status
use Rattle.book_app.specs.declared.words.ImportWords.{ImportWords}
use Rattle.book_app.specs.declared.words.ServeWords.{ServeWords}
use Rattle.book_complete.specs.Complete.{DoneClause, DoneOrMemory, EndedWell, EndsWell, HasServedWell, IsCompleteRun}
use Rattle.book_complete.specs.Complete.{IsToldOrMemory, LinksComplete, MemoryClause}
use Rattle.book_complete.specs.Quiet.{AreQuiet, DidNotRise, FaultsSeen, IsCaused}
use Rattle.book_complete.specs.Ready.{AreWords, BookOpens, IsReady}
use Rattle.book_complete.proofs.CountLaws.{quiet-not_rose, quiet-told}
use Rattle.book_complete.proofs.OpenLaws.{opens-not_bad, opens-not_unsound}

-- ---- the premises, each against the status that it excludes

not-bad : (keeping : Keeping) (kind id : ℕ) → BookOpens keeping → OpenedTo keeping (Bad (row_key kind id)) → ⊥
not-bad keeping kind id book opened =
    opens-not_bad book.rows book.machine (row_key kind id) book.rise book.opens (opened book.honest book.rows book.held)

not-unsound :
    (keeping : Keeping) (kind id : ℕ) → BookOpens keeping → OpenedTo keeping (Unsound (row_key kind id)) → ⊥
not-unsound keeping kind id book opened =
    opens-not_unsound book.rows book.machine (row_key kind id) book.opens (opened book.honest book.rows book.held)

known-are : (known bytes : List ℕ) (input : Option (List ℕ)) → input ≡ Some known → Are input bytes → known ≡ bytes
known-are known bytes input is are = subst (λ (o : Option (List ℕ)). IfSome o (λ l. l ≡ bytes)) is are

few-not_many : (bytes : List ℕ) → AreAll bytes → AreNotAll bytes → ⊥
few-not_many bytes all (inl long) = let room = all.room in omega (arith, room, long)
few-not_many bytes all (inr many) = let count = all.count in omega (arith, count, many)

-- ---- by the work

module _ (words : List (List ℕ)) (keeping : Keeping) (faults : FaultsSeen) (before after : List ℕ → Type 0)
    (bytes read left text : List ℕ) (are : AreWords words) (book : BookOpens keeping) (quiet : AreQuiet keeping faults)
  where
    lines-status :
        (ended : Status) → AreAll bytes → IsCaused words keeping faults ended
        → StatusClause keeping before after bytes read left text ended
        → DoneOrMemory ended (DoneClause Lines keeping before after bytes read left text)
        (MemoryClause Lines keeping read text)
    lines-status status.Done all causes clause =
        inl (
          refl,
          record {
            session = clause;
            told = quiet-told keeping.faults_before keeping.faults_after (marks text) quiet.keeper clause.run.2.kept;
          },
        )
    lines-status status.Memory all causes clause =
        inr (refl, clause)
    lines-status status.Usage all causes clause =
        absurd (are (causes.book.usage.0 refl))
    lines-status status.InputLimit all causes clause =
        absurd (few-not_many bytes all clause.run.0)
    lines-status status.InputFault all causes clause =
        absurd (quiet-not_rose faults.input_before faults.input_after quiet.input
        (causes.streams.input_faults.rose refl))
    lines-status status.OutputFault all causes clause =
        absurd (quiet-not_rose faults.output_before faults.output_after quiet.output
        (causes.streams.output_faults.rose refl))
    lines-status status.KeeperFault all causes clause =
        absurd (quiet-not_rose keeping.faults_before keeping.faults_after quiet.keeper (causes.book.keeper_fault refl))
    lines-status (status.BadRows kind id) all causes clause =
        absurd (not-bad keeping kind id book clause.1)
    lines-status (status.UnsoundBook kind id) all causes clause =
        absurd (not-unsound keeping kind id book clause.1)
    lines-status status.PortFault all causes clause =
        absurd clause

    import-status :
        (import : ImportWords) (ended : Status) → length read ≤ 2 ^ 23 → IsCaused words keeping faults ended
        → ImportClause import keeping before after read left text ended
        → DoneOrMemory ended (DoneClause (Import import) keeping before after bytes read left text)
        (MemoryClause (Import import) keeping read text)
    import-status import status.Done few causes clause =
        inl (
          refl,
          record {
            imported = clause;
            told = All-head IsToldOrMemory (mark_of clause.asked.2.answer) []
                (quiet-told keeping.faults_before keeping.faults_after (mark_of clause.asked.2.answer ∷ []) quiet.keeper
                clause.asked.2.gave.kept);
          },
        )
    import-status import status.Memory few causes clause =
        inr (refl, clause)
    import-status import status.Usage few causes clause =
        absurd (are (causes.book.usage.0 refl))
    import-status import status.InputLimit few causes clause =
        let many = clause.0.asked.0 in absurd (omega (arith, few, many))
    import-status import status.InputFault few causes clause =
        absurd (quiet-not_rose faults.input_before faults.input_after quiet.input
        (causes.streams.input_faults.rose refl))
    import-status import status.OutputFault few causes clause =
        absurd (quiet-not_rose faults.output_before faults.output_after quiet.output
        (causes.streams.output_faults.rose refl))
    import-status import status.KeeperFault few causes clause =
        absurd (quiet-not_rose keeping.faults_before keeping.faults_after quiet.keeper (causes.book.keeper_fault refl))
    import-status import (status.BadRows kind id) few causes clause =
        absurd (not-bad keeping kind id book clause.1)
    import-status import (status.UnsoundBook kind id) few causes clause =
        absurd (not-unsound keeping kind id book clause.1)
    import-status import status.PortFault few causes clause =
        absurd clause

serve-status :
    (words : List (List ℕ)) (keeping : Keeping) (faults : FaultsSeen) (ended : Status) → AreWords words
    → BookOpens keeping → DidNotRise keeping.faults_before keeping.faults_after
    → DidNotRise faults.ports_before faults.ports_after → IsCaused words keeping faults ended
    → ServedRows keeping ended
    → DoneOrMemory ended (HasLed keeping) (HoldsUnopened keeping ⊎ HasLed keeping)
serve-status words keeping faults status.Done are book kept ports causes clause =
    inl (refl, clause)
serve-status words keeping faults status.Memory are book kept ports causes clause =
    inr (refl, clause)
serve-status words keeping faults status.Usage are book kept ports causes clause =
    absurd (are (causes.book.usage.0 refl))
serve-status words keeping faults status.PortFault are book kept ports causes clause =
    absurd (quiet-not_rose faults.ports_before faults.ports_after ports (causes.book.port_faults.rose refl))
serve-status words keeping faults status.KeeperFault are book kept ports causes clause =
    absurd (quiet-not_rose keeping.faults_before keeping.faults_after kept (causes.book.keeper_fault refl))
serve-status words keeping faults (status.BadRows kind id) are book kept ports causes clause =
    absurd (not-bad keeping kind id book clause.1)
serve-status words keeping faults (status.UnsoundBook kind id) are book kept ports causes clause =
    absurd (not-unsound keeping kind id book clause.1)
serve-status words keeping faults status.InputFault are book kept ports causes clause =
    absurd clause
serve-status words keeping faults status.OutputFault are book kept ports causes clause =
    absurd clause
serve-status words keeping faults status.InputLimit are book kept ports causes clause =
    absurd clause

sample-status :
    (words : List (List ℕ)) (number : ℕ) (keeping : Keeping) (faults : FaultsSeen) (text : List ℕ) (ended : Status)
    → DidNotRise faults.output_before faults.output_after → IsCaused words keeping faults ended
    → SampleClause number text ended
    → DoneOrMemory ended (AreLastAnswers answers fresh (sample_text number) text) (text ≡ [])
sample-status words number keeping faults text status.Done output causes clause =
    inl (refl, clause)
sample-status words number keeping faults text status.Memory output causes clause =
    inr (refl, clause)
sample-status words number keeping faults text status.OutputFault output causes clause =
    absurd (quiet-not_rose faults.output_before faults.output_after output (causes.streams.output_faults.rose refl))
sample-status words number keeping faults text status.Usage output causes clause =
    absurd clause
sample-status words number keeping faults text status.InputLimit output causes clause =
    absurd clause
sample-status words number keeping faults text status.InputFault output causes clause =
    absurd clause
sample-status words number keeping faults text status.KeeperFault output causes clause =
    absurd clause
sample-status words number keeping faults text (status.BadRows kind id) output causes clause =
    absurd clause
sample-status words number keeping faults text (status.UnsoundBook kind id) output causes clause =
    absurd clause
sample-status words number keeping faults text status.PortFault output causes clause =
    absurd clause

with-one :
    {D M : Type 0} (ended : Status) (A : Type 0) → A → DoneOrMemory ended D M → DoneOrMemory ended (A × D) (A × M)
with-one ended A a (inl done) = inl (done.0, (a, done.1))
with-one ended A a (inr spent) = inr (spent.0, (a, spent.1))

with-both :
    {D M : Type 0} (ended : Status) (A B : Type 0) → A → B → DoneOrMemory ended D M
    → DoneOrMemory ended (A × B × D) (A × B × M)
with-both ended A B a b (inl done) = inl (done.0, (a, b, done.1))
with-both ended A B a b (inr spent) = inr (spent.0, (a, b, spent.1))

work-status :
    (words : List (List ℕ)) (work : Work) (keeping : Keeping) (faults : FaultsSeen) (input : Option (List ℕ))
    (before after : List ℕ → Type 0) (bytes read left text : List ℕ) (ended : Status) → AreWords words
    → IsReady work keeping faults input → Are input bytes → bytes ≡ read ++ left
    → IsCaused words keeping faults ended → WorkClause work keeping before after bytes read left text ended
    → DoneOrMemory ended (DoneClause work keeping before after bytes read left text)
    (MemoryClause work keeping read text)
work-status words Lines keeping faults input before after bytes read left text ended are ready is parts causes clause =
    let same = known-are ready.2.bytes bytes input ready.2.known is in
    lines-status words keeping faults before after bytes read left text are ready.0 ready.1 ended
    (subst AreAll same ready.2.few) causes clause
work-status words (Import import) keeping faults input before after bytes read left text ended are ready is parts causes
    clause =
    let same = known-are ready.2.bytes bytes input ready.2.known is in
    let few = ready.2.few in
    import-status words keeping faults before after bytes read left text are ready.0 ready.1 import ended
    (read-few ready.2.bytes read left (same ∙ parts) few) causes clause
  where
    read-few : (all read left : List ℕ) → all ≡ read ++ left → length all ≤ 2 ^ 23 → length read ≤ 2 ^ 23
    read-few all read left parts few =
        let short : length (read ++ left) ≤ 2 ^ 23 = subst (λ (l : List ℕ). length l ≤ 2 ^ 23) parts few in
        let both : length (read ++ left) ≡ length read + length left = length-append read left in
        omega (arith, short, both)
work-status words (Serve serve) keeping faults input before after bytes read left text ended are ready is parts causes
    clause =
    with-both ended (read ≡ []) (text ≡ []) clause.0 clause.1
    (serve-status words keeping faults ended are ready.0 ready.1 ready.2 causes clause.2)
work-status words (Sample number) keeping faults input before after bytes read left text ended are ready is parts causes
    clause = with-one ended (IsLeft keeping read) clause.0
    (sample-status words number keeping faults text ended ready causes clause.1)

-- Completeness: a run with words of the grammar that meets what its work has to meet is complete. So `run`, `import`,
-- `serve` and `sample` end by Done or by Memory.
pub book_run-complete :
    (words : List (List ℕ)) (work : Work) (keeping : Keeping) (faults : FaultsSeen)
    (input_before input_after : Option (List ℕ)) (output_before output_after : List ℕ → Type 0) (ended : Status)
    → AreWords words → IsReady work keeping faults input_before → IsCaused words keeping faults ended
    → IsBookRun work keeping input_before input_after output_before output_after ended
    → IsCompleteRun work keeping input_before input_after output_before output_after ended
book_run-complete words work keeping faults input_before input_after output_before output_after ended are ready causes
    run =
    record {
      bytes = run.bytes;
      read = run.read;
      left = run.left;
      text = run.text;
      bytes_are = run.bytes_are;
      left_are = run.left_are;
      parts = run.parts;
      few = run.few;
      wrote = run.wrote;
      clause = work-status words work keeping faults input_before output_before output_after run.bytes run.read
          run.left run.text ended are ready run.bytes_are run.parts causes run.clause;
    }

-- A complete run ends by Done or by Memory.
pub complete-ends :
    (work : Work) (keeping : Keeping) (input_before input_after : Option (List ℕ))
    (output_before output_after : List ℕ → Type 0) (ended : Status)
    → IsCompleteRun work keeping input_before input_after output_before output_after ended
    → (ended ≡ status.Done) ⊎ (ended ≡ status.Memory)
complete-ends work keeping input_before input_after output_before output_after ended run = either ended run.clause
  where
    either : {D M : Type 0} (ended : Status) → DoneOrMemory ended D M → (ended ≡ status.Done) ⊎ (ended ≡ status.Memory)
    either ended (inl done) = inl done.0
    either ended (inr spent) = inr spent.0

-- ---- links

ended-well :
    (ended : LinkEnd) (reads writes : ℕ) → (ended ≡ stop.ReadFault → 0 < reads)
    → (ended ≡ stop.WriteFault → 0 < writes) → reads ≡ 0 → writes ≡ 0 → EndedWell ended
ended-well stop.Done reads writes read write no_read no_write = tt
ended-well stop.Cut reads writes read write no_read no_write = tt
ended-well stop.Limit reads writes read write no_read no_write = tt
ended-well stop.OutOfMemory reads writes read write no_read no_write = tt
ended-well stop.ReadFault reads writes read write no_read no_write =
    let some = read refl in absurd (omega (arith, some, no_read))
ended-well stop.WriteFault reads writes read write no_read no_write =
    let some = write refl in absurd (omega (arith, some, no_write))

links-well :
    {S L : Type 0} (answers : RequestRelation S) (of : LinkReports L) (old : S) (before : ℕ)
    (links : List (ServedLink L)) (new : S) (after : ℕ) → ServedInTurn answers of old before links new after
    → All (EndsWell of) links
links-well answers of old before [] new after turn = All-nil (EndsWell of)
links-well answers of old before (link ∷ more) new after turn =
    All-cons (EndsWell of) link more
    (ended-well link.end (of.read_faults link.closed) (of.write_faults link.closed) turn.2.read_fault
    turn.2.write_fault)
    (links-well answers of turn.0 turn.1 more new after turn.3)

served-well :
    {L : Type 0} (serve : ServeWords) (keeping : Keeping) (of : LinkReports L) (ports : PortsSeen L)
    (ended : ServeEnd) → HasServedBook serve keeping of ports ended → HasServedWell serve keeping of ports ended
served-well serve keeping of ports ended book = record {
  book = book;
  well = links-well kept_answers of book.first keeping.faults_before book.served.links book.last keeping.faults_after
      book.served.served.in_turn;
}

-- Completeness of `serve`: it ends by Done or by Memory, and each link of which no read and no write failed ends by
-- Done, Cut, Limit or OutOfMemory.
pub serve-complete :
    {L : Type 0} (words : List (List ℕ)) (serve : ServeWords) (keeping : Keeping) (faults : FaultsSeen)
    (of : LinkReports L) (ports : PortsSeen L) (input : Option (List ℕ)) (ended : Status) → AreWords words
    → IsReady (Serve serve) keeping faults input → IsCaused words keeping faults ended
    → ServedRows keeping ended → ServeClause serve keeping of ports ended → LinksComplete serve keeping of ports ended
serve-complete words serve keeping faults of ports input status.Done are ready causes rows clause =
    inl (refl, served-well serve keeping of ports close.Done clause)
serve-complete words serve keeping faults of ports input status.Memory are ready causes rows (inl none) =
    inr (refl, inl none)
serve-complete words serve keeping faults of ports input status.Memory are ready causes rows (inr book) =
    inr (refl, inr (served-well serve keeping of ports close.OutOfMemory book))
serve-complete words serve keeping faults of ports input status.Usage are ready causes rows clause =
    absurd (are (causes.book.usage.0 refl))
serve-complete words serve keeping faults of ports input status.PortFault are ready causes rows clause =
    absurd (quiet-not_rose faults.ports_before faults.ports_after ready.2 (causes.book.port_faults.rose refl))
serve-complete words serve keeping faults of ports input status.KeeperFault are ready causes rows clause =
    absurd (quiet-not_rose keeping.faults_before keeping.faults_after ready.1 (causes.book.keeper_fault refl))
serve-complete words serve keeping faults of ports input (status.BadRows kind id) are ready causes rows clause =
    absurd (not-bad keeping kind id ready.0 rows.1)
serve-complete words serve keeping faults of ports input (status.UnsoundBook kind id) are ready causes rows clause =
    absurd (not-unsound keeping kind id ready.0 rows.1)
serve-complete words serve keeping faults of ports input status.InputFault are ready causes rows clause = absurd clause
serve-complete words serve keeping faults of ports input status.OutputFault are ready causes rows clause = absurd clause
serve-complete words serve keeping faults of ports input status.InputLimit are ready causes rows clause = absurd clause

-- What it is that a run of the program is complete: it ends by Done, with all that its words ask for, or by Memory.
use Rattle.std.specs.Prelude.{◌≡◌, ℕ, ◌+◌, ◌^◌, ◌≤◌, ◌⊎◌, ⊤, All, List, [], ◌++◌, Option, length}
use Rattle.book_keeper.specs.Stream.{Are, Wrote}
use Rattle.book_lines.specs.Marks.{Answered, Keeper, Mark, Memory as NoMemory, mark_of, marks}
use Rattle.book_lines.specs.declared.running.RunEnd.TheVariants as end
use Rattle.book_engine.specs.Machine.{fresh}
use Rattle.book_sample.specs.Sample.{sample_text}
use Rattle.book_sample.specs.Shown.{AreLastAnswers}
use Rattle.book_serve.specs.Served.{LinkReports, ServedLink}
use Rattle.book_serve.specs.declared.link_end.LinkEnd.{LinkEnd}
use Rattle.book_serve.specs.declared.link_end.LinkEnd.TheVariants as stop
use Rattle.book_serve.specs.declared.serve_end.ServeEnd.{ServeEnd}
use Rattle.book_serve.specs.declared.serve_end.ServeEnd.TheVariants as close
use Rattle.book_app.specs.Machine.{answers}
use Rattle.book_app.specs.ServeClause.{HasServedBook, NoneAccepted, PortsSeen}
use Rattle.book_app.specs.StatusClause.{HasLed, HoldsUnopened, IsImported, IsLeft, IsSession, IsUnopened, Keeping}
use Rattle.book_app.specs.Words.{Import, Lines, Sample, Serve, Work}
use Rattle.book_app.specs.declared.status.Status.{Status}
use Rattle.book_app.specs.declared.status.Status.TheVariants.{Done, Memory}
use Rattle.book_app.specs.declared.words.ImportWords.{ImportWords}
use Rattle.book_app.specs.declared.words.ServeWords.{ServeWords}

-- A line was answered by the machine, or it is said that there was no memory for it.
abbrev pub IsToldOrMemory : Mark → Type 0
IsToldOrMemory Answered = ⊤
IsToldOrMemory NoMemory = ⊤
IsToldOrMemory Keeper = ⊥

-- It ended by Done, and one thing holds; or by Memory, and another does.
abbrev pub DoneOrMemory : Status → Type 0 → Type 0 → Type 0
DoneOrMemory status done memory = ((status ≡ Done) × done) ⊎ ((status ≡ Memory) × memory)

-- All lines of the input were answered, and each is told or `memory`.
pub record AreAllTold (keeping : Keeping) (output_before output_after : List ℕ → Type 0) (bytes read left text : List ℕ)
    : Type 0 where
  pub session : IsSession keeping output_before output_after bytes read left text end.Done
  pub told : All IsToldOrMemory (marks text)

-- The input was imported, and its one answer is the machine's, or says that there was no memory.
pub record IsImportTold (import : ImportWords) (keeping : Keeping) (output_before output_after : List ℕ → Type 0)
    (read left text : List ℕ) : Type 0 where
  pub imported : IsImported import keeping output_before output_after read left text end.Done
  pub told : IsToldOrMemory (mark_of imported.asked.2.answer)

-- By the work that the words ask for, what holds at Done: all lines are answered; or the input is imported; or links
-- were served, from the machine as which the rows opened on; or the last two answers of the sample are written.
abbrev pub DoneClause :
    Work → Keeping → (List ℕ → Type 0) → (List ℕ → Type 0) → List ℕ → List ℕ → List ℕ → List ℕ → Type 0
DoneClause Lines keeping before after bytes read left text = AreAllTold keeping before after bytes read left text
DoneClause (Import import) keeping before after bytes read left text =
    IsImportTold import keeping before after read left text
DoneClause (Serve serve) keeping before after bytes read left text = (read ≡ []) × (text ≡ []) × HasLed keeping
DoneClause (Sample number) keeping before after bytes read left text =
    IsLeft keeping read × AreLastAnswers answers fresh (sample_text number) text

-- What holds at Memory: nothing was read and nothing written. `run` and `import` did not open the book; the links that
-- were served before the memory was spent may have changed its rows.
abbrev pub MemoryClause : Work → Keeping → List ℕ → List ℕ → Type 0
MemoryClause Lines keeping read text = IsUnopened keeping read text
MemoryClause (Import import) keeping read text = IsUnopened keeping read text
MemoryClause (Serve serve) keeping read text = (read ≡ []) × (text ≡ []) × (HoldsUnopened keeping ⊎ HasLed keeping)
MemoryClause (Sample number) keeping read text = IsLeft keeping read × (text ≡ [])

-- A run of the program that is complete: what was read and what is left of the input, and what was written, as far as
-- input and output report it; and of these what belongs to Done or to Memory.
pub record IsCompleteRun
    (work : Work) (keeping : Keeping) (input_before input_after : Option (List ℕ))
    (output_before output_after : List ℕ → Type 0) (status : Status) : Type 0 where
  pub bytes : List ℕ
  pub read : List ℕ
  pub left : List ℕ
  pub text : List ℕ
  pub bytes_are : Are input_before bytes
  pub left_are : Are input_after left
  pub parts : bytes ≡ read ++ left
  pub few : length read ≤ 2 ^ 33 + 1
  pub wrote : Wrote output_before output_after text
  pub clause : DoneOrMemory status (DoneClause work keeping output_before output_after bytes read left text)
      (MemoryClause work keeping read text)

-- A link ended by Done, Cut, Limit or OutOfMemory.
abbrev pub EndedWell : LinkEnd → Type 0
EndedWell stop.Done = ⊤
EndedWell stop.Cut = ⊤
EndedWell stop.Limit = ⊤
EndedWell stop.OutOfMemory = ⊤
EndedWell stop.ReadFault = ⊥
EndedWell stop.WriteFault = ⊥

-- A link of which no read and no write failed ended well.
abbrev pub EndsWell : {L : Type 0} → LinkReports L → ServedLink L → Type 0
EndsWell of link = of.read_faults link.closed ≡ 0 → of.write_faults link.closed ≡ 0 → EndedWell link.end

-- Links were served up to this end, and each of which no read and no write failed ended well.
pub record HasServedWell {L : Type 0} (serve : ServeWords) (keeping : Keeping) (of : LinkReports L)
    (ports : PortsSeen L) (ended : ServeEnd) : Type 0 where
  pub book : HasServedBook serve keeping of ports ended
  pub well : All (EndsWell of) book.served.links

-- With the words of `serve`, what became of the links: at Memory none came, or the last one ended for want of memory.
abbrev pub LinksComplete : {L : Type 0} → ServeWords → Keeping → LinkReports L → PortsSeen L → Status → Type 0
LinksComplete serve keeping of ports status =
    DoneOrMemory status (HasServedWell serve keeping of ports close.Done)
    ((NoneAccepted ports × HoldsUnopened keeping) ⊎ HasServedWell serve keeping of ports close.OutOfMemory)

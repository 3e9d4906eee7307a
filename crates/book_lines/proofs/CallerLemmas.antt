-- For callers: what a run says, said over another type of states.
use Rattle.std.proofs.Common.{ℕ, List, Option}
use Rattle.book_lines.specs.Lines.{lines, whole_lines, sent}
use Rattle.book_lines.specs.Marks.{Mark, marks}
use Rattle.book_lines.specs.Transcript.{AnswerRelation, IsCutShort}
use Rattle.book_lines.specs.RunClause.{Moment, at, IsAnswered, IsBroken, RunClause, IsRun}
use Rattle.book_lines.specs.declared.running.RunEnd.{RunEnd}
use Rattle.book_lines.specs.declared.running.RunEnd.TheVariants.{Done, InputLimit, InputFault, OutputFault}
use Rattle.book_lines.proofs.RunLemmas.{Run-map}

-- A map of states takes each answer of A to an answer of B.
pub record Maps {S T : Type 0} (A : AnswerRelation S) (B : AnswerRelation T) (f : S → T) : Type 0 where
  pub each : (old : S) (line : List ℕ) (mark : Mark) (answer : List ℕ) (new : S) → A old line mark answer new
      → B (f old) line mark answer (f new)

-- the moment with the state that a map gives
abbrev pub moment_map : {S T : Type 0} → (S → T) → Moment S → Moment T
moment_map f m = at (f m.machine) m.written m.faults

pub IsAnswered-map : {S T : Type 0} (A : AnswerRelation S) (B : AnswerRelation T) (f : S → T) → Maps A B f
    → (old : Moment S) (all : List (List ℕ)) (text : List ℕ) (new : Moment S) → IsAnswered A old all text new
    → IsAnswered B (moment_map f old) all text (moment_map f new)
IsAnswered-map A B f h old all text new p =
    record {
      transcript = Run-map A B f h.each old.machine (sent all)
          (marks text) text new.machine p.transcript;
      kept = p.kept;
    }

pub IsCutShort-map : {S T : Type 0} (A : AnswerRelation S) (B : AnswerRelation T) (f : S → T) → Maps A B f
    → (old : S) (all : List (List ℕ)) (text : List ℕ) (mark : Mark) (new : S) → IsCutShort A old all text mark new
    → IsCutShort B (f old) all text mark (f new)
IsCutShort-map A B f h old all text mark new p =
    record { more = p.more; some = p.some; run = Run-map A B f h.each old _ _ _ new p.run }

pub IsBroken-map : {S T : Type 0} (A : AnswerRelation S) (B : AnswerRelation T) (f : S → T) → Maps A B f
    → (old : Moment S) (all : List (List ℕ)) (text : List ℕ) (new : Moment S) → IsBroken A old all text new
    → IsBroken B (moment_map f old) all text (moment_map f new)
IsBroken-map A B f h old all text new p =
    record { mark = p.mark; cut = IsCutShort-map A B f h old.machine all text p.mark new.machine p.cut; kept = p.kept }

pub RunClause-map : {S T : Type 0} (A : AnswerRelation S) (B : AnswerRelation T) (f : S → T) → Maps A B f
    → (old : Moment S) (bytes read left text : List ℕ) (new : Moment S) (end : RunEnd)
    → RunClause A old bytes read left text new end
    → RunClause B (moment_map f old) bytes read left text (moment_map f new) end
RunClause-map A B f h old bytes read left text new Done p =
    (p.0, p.1, IsAnswered-map A B f h old (lines bytes) text new p.2)
RunClause-map A B f h old bytes read left text new InputLimit p =
    (p.0, IsAnswered-map A B f h old (lines bytes) text new p.1)
RunClause-map A B f h old bytes read left text new InputFault p =
    (p.0, IsAnswered-map A B f h old (whole_lines read) text new p.1)
RunClause-map A B f h old bytes read left text new OutputFault p = IsBroken-map A B f h old (lines bytes) text new p

-- the whole run
pub IsRun-map : {S T : Type 0} (A : AnswerRelation S) (B : AnswerRelation T) (f : S → T) → Maps A B f
    → (before after : Option (List ℕ)) (old new : Moment S) (end : RunEnd) → IsRun A before after old new end
    → IsRun B before after (moment_map f old) (moment_map f new) end
IsRun-map A B f h before after old new end p =
    record {
      bytes = p.bytes;
      read = p.read;
      left = p.left;
      text = p.text;
      bytes_are = p.bytes_are;
      left_are = p.left_are;
      parts = p.parts;
      few = p.few;
      wrote = p.wrote;
      clause = RunClause-map A B f h old p.bytes p.read p.left p.text new end p.clause;
    }

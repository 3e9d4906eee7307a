-- What the parts say of a whole input that was answered at each of its ends, and the same over other states.
use Rattle.std.proofs.Common.{◌≡◌, ℕ, ◌+◌, ◌^◌, ◌≤◌, List, [], ◌++◌, length, Option, refl, sym, subst, ap, ◌∙◌, arith}
use Rattle.std.proofs.Common.{append-nil}
use Rattle.std.specs.Io.KnownBytes.{IsAtEnd}
use Rattle.book_keeper.specs.Stream.{Are}
use Rattle.book_keeper.proofs.StreamLemmas.{Are-some, Are-end, Are-Consumes, Wrote-nil}
use Rattle.book_lines.specs.Marks.{Mark}
use Rattle.book_lines.specs.Transcript.{AnswerRelation}
use Rattle.book_lines.specs.Room.{Seen}
use Rattle.book_lines.specs.RunClause.{Moment, at}
use Rattle.book_lines.specs.WholeClause.{HasAsked, HasHalted, HasRead, IsOneAnswer, IsWhole, WholeClause}
use Rattle.book_lines.specs.declared.running.RunEnd.{RunEnd}
use Rattle.book_lines.specs.declared.running.RunEnd.TheVariants.{Done, InputLimit, InputFault, OutputFault}
use Rattle.book_lines.proofs.RoomLemmas.{size_is}

-- the input was read to its end, and asked
pub IsWhole-asked : {S : Type 0} (answers : AnswerRelation S) (before after : Option (List ℕ)) (a b : Moment S)
    (room : Seen) (end : RunEnd)
    → (p : HasRead before after room) → IsAtEnd after → room.size ≤ 2 ^ 23 → HasAsked answers a p.read b end
    → IsWhole answers before after a b end
IsWhole-asked answers before after a b room InputLimit p over short h = absurd h
IsWhole-asked answers before after a b room InputFault p over short h = absurd h
IsWhole-asked answers before after a b room Done p over short h =
    let nothing = Are-end after over in
    record {
      bytes = p.read;
      read = p.read;
      left = [];
      text = h.0;
      bytes_are = subst (λ l. Are before l) (append-nil p.read) (Are-Consumes before after p.read [] p.took nothing);
      left_are = nothing;
      parts = sym (append-nil p.read);
      few = p.few;
      wrote = h.1;
      clause = (omega (arith, short, size_is room p.read p.room_is), refl, h.2);
    }
IsWhole-asked answers before after a b room OutputFault p over short h =
    let nothing = Are-end after over in
    record {
      bytes = p.read;
      read = p.read;
      left = [];
      text = h.0;
      bytes_are = subst (λ l. Are before l) (append-nil p.read) (Are-Consumes before after p.read [] p.took nothing);
      left_are = nothing;
      parts = sym (append-nil p.read);
      few = p.few;
      wrote = h.2;
      clause = (omega (arith, short, size_is room p.read p.room_is), refl, h.1, h.3, h.4);
    }

-- the input was not read to its end, and nothing was asked
pub IsWhole-unasked : {S : Type 0} (answers : AnswerRelation S) (before after : Option (List ℕ)) (a : Moment S)
    (room : Seen) (end : RunEnd)
    → HasRead before after room → HasHalted room.size end → IsWhole answers before after a a end
IsWhole-unasked answers before after a room Done p h = absurd h
IsWhole-unasked answers before after a room OutputFault p h = absurd h
IsWhole-unasked answers before after a room InputLimit p h =
    let left = Are-some after in
    record {
      bytes = p.read ++ left.0;
      read = p.read;
      left = left.0;
      text = [];
      bytes_are = Are-Consumes before after p.read left.0 p.took left.1;
      left_are = left.1;
      parts = refl;
      few = p.few;
      wrote = Wrote-nil a.written;
      clause = (
        omega (arith, h, p.few, size_is room p.read p.room_is),
        refl,
        record { same_machine = refl; same_faults = refl },
      );
    }
IsWhole-unasked answers before after a room InputFault p h =
    let left = Are-some after in
    record {
      bytes = p.read ++ left.0;
      read = p.read;
      left = left.0;
      text = [];
      bytes_are = Are-Consumes before after p.read left.0 p.took left.1;
      left_are = left.1;
      parts = refl;
      few = p.few;
      wrote = Wrote-nil a.written;
      clause = (
        omega (arith, h, size_is room p.read p.room_is),
        refl,
        record { same_machine = refl; same_faults = refl },
      );
    }

-- From one state on, a map of states takes each answer of A to an answer of B.
pub record MapsFrom {S T : Type 0} (A : AnswerRelation S) (B : AnswerRelation T) (f : S → T) (old : S) : Type 0 where
  pub each : (line : List ℕ) (mark : Mark) (answer : List ℕ) (new : S) → A old line mark answer new
      → B (f old) line mark answer (f new)

-- the moment with the state that a map gives
abbrev pub moment_of : {S T : Type 0} → (S → T) → Moment S → Moment T
moment_of f m = at (f m.machine) m.written m.faults

IsOneAnswer-map : {S T : Type 0} (A : AnswerRelation S) (B : AnswerRelation T) (f : S → T) (old : Moment S)
    → MapsFrom A B f old.machine → (bytes text : List ℕ) (new : Moment S) → IsOneAnswer A old bytes text new
    → IsOneAnswer B (moment_of f old) bytes text (moment_of f new)
IsOneAnswer-map A B f old h bytes text new p =
    record {
      answer = p.answer;
      text_is = p.text_is;
      gave = record {
        answered = h.each bytes _ p.answer new.machine p.gave.answered;
        one_line = p.gave.one_line;
        kept = p.gave.kept;
      };
    }

WholeClause-map : {S T : Type 0} (A : AnswerRelation S) (B : AnswerRelation T) (f : S → T) (old : Moment S)
    → MapsFrom A B f old.machine → (read left text : List ℕ) (new : Moment S) (end : RunEnd)
    → WholeClause A old read left text new end
    → WholeClause B (moment_of f old) read left text (moment_of f new) end
WholeClause-map A B f old h read left text new Done p =
    (p.0, p.1, IsOneAnswer-map A B f old h read text new p.2)
WholeClause-map A B f old h read left text new OutputFault p =
    (p.0, p.1, p.2, p.3, IsOneAnswer-map A B f old h read (text ++ p.2) new p.4)
WholeClause-map A B f old h read left text new InputLimit p =
    (p.0, p.1, record { same_machine = ap f p.2.same_machine; same_faults = p.2.same_faults })
WholeClause-map A B f old h read left text new InputFault p =
    (p.0, p.1, record { same_machine = ap f p.2.same_machine; same_faults = p.2.same_faults })

-- For callers: what was answered, said over another type of states.
pub IsWhole-map : {S T : Type 0} (A : AnswerRelation S) (B : AnswerRelation T) (f : S → T)
    (before after : Option (List ℕ)) (old new : Moment S) (end : RunEnd)
    → MapsFrom A B f old.machine → IsWhole A before after old new end
    → IsWhole B before after (moment_of f old) (moment_of f new) end
IsWhole-map A B f before after old new end h p =
    record {
      bytes = p.bytes;
      read = p.read;
      left = p.left;
      text = p.text;
      bytes_are = p.bytes_are;
      left_are = p.left_are;
      parts = p.parts;
      few = p.few;
      wrote = p.wrote;
      clause = WholeClause-map A B f old h p.read p.left p.text new end p.clause;
    }

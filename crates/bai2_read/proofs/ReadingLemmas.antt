-- What is known of a text whose first lines were read.
use Rattle.std.proofs.Common.{◌≡◌, ℕ, ◌+◌, List, [], ◌∷◌, ◌++◌, length, Option, Some, None, Result, Ok, Err, refl}
use Rattle.std.proofs.Common.{sym, ap, subst, ◌∙◌, arith, inl, inr}
use Rattle.std.proofs.lemmas.Bool.{cases_Bool}
use Rattle.std.proofs.lemmas.List.{append-nil}
use Rattle.book_statement.specs.Checks.{Gives, first_fault}
use Rattle.book_statement.specs.Texts as texts
use Rattle.book_statement.specs.declared.fault.StatementFault.{StatementFault}
use Rattle.book_statement.specs.declared.read_error.ReadError.{ReadError}
use Rattle.book_statement.specs.declared.read_error.ReadError.TheVariants.{Fault, OutOfMemory}
use Rattle.book_statement.specs.declared.statement.Statement.{Statement}
use Rattle.bai2_read.specs.Kept.{Keeps, Leads, done_at, last_at, with_last}
use Rattle.bai2_read.specs.Kinds.{body_of, continues, kind_of}
use Rattle.bai2_read.specs.Lines.{Part, part_after, records_of}
use Rattle.bai2_read.specs.Reading.{Known, places, reading, result_of}
use Rattle.bai2_read.specs.Records.{Record, whole}
use Rattle.bai2_read.specs.declared.kind.Kind.{Kind}
use Rattle.bai2_read.specs.declared.kind.Kind.TheVariants.{Blank, Continuation}
use Rattle.bai2_read.specs.declared.reader.Reader.{Reader}
use Rattle.bai2_read.proofs.GatheredLemmas.{Begun, Gathered, add, behind, closed, fill, fill_add, whole_of}
use Rattle.bai2_read.proofs.GatheredLemmas.{with_continuation}
use Rattle.bai2_read.proofs.KeptLemmas.{fault_stays}
use Rattle.bai2_read.proofs.RecordLemmas.{whole_push}

-- the last record
abbrev pub pending_of : Option Begun → Option Record
pending_of None = None
pending_of (Some b) = Some (whole_of b)

-- the complete records and the last one
closed_is : (done : List Record) (last : Option Begun) → with_last done (pending_of last) ≡ closed done last
closed_is done None = refl
closed_is done (Some b) = refl

-- the same with one line more
done_on : (line : ℕ) (body : List ℕ) (done : List Record) (last : Option Begun)
    → done_at Continuation done (pending_of last) ≡ (with_continuation line body done last).done
done_on line body done None = refl
done_on line body done (Some b) =
    elim (cases_Bool (continues b.kind)) [ inl goes ↦ rw goes refl | inr ends ↦ rw ends refl ]

last_on : (line : ℕ) (body : List ℕ) (done : List Record) (last : Option Begun)
    → last_at line Continuation body (pending_of last) ≡ pending_of (with_continuation line body done last).last
last_on line body done None = refl
last_on line body done (Some b) =
    elim (cases_Bool (continues b.kind)) [
      | inl goes ↦ rw goes
          (ap Some (sym (whole_push b.line b.kind b.body b.more (record { line = line; body = body }))))
      | inr ends ↦ rw ends refl
    ]

done_add : (line : ℕ) (kind : Kind) (body : List ℕ) (t : Gathered)
    → done_at kind t.done (pending_of t.last) ≡ (add line kind body t).done
done_add line Blank body t = refl
done_add line Continuation body t = done_on line body t.done t.last
done_add line _ body t = closed_is t.done t.last

last_add : (line : ℕ) (kind : Kind) (body : List ℕ) (t : Gathered)
    → last_at line kind body (pending_of t.last) ≡ pending_of (add line kind body t).last
last_add line Blank body t = refl
last_add line Continuation body t = last_on line body t.done t.last
last_add line _ body t = refl

-- so many lines were read, and the rest of the text is still to be read
pub record SoFar (known : Known) (reader : Reader) (lines : ℕ) (rest text : List ℕ) : Type 0 where
  pub gathered : Gathered
  pub keeps : Keeps known reader gathered.done (pending_of gathered.last)
  pub whole : records_of (texts.lines_of text) ≡ fill gathered (part_after lines (texts.lines_of rest))
  pub count : length (texts.lines_of text) ≡ lines + length (texts.lines_of rest)

pub first_so_far :
    (known : Known) (reader : Reader) (text : List ℕ) → Keeps known reader [] None → SoFar known reader 0 text text
first_so_far known reader text keeps = record {
  gathered = record { done = []; last = None };
  keeps = keeps;
  whole = refl;
  count = omega arith;
}

-- what a call says that takes a line
abbrev pub Takes : Known → ℕ → List ℕ → Reader → Result (Unit {0}) ReadError → Reader → Type 0
Takes known number line old result new =
    (done : List Record) (last : Option Record) → Keeps known old done last
    → Leads known (done_at (kind_of line) done last) (last_at number (kind_of line) (body_of line) last) result new

whole_next :
    (known : Known) (reader : Reader) (lines after : ℕ) (rest text line behind : List ℕ)
    (so : SoFar known reader lines rest text)
    → texts.lines_of rest ≡ line ∷ texts.lines_of behind
    → after ≡ lines + 1
    → records_of (texts.lines_of text)
    ≡ fill (add after (kind_of line) (body_of line) so.gathered) (part_after after (texts.lines_of behind))
whole_next known reader lines after rest text line behind so cut is =
    so.whole
    ∙ ap (λ (ls : List (List ℕ)). fill so.gathered (part_after lines ls)) cut
    ∙ fill_add (lines + 1) (kind_of line) (body_of line) so.gathered (part_after (lines + 1) (texts.lines_of behind))
    ∙ ap (λ (n : ℕ). fill (add n (kind_of line) (body_of line) so.gathered) (part_after n (texts.lines_of behind)))
    (sym is)

pub next_so_far :
    (known : Known) (reader new : Reader) (lines after : ℕ) (rest text line behind : List ℕ)
    → SoFar known reader lines rest text
    → texts.lines_of rest ≡ line ∷ texts.lines_of behind
    → after ≡ lines + 1
    → Takes known after line reader (Ok tt) new
    → SoFar known new after behind text
next_so_far known reader new lines after rest text line behind so cut is takes =
    let t = so.gathered in
    let more = add after (kind_of line) (body_of line) t in
    record {
      gathered = more;
      keeps =
          subst (λ (last : Option Record). Keeps known new more.done last)
          (last_add after (kind_of line) (body_of line) t)
          (subst (λ (done : List Record). Keeps known new done
          (last_at after (kind_of line) (body_of line) (pending_of t.last)))
          (done_add after (kind_of line) (body_of line) t) (takes t.done (pending_of t.last) so.keeps));
      whole = whole_next known reader lines after rest text line behind so cut is;
      count = omega (arith, so.count, ap length cut, is);
    }

-- what a reader answers that stops at a line
pub error_so_far :
    (known : Known) (reader new : Reader) (lines after : ℕ) (rest text line behind : List ℕ) (error : ReadError)
    → SoFar known reader lines rest text
    → texts.lines_of rest ≡ line ∷ texts.lines_of behind
    → after ≡ lines + 1
    → Takes known after line reader (Err error) new
    → Gives {X = List Statement} (reading known text) (Err error)
error_so_far known reader new lines after rest text line rest_behind OutOfMemory so cut is takes = tt
error_so_far known reader new lines after rest text line rest_behind (Fault fault) so cut is takes =
    let t = so.gathered in
    let more = add after (kind_of line) (body_of line) t in
    let part : Part = part_after after (texts.lines_of rest_behind) in
    let total = length (texts.lines_of text) in
    let fails : first_fault (places known more.done) ≡ Some fault =
    subst (λ (done : List Record). first_fault (places known done) ≡ Some fault)
    (done_add after (kind_of line) (body_of line) t) (takes t.done (pending_of t.last) so.keeps) in
    ap (result_of known total) (whole_next known reader lines after rest text line rest_behind so cut is)
    ∙ fault_stays known total more.done (behind more.last part) fault fails

-- no lines are left
abbrev pub no_part : Part
no_part = record { loose = []; records = [] }

no_more : (done : List Record) (last : Option Begun)
    → fill (record { done = done; last = last }) no_part ≡ with_last done (pending_of last)
no_more done None = append-nil done
no_more done (Some b) =
    elim (cases_Bool (continues b.kind)) [
      | inl goes ↦ rw goes (ap (λ l. done ++ whole b.line b.kind b.body l ∷ []) (append-nil b.more))
      | inr ends ↦ rw ends refl
    ]

-- what a reader says at the end of the file is what the file says
pub end_so_far :
    (known : Known) (reader : Reader) (lines : ℕ) (rest text : List ℕ) (result : Result (List Statement) ReadError)
    → SoFar known reader lines rest text → rest ≡ []
    → ((done : List Record) (last : Option Record) → Keeps known reader done last
    → Gives (result_of known lines (with_last done last)) result)
    → Gives (reading known text) result
end_so_far known reader lines rest text result so none ends =
    let t = so.gathered in
    let count : lines ≡ length (texts.lines_of text) =
    omega (arith, so.count, ap (λ (l : List ℕ). length (texts.lines_of l)) none) in
    let all : with_last t.done (pending_of t.last) ≡ records_of (texts.lines_of text) =
    sym (so.whole ∙ ap (λ (l : List ℕ). fill t (part_after lines (texts.lines_of l))) none ∙ no_more t.done t.last) in
    subst (λ (said : Result (List Statement) StatementFault). Gives said result)
    (ap (result_of known lines) all ∙ ap (λ (n : ℕ). result_of known n (records_of (texts.lines_of text))) count)
    (ends t.done (pending_of t.last) so.keeps)

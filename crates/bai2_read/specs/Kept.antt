-- What the reader keeps of the lines that it has read, in terms of their records. Private contracts tie the reader's
-- own structs to the definitions by what stands here; no public clause rests on it.
use Rattle.std.specs.Prelude.{ℕ, ◌≡◌, ◌+◌, Bool, false, List, [], ◌∷◌, ◌++◌, Option, Some, None, Result, Ok, Err, ⊤}
use Rattle.std.specs.Prelude.{if◌then◌else◌}
use Rattle.book_statement.specs.Checks.{first_fault}
use Rattle.book_statement.specs.Texts.{add_piece}
use Rattle.book_statement.specs.declared.read_error.ReadError.{ReadError}
use Rattle.book_statement.specs.declared.read_error.ReadError.TheVariants.{Fault, OutOfMemory}
use Rattle.bai2_read.specs.Kinds.{continues}
use Rattle.bai2_read.specs.Reading.{Known, places}
use Rattle.bai2_read.specs.Records.{Record, is_full, piece_of, whole}
use Rattle.bai2_read.specs.Said.{Said, Sums, said_by}
use Rattle.bai2_read.specs.declared.context.Context.{Context}
use Rattle.bai2_read.specs.declared.kind.Kind.{Kind}
use Rattle.bai2_read.specs.declared.kind.Kind.TheVariants.{Blank, Continuation}
use Rattle.bai2_read.specs.declared.reader.Reader.{Reader}
use Rattle.bai2_read.specs.declared.tally.Tally.{Tally}

-- The sums that a tally holds.
abbrev pub sums_in : Tally → Sums
sums_in tally = record { total = tally.total; parts = tally.parts; records = tally.records }

-- What a context holds of the records before a record.
abbrev pub said_in : Context → Said
said_in context = record {
  last = context.place;
  number = context.number;
  day = context.day;
  currency = context.currency;
  account = context.account;
  lines = context.lines;
  of_account = sums_in context.of_account;
  of_group = sums_in context.of_group;
  of_file = sums_in context.of_file;
  statements = context.statements;
}

-- The reader keeps these complete records and a last one, whose continuations may still come: it holds what the
-- complete ones say, no check of theirs fails, and it has the last one.
pub record Keeps (known : Known) (reader : Reader) (done : List Record) (last : Option Record) : Type 0 where
  pub said : said_in reader.context ≡ said_by done
  pub sound : first_fault (places known done) ≡ None
  pub pending : reader.pending ≡ last

-- What a call answers behind which the reader keeps these records; it has a fault where a check of a complete record
-- fails.
abbrev pub Leads : Known → List Record → Option Record → Result (Unit {0}) ReadError → Reader → Type 0
Leads known done last (Ok _) reader = Keeps known reader done last
Leads known done last (Err (Fault fault)) reader = first_fault (places known done) ≡ Some fault
Leads known done last (Err OutOfMemory) reader = ⊤

-- Complete records with the last one, where that is complete too.
abbrev pub with_last : List Record → Option Record → List Record
with_last done None = done
with_last done (Some r) = done ++ r ∷ []

-- Whether a continuation behind this record belongs to it (BAI2, record 88).
abbrev pub goes_on : Option Record → Bool
goes_on None = false
goes_on (Some r) = continues r.kind

-- A record with one continuation more: a line more, and its fields or its text.
abbrev pub with_more : Record → List ℕ → Record
with_more r body = record {
  line = r.line;
  kind = r.kind;
  lines = r.lines + 1;
  body = if is_full r.kind r.body then r.body else r.body ++ body;
  text = if is_full r.kind r.body then add_piece r.text (piece_of body) else r.text;
}

-- The last record with these fields of a continuation.
abbrev pub longer : List ℕ → Option Record → Option Record
longer body None = None
longer body (Some r) = Some (with_more r body)

-- The complete records before a line of this kind and behind it: an empty line and a continuation that belongs to the
-- last record complete none, any other line completes the last record.
abbrev pub done_at : Kind → List Record → Option Record → List Record
done_at Blank done last = done
done_at Continuation done last = if goes_on last then done else with_last done last
done_at _ done last = with_last done last

-- The last record behind a line with this number, kind and fields.
abbrev pub last_at : ℕ → Kind → List ℕ → Option Record → Option Record
last_at number Blank body last = last
last_at number Continuation body last =
    if goes_on last then longer body last else Some (whole number Continuation body [])
last_at number kind body last = Some (whole number kind body [])

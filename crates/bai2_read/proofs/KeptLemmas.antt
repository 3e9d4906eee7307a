-- What the reader keeps with one record more, and with one line more.
use Rattle.std.proofs.Common.{◌≡◌, ℕ, Bool, true, false, cond, List, [], ◌∷◌, ◌++◌, Option, Some, None, Result, Ok}
use Rattle.std.proofs.Common.{Err, refl, sym}
use Rattle.std.proofs.Common.{ap, subst, ◌∙◌, pos, ◌+◌, ◌+ℤ◌}
use Rattle.std.specs.Prelude.{ℤ, IfOk, if◌then◌else◌}
use Rattle.book_statement.specs.Checks.{Gives, Place, first_fault, unless_fault}
use Rattle.book_statement.specs.Lists.{each_after}
use Rattle.book_statement.specs.declared.fault.StatementFault.{StatementFault}
use Rattle.book_statement.specs.declared.level.Level.{Level}
use Rattle.book_statement.specs.declared.level.Level.TheVariants.{Account, Group, File}
use Rattle.book_statement.specs.declared.read_error.ReadError.{ReadError}
use Rattle.book_statement.specs.declared.read_error.ReadError.TheVariants.{Fault, OutOfMemory}
use Rattle.book_statement.specs.declared.statement.Statement.{Statement}
use Rattle.book_statement.proofs.CheckLemmas.{first_fault-here, first_fault-past}
use Rattle.book_statement.proofs.ListLemmas.{each_after-append, each_after-push}
use Rattle.bai2_read.specs.Kept.{Keeps, Leads, done_at, goes_on, last_at, said_in, sums_in, with_last}
use Rattle.bai2_read.specs.Kinds.{counts_anew, is_account_header, is_account_trailer, is_file_header, is_group_header}
use Rattle.bai2_read.specs.Reading.{Known, end_place, places, record_place, result_of}
use Rattle.bai2_read.specs.Records.{Record, whole}
use Rattle.bai2_read.specs.Said.{Said, Sums, amount_in, last_kind, lines_in, part_in, said_by, statements_of, sums_of}
use Rattle.bai2_read.specs.Statements.{currency_in, day_in, number_in, statement_with}
use Rattle.bai2_read.specs.declared.context.Context.{Context}
use Rattle.bai2_read.specs.declared.kind.Kind.{Kind}
use Rattle.bai2_read.specs.declared.kind.Kind.TheVariants.{Blank, Continuation}
use Rattle.bai2_read.specs.declared.reader.Reader.{Reader}
use Rattle.bai2_read.specs.declared.tally.Tally.{Tally}
use Rattle.bai2_read.proofs.After.{added, after, next_sums, no_sums}
use Rattle.bai2_read.proofs.SaidLemmas.{said_push, sums_of_push}

-- a tally with one record more
pub tally_more :
    (level : Level) (tally start sums : Tally) (r : Record) (total : ℤ) (parts records : ℕ)
    → sums ≡ (let more : Tally = record {
      total = start.total +ℤ total;
      parts = start.parts + parts;
      records = start.records + records;
    } in more)
    → sums_in start ≡ cond (counts_anew level r.kind) no_sums (sums_in tally)
    → total ≡ amount_in level r.kind r.body → parts ≡ part_in level r.kind → records ≡ r.lines
    → (before : List Record) → sums_in tally ≡ sums_of level before
    → sums_in sums ≡ sums_of level (before ++ r ∷ [])
tally_more level tally start sums r total parts records is start_is total_is parts_is records_is before said =
    ap sums_in is
    ∙ ap (λ (s : Sums). added s total parts records) start_is
    ∙ ap (λ (z : ℤ). added (cond (counts_anew level r.kind) no_sums (sums_in tally)) z parts records) total_is
    ∙ ap (λ (n : ℕ). added (cond (counts_anew level r.kind) no_sums (sums_in tally)) (amount_in level r.kind r.body) n
    records) parts_is
    ∙ ap (λ (n : ℕ). added (cond (counts_anew level r.kind) no_sums (sums_in tally)) (amount_in level r.kind r.body)
    (part_in level r.kind) n) records_is
    ∙ ap (λ (s : Sums). next_sums level s r) said
    ∙ sym (sums_of_push level before r)

-- the sums of no records, where something begins anew
pub emptied :
    (tally start : Tally) (anew : Bool)
    → start ≡ cond anew (let none : Tally = record { total = pos 0; parts = 0; records = 0 } in none) tally
    → sums_in start ≡ cond anew no_sums (sums_in tally)
emptied tally start true is = ap sums_in is
emptied tally start false is = ap sums_in is

pub tally_next :
    {E : Type 0} (level : Level) (tally start : Tally) (r : Record) (total : ℤ) (parts records : ℕ)
    (result : Result Tally E)
    → IfOk result (λ sums. sums ≡ (let more : Tally = record {
      total = start.total +ℤ total;
      parts = start.parts + parts;
      records = start.records + records;
    } in more))
    → sums_in start ≡ cond (counts_anew level r.kind) no_sums (sums_in tally)
    → total ≡ amount_in level r.kind r.body → parts ≡ part_in level r.kind → records ≡ r.lines
    → IfOk result (λ sums. (before : List Record) → sums_in tally ≡ sums_of level before
    → sums_in sums ≡ sums_of level (before ++ r ∷ []))
tally_next level tally start r total parts records (Err error) is start_is total_is parts_is records_is = tt
tally_next level tally start r total parts records (Ok sums) is start_is total_is parts_is records_is =
    λ before said. tally_more level tally start sums r total parts records is start_is total_is parts_is records_is
    before said

-- a context with what a record says, its sums aside
abbrev pub context_with : Context → Record → Context
context_with old r = record old {
  place = r.kind;
  number = if is_file_header r.kind then number_in r.body else old.number;
  day = if is_group_header r.kind then day_in r.body else old.day;
  currency = if is_group_header r.kind then currency_in r.body else old.currency;
  account = if is_account_header r.kind then r.body else old.account;
  lines = if counts_anew Account r.kind then [] else old.lines ++ lines_in old.day r.kind r.body r.text;
  statements =
      old.statements
      ++ (if is_account_trailer r.kind
      then statement_with old.number old.day old.currency old.account old.lines ∷ []
      else []);
}

abbrev pub with_tallies : Context → Tally → Tally → Tally → Context
with_tallies c a g f = record c { of_account = a; of_group = g; of_file = f }

abbrev with_sums : Said → Sums → Sums → Sums → Said
with_sums s a g f = record s { of_account = a; of_group = g; of_file = f }

-- a context with one record more
pub context_more :
    (old mid : Context) (a g f : Tally) (r : Record) → mid ≡ context_with old r
    → (before : List Record) → said_in old ≡ said_by before
    → (sums_in old.of_account ≡ sums_of Account before → sums_in a ≡ sums_of Account (before ++ r ∷ []))
    → (sums_in old.of_group ≡ sums_of Group before → sums_in g ≡ sums_of Group (before ++ r ∷ []))
    → (sums_in old.of_file ≡ sums_of File before → sums_in f ≡ sums_of File (before ++ r ∷ []))
    → said_in (with_tallies mid a g f) ≡ said_by (before ++ r ∷ [])
context_more old mid a g f r is before said account group file =
    let all = before ++ r ∷ [] in
    ap (λ (c : Context). said_in (with_tallies c a g f)) is
    ∙ ap (λ (s : Said). with_sums (after s r) (sums_in a) (sums_in g) (sums_in f)) said
    ∙ ap (λ (s : Said). with_sums s (sums_in a) (sums_in g) (sums_in f)) (sym (said_push before r))
    ∙ ap (λ (s : Sums). with_sums (said_by all) s (sums_in g) (sums_in f))
    (account (ap (λ (s : Said). s.of_account) said))
    ∙ ap (λ (s : Sums). with_sums (said_by all) (sums_of Account all) s (sums_in f))
    (group (ap (λ (s : Said). s.of_group) said))
    ∙ ap (λ (s : Sums). with_sums (said_by all) (sums_of Account all) (sums_of Group all) s)
    (file (ap (λ (s : Said). s.of_file) said))

places_push : (known : Known) (done : List Record) (r : Record)
    → places known (done ++ r ∷ []) ≡ places known done ++ record_place known (said_by done) r ∷ []
places_push known done r = each_after-push (λ before s. record_place known (said_by before) s ∷ []) done r

-- the fault of the last record, behind sound ones
last_fault : (known : Known) (done : List Record) (r : Record) (said : Said) → said ≡ said_by done
    → first_fault (places known done) ≡ None
    → first_fault (places known (done ++ r ∷ [])) ≡ first_fault (record_place known said r ∷ [])
last_fault known done r said is sound =
    ap first_fault (places_push known done r)
    ∙ first_fault-past (places known done) (record_place known (said_by done) r ∷ []) sound
    ∙ ap (λ (s : Said). first_fault (record_place known s r ∷ [])) (sym is)

-- the last record has a fault
pub settled_fault :
    (known : Known) (old : Reader) (done : List Record) (last : Option Record) (r : Record) (fault : StatementFault)
    → Keeps known old done last → old.pending ≡ Some r
    → Some fault ≡ first_fault (record_place known (said_in old.context) r ∷ [])
    → first_fault (places known (with_last done last)) ≡ Some fault
settled_fault known old done last r fault k some fails =
    let is : last ≡ Some r = sym k.pending ∙ some in
    subst (λ (l : Option Record). first_fault (places known (with_last done l)) ≡ Some fault) (sym is)
    (last_fault known done r (said_in old.context) k.said k.sound ∙ sym fails)

-- it has none
pub settled_some :
    (known : Known) (old new : Reader) (done : List Record) (last : Option Record) (r : Record)
    → Keeps known old done last → old.pending ≡ Some r
    → None ≡ first_fault (record_place known (said_in old.context) r ∷ [])
    → ((before : List Record) → said_in old.context ≡ said_by before
    → said_in new.context ≡ said_by (before ++ r ∷ []))
    → new.pending ≡ None
    → Keeps known new (with_last done last) None
settled_some known old new done last r k some passes kept new_none =
    let is : last ≡ Some r = sym k.pending ∙ some in
    subst (λ (l : Option Record). Keeps known new (with_last done l) None) (sym is) (record {
      said = kept done k.said;
      sound = last_fault known done r (said_in old.context) k.said k.sound ∙ sym passes;
      pending = new_none;
    })

-- the records behind complete ones play no part in their fault
pub fault_stays :
    (known : Known) (lines : ℕ) (done more : List Record) (fault : StatementFault)
    → first_fault (places known done) ≡ Some fault → result_of known lines (done ++ more) ≡ Err fault
fault_stays known lines done more fault fails =
    let all = done ++ more in
    let placed = λ (before : List Record) (s : Record). record_place known (said_by before) s ∷ [] in
    let end = end_place lines (last_kind all) ∷ [] in
    let later : List Place = each_after placed done more in
    let split : places known all ≡ places known done ++ later = each_after-append placed [] done more in
    let found : first_fault (places known all ++ end) ≡ Some fault =
    ap (λ (ps : List Place). first_fault (ps ++ end)) split
    ∙ first_fault-here (places known done ++ later) end fault
    (first_fault-here (places known done) later fault fails) in
    ap (λ (f : Option StatementFault). unless_fault f (statements_of all)) found

-- a call that stops at complete records tells the file's fault
pub stopped : (known : Known) (lines : ℕ) (done : List Record) (last : Option Record) (error : ReadError)
    (reader : Reader) → Leads known done last (Err error) reader
    → Gives {X = List Statement} (result_of known lines done) (Err error)
stopped known lines done last OutOfMemory reader leads = tt
stopped known lines done last (Fault fault) reader fails =
    let end = end_place lines (last_kind done) ∷ [] in
    ap (λ (f : Option StatementFault). unless_fault f (statements_of done))
    (first_fault-here (places known done) end fault fails)

-- what sound records say at the end of the file
pub said_at_end : (known : Known) (lines : ℕ) (reader : Reader) (done : List Record) (last : Option Record)
    (found : Option StatementFault) → Keeps known reader done last
    → found ≡ first_fault (end_place lines reader.context.place ∷ [])
    → result_of known lines done ≡ unless_fault found reader.context.statements
said_at_end known lines reader done last found k is =
    let place : reader.context.place ≡ last_kind done = ap (λ (s : Said). s.last) k.said in
    let statements : reader.context.statements ≡ statements_of done = ap (λ (s : Said). s.statements) k.said in
    ap (λ (f : Option StatementFault). unless_fault f (statements_of done))
    (first_fault-past (places known done) (end_place lines (last_kind done) ∷ []) k.sound
    ∙ sym (is ∙ ap (λ (p : Kind). first_fault (end_place lines p ∷ [])) place))
    ∙ ap (λ (l : List Statement). unless_fault found l) (sym statements)

-- a continuation that belongs to no record is one by itself
pub ends_here :
    (known : Known) (number : ℕ) (body : List ℕ) (done : List Record) (last : Option Record)
    (result : Result (Unit {0}) ReadError) (reader : Reader) → goes_on last ≡ false
    → Leads known (with_last done last) (Some (whole number Continuation body [])) result reader
    → Leads known (done_at Continuation done last) (last_at number Continuation body last) result reader
ends_here known number body done last result reader ends leads = rw ends leads

-- a line that begins a record
pub begins_here :
    (known : Known) (number : ℕ) (kind : Kind) (body : List ℕ) (done : List Record) (last : Option Record)
    (result : Result (Unit {0}) ReadError) (reader : Reader)
    → (kind ≡ Blank → ⊥) → (kind ≡ Continuation → ⊥)
    → Leads known (with_last done last) (Some (whole number kind body [])) result reader
    → Leads known (done_at kind done last) (last_at number kind body last) result reader
begins_here known number Blank body done last result reader full fresh leads = absurd (full refl)
begins_here known number Continuation body done last result reader full fresh leads = absurd (fresh refl)
begins_here known number _ body done last result reader full fresh leads = leads

-- where a line leads, by its kind and its fields
pub line_leads :
    (known : Known) (number : ℕ) (kind is_kind : Kind) (body is_body : List ℕ) (done : List Record)
    (last : Option Record) (result : Result (Unit {0}) ReadError) (reader : Reader)
    → kind ≡ is_kind → body ≡ is_body
    → Leads known (done_at kind done last) (last_at number kind body last) result reader
    → Leads known (done_at is_kind done last) (last_at number is_kind is_body last) result reader
line_leads known number kind is_kind body is_body done last result reader kinds bodies leads =
    subst (λ (b : List ℕ). Leads known (done_at is_kind done last) (last_at number is_kind b last) result reader) bodies
    (subst (λ (k : Kind). Leads known (done_at k done last) (last_at number k body last) result reader) kinds leads)

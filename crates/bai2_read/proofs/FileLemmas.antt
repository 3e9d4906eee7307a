-- What the records of a file say against the trees that they are the records of.
use Rattle.std.proofs.Common.{◌≡◌, ℕ, List, [], ◌∷◌, ◌++◌, length, Option, Some, None, Result, Ok, Err, refl, sym, ap}
use Rattle.std.proofs.Common.{subst, ◌∙◌, append_assoc}
use Rattle.std.specs.Prelude.{IfOk}
use Rattle.std.specs.Option.{option_or}
use Rattle.std.proofs.lemmas.List.{append-nil}
use Rattle.book_statement.specs.Checks.{Gives, Place, fault_at, first_bad, first_fault, unless_fault}
use Rattle.book_statement.specs.Lists.{each_after}
use Rattle.book_statement.specs.Texts as texts
use Rattle.book_statement.specs.declared.bad.Bad.{Bad}
use Rattle.book_statement.specs.declared.fault.StatementFault.{StatementFault}
use Rattle.book_statement.specs.declared.read_error.ReadError.{ReadError}
use Rattle.book_statement.specs.declared.read_error.ReadError.TheVariants.{Fault, OutOfMemory}
use Rattle.book_statement.specs.declared.statement.Statement.{Statement}
use Rattle.book_statement.proofs.CheckLemmas.{first_fault-append, first_fault-past}
use Rattle.bai2_read.specs.Said.{said_by}
use Rattle.bai2_read.specs.Lines.{records_of}
use Rattle.bai2_read.specs.Reading.{Known, end_place, places, reading, record_place, result_of}
use Rattle.bai2_read.specs.Records.{Record}
use Rattle.bai2_read.specs.Tree.{FileTree, records_of_file, statements_of_file}
use Rattle.bai2_read.specs.TreeRules.{FileRules, HasTree, Reads}
use Rattle.bai2_read.specs.Said.{Said}
use Rattle.bai2_read.specs.declared.kind.Kind.{Kind}
use Rattle.bai2_read.specs.declared.kind.Kind.TheVariants.{FileTrailer}
use Rattle.bai2_read.proofs.SaidLemmas.{said_push}
use Rattle.bai2_read.proofs.ParseLemmas.{parse_file}
use Rattle.bai2_read.proofs.StepLemmas.{AtEnd}
use Rattle.bai2_read.proofs.WalkLemmas.{Reaches, reach_more, walk_file}

-- no fault at a place and none behind it
none_split : (line : ℕ) (found : Option Bad) (later : Option StatementFault) → fault_at line found later ≡ None
    → (fault_at line found None ≡ None) × (later ≡ None)
none_split line None later e = (refl, e)
none_split line (Some bad) later e = absurd cc

or_split : (found later : Option StatementFault) → option_or found later ≡ None → (found ≡ None) × (later ≡ None)
or_split None later e = (refl, e)
or_split (Some fault) later e = absurd cc

abbrev placed : Known → List Record → Record → List Place
placed known before r = record_place known (said_by before) r ∷ []

-- records among which no check fails are read without a fault
flat_walk : (known : Known) (rs done : List Record) → first_fault (each_after (placed known) done rs) ≡ None
    → Reaches known (said_by done) rs (λ c. c ≡ said_by (done ++ rs))
flat_walk known [] done none = ap (λ (l : List Record). said_by l) (sym (append-nil done))
flat_walk known (r ∷ rs) done none =
    let p = record_place known (said_by done) r in
    let later = each_after (placed known) (done ++ r ∷ []) rs in
    let both = none_split p.line (first_bad p.checks) (first_fault later) none in
    let rest = flat_walk known rs (done ++ r ∷ []) both.1 in (
      both.0,
      subst (λ (d : Said). Reaches known d rs (λ c. c ≡ said_by (done ++ r ∷ rs))) (said_push done r)
          (subst (λ (l : List Record). Reaches known (said_by (done ++ r ∷ [])) rs (λ c. c ≡ said_by l))
          (append_assoc done (r ∷ []) rs) rest),
    )

-- and the other way round
walk_flat : (known : Known) (rs done : List Record) (P : Said → Type 0) → Reaches known (said_by done) rs P
    → (first_fault (each_after (placed known) done rs) ≡ None) × P (said_by (done ++ rs))
walk_flat known [] done P h = (refl, subst (λ (l : List Record). P (said_by l)) (sym (append-nil done)) h)
walk_flat known (r ∷ rs) done P h =
    let p = record_place known (said_by done) r in
    let later = each_after (placed known) (done ++ r ∷ []) rs in
    let rest = walk_flat known rs (done ++ r ∷ []) P
    (subst (λ (d : Said). Reaches known d rs P) (sym (said_push done r)) h.1) in (
      first_fault-past (p ∷ []) later h.0 ∙ rest.0,
      subst (λ (l : List Record). P (said_by l)) (append_assoc done (r ∷ []) rs) rest.1,
    )

-- a file ends with its trailer
ends_with : (lines : ℕ) (last : Kind) → first_fault (end_place lines last ∷ []) ≡ None → last ≡ FileTrailer
unfolding end_place
ends_with lines FileTrailer none = refl
ends_with lines _ none = absurd cc

no_fault_at_end : (lines : ℕ) (last : Kind) → last ≡ FileTrailer → first_fault (end_place lines last ∷ []) ≡ None
unfolding end_place
no_fault_at_end lines last is = rw is refl

ok_split : (found : Option StatementFault) (value given : List Statement) → unless_fault found value ≡ Ok given
    → (found ≡ None) × (value ≡ given)
ok_split None value given e = (refl, cc)
ok_split (Some fault) value given e = absurd cc

-- records that are read have a tree
pub tree_of_records : (known : Known) (lines : ℕ) (rs : List Record) (statements : List Statement)
    → result_of known lines rs ≡ Ok statements → HasTree known rs statements
tree_of_records known lines rs statements read =
    let end = end_place lines ((said_by rs).last) ∷ [] in
    let ok = ok_split (first_fault (places known rs ++ end)) (said_by rs).statements statements read in
    let both = or_split (first_fault (places known rs)) (first_fault end)
    (sym (first_fault-append (places known rs) end) ∙ ok.0) in
    let place = ends_with lines (said_by rs).last both.1 in
    parse_file known rs statements
    (reach_more known rs (λ c. c ≡ said_by rs) (AtEnd statements) (said_by []) (flat_walk known rs [] both.0)
    (λ c is. record {
      place = ap (λ (d : Said). d.last) is ∙ place;
      statements = ap (λ (d : Said). d.statements) is ∙ ok.1;
    }))

-- the records of a tree that keeps the rules are read
pub records_of_tree : (known : Known) (lines : ℕ) (rs : List Record) (f : FileTree) → records_of_file f ≡ rs
    → FileRules known f → result_of known lines rs ≡ Ok (statements_of_file f)
records_of_tree known lines rs f laid rules =
    let P = λ (c : Said). AtEnd (statements_of_file f) c in
    let flat = walk_flat known rs [] P
    (subst (λ (l : List Record). Reaches known (said_by []) l P) laid (walk_file known f rules)) in
    let end = end_place lines ((said_by rs).last) ∷ [] in
    let found : first_fault (places known rs ++ end) ≡ None =
    first_fault-past (places known rs) end flat.0 ∙ no_fault_at_end lines (said_by rs).last flat.1.place in
    ap (λ (o : Option StatementFault). unless_fault o (said_by rs).statements) found
    ∙ ap Ok flat.1.statements

-- what a reader answers that gives exactly what a text says
pub has_tree : (known : Known) (text : List ℕ) (result : Result (List Statement) ReadError)
    → Gives (reading known text) result
    → IfOk result (λ statements. HasTree known (records_of (texts.lines_of text)) statements)
has_tree known text (Ok statements) said =
    tree_of_records known (length (texts.lines_of text)) (records_of (texts.lines_of text)) statements said
has_tree known text (Err error) said = tt

pub reads_tree : (known : Known) (text : List ℕ) (result : Result (List Statement) ReadError)
    → Gives (reading known text) result → (f : FileTree) → records_of_file f ≡ records_of (texts.lines_of text)
    → FileRules known f → Reads (statements_of_file f) result
reads_tree known text (Ok statements) said f laid rules =
    let read = records_of_tree known (length (texts.lines_of text)) (records_of (texts.lines_of text)) f laid rules in
    cc
reads_tree known text (Err OutOfMemory) said f laid rules = tt
reads_tree known text (Err (Fault fault)) said f laid rules =
    let read = records_of_tree known (length (texts.lines_of text)) (records_of (texts.lines_of text)) f laid rules in
    absurd cc

-- What a file says by what the reader keeps of a register, which is what the definition in Qif says of the whole file.
use Rattle.std.proofs.Common.{◌≡◌, ℕ, Bool, true, false, List, [], ◌∷◌, ◌++◌, length, map, Some, None, Result, cond}
use Rattle.std.proofs.Common.{not, refl, ap, ◌∙◌, ℤ}
use Rattle.book_statement.specs.Checks.{Place, place, first_fault}
use Rattle.book_statement.specs.Lists.{each_after}
use Rattle.book_statement.specs.declared.fault.StatementFault.{StatementFault}
use Rattle.book_statement.specs.declared.statement.Statement.{Statement}
use Rattle.book_statement.specs.Texts.{is_nothing}
use Rattle.book_statement.specs.declared.statement_line.StatementLine.{StatementLine}
use Rattle.qif_read.specs.Tree.{Line, Entry, Listing}
use Rattle.qif_read.specs.Entries.{amount_of, day_of}
use Rattle.qif_read.specs.Registers.{account_named, is_opening, latest, lines_in, statement_in}
use Rattle.qif_read.specs.Kept.{day_said, line_said, end_checks}
use Rattle.qif_read.specs.Sections.{no_entries, statements_in}
use Rattle.qif_read.specs.Qif as whole
use Rattle.qif_read.specs.Qif.{account_places, answer_of, line_checks, name_behind}
use Rattle.qif_read.specs.declared.form.Form.{Form}
use Rattle.qif_read.specs.declared.section.Section.{Section}
use Rattle.qif_read.specs.declared.kind.Topic.{Topic}
use Rattle.qif_read.specs.declared.kind.Topic.TheVariants.{Register, Accounts, Passed}
use Rattle.qif_read.proofs.KeptEntries.{splits_of, said, all_said, opened_by, begun_by, with_later, section_of}
use Rattle.qif_read.proofs.SameEntries.{begun_same, line_same, lines_same, days_same, end_same}

-- What the entries of a list give: only those of a register give something.
abbrev pub section_in : Form → Topic → List ℕ → List Entry → Section
section_in form Register name entries = section_of form name entries
section_in form Accounts name entries = no_entries []
section_in form Passed name entries = no_entries []

-- The statement of a list behind others, if it gives one.
abbrev pub statements_behind : Form → List Listing → Listing → List Statement
statements_behind form before listing =
    statements_in form (section_in form listing.topic (name_behind before) listing.entries)

-- The statements of a file.
abbrev pub statements : Form → List Listing → List Statement
statements form listings = each_after (statements_behind form) [] listings

-- The checks of a line of an entry behind others.
abbrev pub line_places : Form → List Line → Line → List Place
line_places form before f =
    place f.line (line_checks form (not (is_nothing (splits_of form.fraction before))) f.code f.text) ∷ []

-- The checks of an entry of a register behind others: of its lines, and of its end.
abbrev pub entry_places : Form → List ℕ → ℕ → List Entry → Entry → List Place
entry_places form name count before entry =
    let lines = (section_of form name before).lines in
    each_after (line_places form) [] entry.fields
    ++ place entry.last (end_checks entry.whole (length lines) count (said form entry.fields)) ∷ []

-- The checks of the entries of a list, in front of which a name and so many statements stand.
abbrev pub entries_places : Form → Topic → List ℕ → ℕ → List Entry → List Place
entries_places form Register name count entries = each_after (entry_places form name count) [] entries
entries_places form Accounts name count entries = each_after account_places [] entries
entries_places form Passed name count entries = []

-- The checks of a list behind others.
abbrev pub listing_places : Form → List Listing → Listing → List Place
listing_places form before listing =
    entries_places form listing.topic (name_behind before) (length (statements form before)) listing.entries

-- The checks of a file, in the order of its lines.
abbrev pub places : Form → List Listing → List Place
places form listings = each_after (listing_places form) [] listings

-- What lists of entries say.
abbrev pub result_of : Form → List Listing → Result (List Statement) StatementFault
result_of form listings = answer_of (first_fault (places form listings)) (statements form listings)

-- The statement of a register is the one that is made of what is kept of it.
abbrev statement_with : Form → List ℕ → Bool → List Line → List ℤ → List StatementLine → List StatementLine
    → List Statement
statement_with form name opens first days lines later = record {
  account_text = cond opens (account_named first) name;
  number = [];
  currency = form.currency;
  opening = cond opens (Some (amount_of form first)) None;
  closing = None;
  day = latest (day_of form first) days;
  ties = None;
  lines = cond opens later (lines ++ later);
} ∷ []

statement_opened : (form : Form) (name : List ℕ) (first : List Line) (es : List Entry) (opens : Bool)
    → statement_with form name opens first (map day_said (all_said form es)) (line_said (said form first) ∷ [])
    (map line_said (all_said form es))
    ≡ statements_in form
    (with_later (cond opens (opened_by (said form first)) (begun_by name (said form first))) (all_said form es))
unfolding said
statement_opened form name first es true = refl
statement_opened form name first es false = refl

statement_same : (form : Form) (name : List ℕ) (entries : List Entry)
    → statement_in form name entries ≡ statements_in form (section_of form name entries)
unfolding said
statement_same form name [] = refl
statement_same form name (e ∷ es) =
    (λ i. statement_with form name (is_opening name e.fields) e.fields (days_same form es i)
    (line_same form e.fields i ∷ []) (lines_same form es i))
    ∙ statement_opened form name e.fields es (is_opening name e.fields)

-- So are its lines.
lines_opened : (form : Form) (name : List ℕ) (first : List Line) (es : List Entry) (opens : Bool)
    → cond opens (map line_said (all_said form es)) (line_said (said form first) ∷ map line_said (all_said form es))
    ≡ (with_later (cond opens (opened_by (said form first)) (begun_by name (said form first))) (all_said form es)).lines
unfolding said
lines_opened form name first es true = refl
lines_opened form name first es false = refl

register_lines : (form : Form) (name : List ℕ) (entries : List Entry)
    → lines_in form name entries ≡ (section_of form name entries).lines
unfolding said
register_lines form name [] = refl
register_lines form name (e ∷ es) =
    (λ i. cond (is_opening name e.fields) (lines_same form es i) (line_same form e.fields i ∷ lines_same form es i))
    ∙ lines_opened form name e.fields es (is_opening name e.fields)

-- So are those of a file.
listing_same : (form : Form) (topic : Topic) (name : List ℕ) (entries : List Entry)
    → whole.statements_of form topic name entries ≡ statements_in form (section_in form topic name entries)
listing_same form Register name entries = statement_same form name entries
listing_same form Accounts name entries = refl
listing_same form Passed name entries = refl

statements_same : (form : Form) (listings : List Listing) → whole.statements form listings ≡ statements form listings
statements_same form listings =
    λ i. each_after (λ (before : List Listing) (listing : Listing).
    listing_same form listing.topic (name_behind before) listing.entries i) [] listings

-- And so are the checks.
place_same : (form : Form) (before : List Line) (f : Line) → whole.line_places form before f ≡ line_places form before f
place_same form before f =
    λ i. place f.line (line_checks form (begun_same form.fraction before i) f.code f.text) ∷ []

entry_same : (form : Form) (name : List ℕ) (count : ℕ) (before : List Entry) (entry : Entry)
    → whole.entry_places form name count before entry ≡ entry_places form name count before entry
entry_same form name count before entry =
    (λ i. each_after (λ (lines : List Line) (f : Line). place_same form lines f i) [] entry.fields
    ++ place entry.last (end_same form entry.whole (length (lines_in form name before)) count entry.fields i) ∷ [])
    ∙ (λ i. each_after (line_places form) [] entry.fields
    ++ place entry.last
    (end_checks entry.whole (length (register_lines form name before i)) count (said form entry.fields)) ∷ [])

entries_same : (form : Form) (topic : Topic) (name : List ℕ) (count : ℕ) (entries : List Entry)
    → whole.entries_places form topic name count entries ≡ entries_places form topic name count entries
entries_same form Register name count entries =
    λ i. each_after (λ (before : List Entry) (entry : Entry). entry_same form name count before entry i) [] entries
entries_same form Accounts name count entries = refl
entries_same form Passed name count entries = refl

checks_same : (form : Form) (before : List Listing) (listing : Listing)
    → whole.listing_places form before listing ≡ listing_places form before listing
checks_same form before listing =
    ap (λ ss. whole.entries_places form listing.topic (name_behind before) (length ss) listing.entries)
    (statements_same form before)
    ∙ entries_same form listing.topic (name_behind before) (length (statements form before)) listing.entries

-- What a file says by the tree is what it says by what is kept.
pub result_same : (form : Form) (listings : List Listing) → whole.result_of form listings ≡ result_of form listings
result_same form listings =
    λ i. answer_of (first_fault (each_after (λ (before : List Listing) (listing : Listing).
    checks_same form before listing i) [] listings)) (statements_same form listings i)

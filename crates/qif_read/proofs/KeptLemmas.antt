-- What the reader keeps is a function of the tree that was read: how lines, ends of entries and headers change both
-- alike.
use Rattle.std.proofs.Common.{◌≡◌, ℕ, Bool, true, false, ◌&&◌, not, List, [], ◌∷◌, ◌++◌, length, Option, Some, None}
use Rattle.std.proofs.Common.{append_assoc, refl, ap, ◌∙◌}
use Rattle.std.specs.Option.{option_or}
use Rattle.book_statement.specs.Checks.{Place, first_fault}
use Rattle.book_statement.specs.Lists.{each_after}
use Rattle.book_statement.specs.Texts.{is_nothing}
use Rattle.book_statement.specs.declared.fault.StatementFault.{StatementFault}
use Rattle.book_statement.proofs.CheckLemmas.{first_fault-append}
use Rattle.book_statement.proofs.ListLemmas.{each_after-push}
use Rattle.qif_read.specs.Tree.{Line, Entry, Listing}
use Rattle.qif_read.specs.Qif.{name_given, name_behind}
use Rattle.qif_read.specs.Steps.{nothing, line_fault, field_fault, with_field}
use Rattle.qif_read.specs.declared.form.Form.{Form}
use Rattle.qif_read.specs.declared.kind.Code.{Code}
use Rattle.qif_read.specs.declared.kind.Topic.{Topic}
use Rattle.qif_read.specs.declared.kind.Topic.TheVariants.{Register, Accounts, Passed}
use Rattle.qif_read.specs.declared.reader.Reader.{Reader}
use Rattle.qif_read.specs.declared.said.Said.{Said}
use Rattle.qif_read.proofs.Growing.{Begun, begun}
use Rattle.qif_read.proofs.KeptEntries.{said}
use Rattle.qif_read.proofs.KeptReading.{section_in, statements, line_places, entries_places, places}
use Rattle.qif_read.proofs.PushLemmas.{line_at, said-push, name_said, name_said-push}

-- whether a list has no item
abbrev pub is_empty : {X : Type 0} → List X → Bool
is_empty [] = true
is_empty (x ∷ xs) = false

pub empty-push : {X : Type 0} (xs : List X) (x : X) → is_empty (xs ++ x ∷ []) ≡ false
empty-push [] x = refl
empty-push (y ∷ xs) x = refl

-- whether an entry has begun, in a list whose entries are kept
abbrev pub started_in : Topic → List Line → Bool
started_in Register fs = not (is_empty fs)
started_in Accounts fs = not (is_empty fs)
started_in Passed fs = false

-- what is kept of its lines
abbrev pub said_in : Form → Topic → List Line → Said
said_in form Register fs = said form fs
said_in form Accounts fs = name_said fs
said_in form Passed fs = nothing

-- the checks of its lines
abbrev pub fields_places : Form → Topic → List Line → List Place
fields_places form Register fs = each_after (line_places form) [] fs
fields_places form Accounts fs = []
fields_places form Passed fs = []

-- the checks of the entries that have ended
abbrev pub ended_places : Form → Begun → List Place
ended_places form b =
    entries_places form b.topic (name_behind b.listings) (length (statements form b.listings)) b.entries

-- the checks of what was read
abbrev pub so_far : Form → Begun → List Place
so_far form b = places form b.listings ++ (ended_places form b ++ fields_places form b.topic b.fields)

-- what the reader keeps of what was read
abbrev pub kept_of : Form → Begun → Reader
kept_of form b = record {
  done = statements form b.listings;
  topic = b.topic;
  name = name_given b.topic b.entries;
  section = section_in form b.topic (name_behind b.listings) b.entries;
  started = started_in b.topic b.fields;
  said = said_in form b.topic b.fields;
  pending = first_fault (so_far form b);
}

-- whether a register has an entry, ended or not; `none` says that no earlier one has
abbrev pub has_entry_in : Topic → Bool → Bool → Bool
has_entry_in Register none empty = not (none && empty)
has_entry_in Accounts none empty = not none
has_entry_in Passed none empty = not none

abbrev pub has_entry : Form → Begun → Bool
has_entry form b =
    has_entry_in b.topic (is_nothing (statements form b.listings)) (is_empty b.entries && is_empty b.fields)

-- what the reader knows: a fault only waits where no register has an entry
pub record Knows (form : Form) (kept : Reader) (b : Begun) : Type 0 where
  pub same : kept ≡ kept_of form b
  pub sound : has_entry form b ≡ true → first_fault (so_far form b) ≡ None

pub or-both : (o p : Option StatementFault) → option_or o p ≡ None → (o ≡ None) × (p ≡ None)
or-both None p e = (refl, e)
or-both (Some f) p e = absurd cc

pub and_nothing : (a : Bool) → (a && false) ≡ false
and_nothing true = refl
and_nothing false = refl

-- one line more in a register: its checks follow the others
pub so_far-line : (form : Form) (ls : List Listing) (es : List Entry) (fs : List Line) (f : Line)
    → so_far form (begun ls Register es (fs ++ f ∷ [])) ≡ so_far form (begun ls Register es fs) ++ line_places form fs f
so_far-line form ls es fs f =
    rw (each_after-push (line_places form) fs f)
    (simp append_assoc)

-- the first fault with that line
pub first_fault-line : (form : Form) (ls : List Listing) (es : List Entry) (fs : List Line) (line : ℕ)
    (code : Code) (text : List ℕ)
    → first_fault (so_far form (begun ls Register es (fs ++ line_at line code text ∷ [])))
    ≡ field_fault Register form (kept_of form (begun ls Register es fs)) line code text
unfolding said
first_fault-line form ls es fs line code text =
    ap first_fault (so_far-line form ls es fs (line_at line code text))
    ∙ first_fault-append (so_far form (begun ls Register es fs)) (line_places form fs (line_at line code text))

has_line : (a : Bool) (es : List Entry) (fs : List Line) (f : Line)
    → not (a && (is_empty es && is_empty (fs ++ f ∷ []))) ≡ true
has_line a es fs f =
    rw (empty-push fs f, and_nothing (is_empty es), and_nothing a) refl

-- a line that is in order
pub line_kept : (form : Form) (ls : List Listing) (topic : Topic) (es : List Entry) (fs : List Line) (line : ℕ)
    (code : Code) (text : List ℕ)
    → (has_entry form (begun ls topic es fs) ≡ true → first_fault (so_far form (begun ls topic es fs)) ≡ None)
    → field_fault topic form (kept_of form (begun ls topic es fs)) line code text ≡ None
    → Knows form (with_field topic form (kept_of form (begun ls topic es fs)) code text)
    (begun ls topic es (fs ++ line_at line code text ∷ []))
line_kept form ls Register es fs line code text sound e =
    let before = or-both (first_fault (so_far form (begun ls Register es fs)))
    (line_fault form (said form fs) line code text) e in
    let after = first_fault-line form ls es fs line code text ∙ e in
    record {
      same = rw (empty-push fs (line_at line code text), said-push form fs line code text, after, before.0) refl;
      sound = λ _. after;
    }
line_kept form ls Accounts es fs line code text sound e = record {
  same = rw (empty-push fs (line_at line code text), name_said-push fs line code text) refl;
  sound = sound;
}
line_kept form ls Passed es fs line code text sound e = record { same = refl; sound = sound }

-- a line that is not
pub line_bad : (form : Form) (ls : List Listing) (topic : Topic) (es : List Entry) (fs : List Line) (line : ℕ)
    (code : Code) (text : List ℕ) (fault : StatementFault)
    → field_fault topic form (kept_of form (begun ls topic es fs)) line code text ≡ Some fault
    → let after = begun ls topic es (fs ++ line_at line code text ∷ []) in
    (has_entry form after ≡ true) × (first_fault (so_far form after) ≡ Some fault)
line_bad form ls Register es fs line code text fault e = (
  has_line (is_nothing (statements form ls)) es fs
      (line_at line code text),
  first_fault-line form ls es fs line code text ∙ e,
)
line_bad form ls Accounts es fs line code text fault e = absurd cc
line_bad form ls Passed es fs line code text fault e = absurd cc

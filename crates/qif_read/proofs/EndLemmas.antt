-- The end of an entry, and the beginning of a list.
use Rattle.std.proofs.Common.{◌≡◌, ℕ, Bool, true, false, ◌&&◌, not, List, [], ◌∷◌, ◌++◌, map, length, Option, Some}
use Rattle.std.proofs.Common.{None, append_assoc, refl, sym, ap, ◌∙◌}
use Rattle.std.specs.Prelude.{if◌then◌else◌}
use Rattle.std.specs.Option.{option_or}
use Rattle.std.proofs.lemmas.List.{append-nil, map-append}
use Rattle.book_statement.specs.Checks.{check, Place, place, first_fault}
use Rattle.book_statement.specs.Lists.{each_after}
use Rattle.book_statement.specs.Texts.{is_nothing}
use Rattle.book_statement.specs.declared.fault.StatementFault.{StatementFault}
use Rattle.book_statement.specs.declared.bad.Bad.TheVariants.{CutOff}
use Rattle.book_statement.proofs.CheckLemmas.{first_fault-append}
use Rattle.book_statement.proofs.ListLemmas.{each_after-push}
use Rattle.qif_read.specs.Tree.{Line, Entry, Listing}
use Rattle.qif_read.specs.Kept.{end_checks}
use Rattle.qif_read.specs.Sections.{no_entries, statements_in}
use Rattle.qif_read.specs.Qif.{name_of, name_given, name_behind, account_places}
use Rattle.qif_read.specs.Steps.{nothing, entry_fault, account_fault, end_fault, with_end, name_for, with_list}
use Rattle.qif_read.specs.declared.form.Form.{Form}
use Rattle.qif_read.specs.declared.kind.Topic.{Topic}
use Rattle.qif_read.specs.declared.kind.Topic.TheVariants.{Register, Accounts, Passed}
use Rattle.book_statement.specs.declared.statement.Statement.{Statement}
use Rattle.qif_read.specs.declared.reader.Reader.{Reader}
use Rattle.qif_read.specs.declared.said.Said.{Said}
use Rattle.qif_read.specs.declared.section.Section.{Section}
use Rattle.qif_read.proofs.KeptEntries.{said, section_of}
use Rattle.qif_read.proofs.Growing.{Begun, begun, closed, turned}
use Rattle.qif_read.proofs.KeptReading.{entry_places, entries_places, listing_places, places}
use Rattle.qif_read.proofs.KeptReading.{section_in, statements_behind, statements}
use Rattle.qif_read.proofs.PushLemmas.{last_or-push, section_of-push}
use Rattle.qif_read.proofs.KeptLemmas.{is_empty, empty-push, started_in, said_in, fields_places, so_far, kept_of}
use Rattle.qif_read.proofs.KeptLemmas.{has_entry_in, has_entry, Knows, and_nothing}

-- what is found sound
abbrev pub IsSound : Form → Begun → Type 0
IsSound form b = has_entry form b ≡ true → first_fault (so_far form b) ≡ None

-- an entry of these lines
abbrev entry_with : List Line → Bool → ℕ → Entry
entry_with fs whole last = record { fields = fs; whole = whole; last = last }

-- the end of an entry of a register, behind the checks of its lines
abbrev end_place : Form → List Listing → List Entry → List Line → Bool → ℕ → Place
end_place form ls es fs whole last =
    place last
    (end_checks whole (length (section_of form (name_behind ls) es).lines) (length (statements form ls)) (said form fs))

so_far-entry : (form : Form) (ls : List Listing) (es : List Entry) (f : Line) (fs : List Line) (whole : Bool) (last : ℕ)
    → so_far form (closed (begun ls Register es (f ∷ fs)) whole last)
    ≡ so_far form (begun ls Register es (f ∷ fs)) ++ end_place form ls es (f ∷ fs) whole last ∷ []
so_far-entry form ls es f fs whole last =
    rw (each_after-push (entry_places form (name_behind ls) (length (statements form ls))) es
    (entry_with (f ∷ fs) whole last))
    (simp (append_assoc, append-nil))

-- the first fault with the end of an entry of a register
first_fault-entry : (form : Form) (ls : List Listing) (es : List Entry) (f : Line) (fs : List Line) (whole : Bool)
    (last : ℕ)
    → first_fault (so_far form (closed (begun ls Register es (f ∷ fs)) whole last))
    ≡ option_or (first_fault (so_far form (begun ls Register es (f ∷ fs))))
    (entry_fault (kept_of form (begun ls Register es (f ∷ fs))) whole last)
first_fault-entry form ls es f fs whole last =
    rw (so_far-entry form ls es f fs whole last)
    (first_fault-append (so_far form (begun ls Register es (f ∷ fs))) (end_place form ls es (f ∷ fs) whole last ∷ []))

-- the first fault with the end of an entry of a list of accounts
first_fault-account : (form : Form) (ls : List Listing) (es : List Entry) (f : Line) (fs : List Line)
    (whole : Bool) (last : ℕ)
    → first_fault (so_far form (closed (begun ls Accounts es (f ∷ fs)) whole last))
    ≡ option_or (first_fault (so_far form (begun ls Accounts es (f ∷ fs)))) (account_fault whole last)
first_fault-account form ls es f fs whole last =
    rw (
      each_after-push account_places es (entry_with (f ∷ fs) whole last),
      append-nil
          (each_after account_places [] es),
      append-nil
          (each_after account_places [] es ++ place last (check whole CutOff ∷ []) ∷ []),
    )
    (rw (← append_assoc (places form ls) (each_after account_places [] es) (place last (check whole CutOff ∷ []) ∷ []))
    (first_fault-append (places form ls ++ each_after account_places [] es)
    (place last (check whole CutOff ∷ []) ∷ [])))

has_lines : (a : Bool) (es : List Entry) → not (a && (is_empty es && false)) ≡ true
has_lines a es = rw (and_nothing (is_empty es), and_nothing a) refl

or_past : (o p q : Option StatementFault) → q ≡ option_or o p → o ≡ None → q ≡ p
or_past o p q e none = e ∙ ap (λ x. option_or x p) none

has_ended : (a : Bool) (es : List Entry) (e : Entry) → not (a && (is_empty (es ++ e ∷ []) && true)) ≡ true
has_ended a es e = rw (empty-push es e, and_nothing a) refl

pub not_true : (a : Bool) → not a ≡ true → a ≡ false
not_true true h = absurd cc
not_true false h = refl

waits_not : (none : Bool) (fault : Option StatementFault) → none ≡ false → (if none then None else fault) ≡ None
    → fault ≡ None
waits_not true fault h e = absurd cc
waits_not false fault h e = e

waited : (none : Bool) (found : Option StatementFault) (fault : StatementFault)
    → (if none then None else found) ≡ Some fault → (none ≡ false) × (found ≡ Some fault)
waited true found fault e = absurd cc
waited false found fault e = (refl, e)

abbrev listing : Topic → List Entry → Listing
listing topic es = record { topic = topic; entries = es }

no_places : (form : Form) (topic : Topic) (name : List ℕ) (count : ℕ) → entries_places form topic name count [] ≡ []
no_places form Register name count = refl
no_places form Accounts name count = refl
no_places form Passed name count = refl

no_fields : (form : Form) (topic : Topic) → fields_places form topic [] ≡ []
no_fields form Register = refl
no_fields form Accounts = refl
no_fields form Passed = refl

no_start : (topic : Topic) → started_in topic [] ≡ false
no_start Register = refl
no_start Accounts = refl
no_start Passed = refl

no_said : (form : Form) (topic : Topic) → said_in form topic [] ≡ nothing
unfolding said
no_said form Register = refl
no_said form Accounts = refl
no_said form Passed = refl

no_name : (topic : Topic) → name_given topic [] ≡ []
no_name Register = refl
no_name Accounts = refl
no_name Passed = refl

new_section : (form : Form) (topic : Topic) (name : List ℕ)
    → section_in form topic name [] ≡ no_entries (name_for topic name)
new_section form Register name = refl
new_section form Accounts name = refl
new_section form Passed name = refl

abbrev keeps : Topic → List Statement → List ℕ → Section → Bool → Said → Option StatementFault → Reader
keeps topic done name section started said pending = record {
  done = done;
  topic = topic;
  name = name;
  section = section;
  started = started;
  said = said;
  pending = pending;
}

reader_is : (topic : Topic) (d d' : List Statement) (n n' : List ℕ) (s s' : Section) (a a' : Bool) (x x' : Said)
    (p p' : Option StatementFault)
    → d ≡ d' → n ≡ n' → s ≡ s' → a ≡ a' → x ≡ x' → p ≡ p' → keeps topic d n s a x p ≡ keeps topic d' n' s' a' x' p'
reader_is topic d d' n n' s s' a a' x x' p p' e1 e2 e3 e4 e5 e6 = rw (e1, e2, e3, e4, e5, e6) refl

-- the end of an entry that is in order
pub end_kept : (form : Form) (ls : List Listing) (topic : Topic) (es : List Entry) (fs : List Line) (whole : Bool)
    (last : ℕ)
    → IsSound form (begun ls topic es fs)
    → end_fault topic (kept_of form (begun ls topic es fs)) whole last ≡ None
    → Knows form (with_end topic (kept_of form (begun ls topic es fs)) whole last)
    (closed (begun ls topic es fs) whole last)
unfolding said
end_kept form ls Passed es fs whole last sound e = record { same = refl; sound = sound }
end_kept form ls Register es [] whole last sound e =
    rw (append-nil es) (record { same = refl; sound = sound })
end_kept form ls Accounts es [] whole last sound e =
    rw (append-nil es) (record { same = refl; sound = sound })
end_kept form ls Register es (f ∷ fs) whole last sound e =
    let before = sound (has_lines (is_nothing (statements form ls)) es) in
    let after = or_past _ _ _ (first_fault-entry form ls es f fs whole last) before ∙ e in
    record {
      same = rw (section_of-push form (name_behind ls) es (entry_with (f ∷ fs) whole last), after, before) refl;
      sound = λ _. after;
    }
end_kept form ls Accounts es (f ∷ fs) whole last sound e = record {
  same = rw (
    map-append name_of es (entry_with (f ∷ fs) whole last ∷ []),
    last_or-push [] (map name_of es)
        (name_of (entry_with (f ∷ fs) whole last)),
    first_fault-account form ls es f fs whole last,
  ) refl;
  sound = λ has.
      or_past _ _ _ (first_fault-account form ls es f fs whole last) (sound has)
      ∙ waits_not (is_nothing (statements form ls)) (account_fault whole last)
      (not_true (is_nothing (statements form ls)) has) e;
}

-- the end of an entry that is not: some register has an entry, and the fault is the first
pub end_bad : (form : Form) (ls : List Listing) (topic : Topic) (es : List Entry) (fs : List Line) (whole : Bool)
    (last : ℕ) (fault : StatementFault)
    → IsSound form (begun ls topic es fs)
    → end_fault topic (kept_of form (begun ls topic es fs)) whole last ≡ Some fault
    → (has_entry form (closed (begun ls topic es fs) whole last) ≡ true) ×
    (first_fault (so_far form (closed (begun ls topic es fs) whole last)) ≡ Some fault)
end_bad form ls Passed es fs whole last fault sound e = absurd cc
end_bad form ls Register es [] whole last fault sound e = absurd cc
end_bad form ls Accounts es [] whole last fault sound e = absurd cc
end_bad form ls Register es (f ∷ fs) whole last fault sound e =
    let before = sound (has_lines (is_nothing (statements form ls)) es) in (
      has_ended (is_nothing (statements form ls)) es (entry_with (f ∷ fs) whole last),
      or_past _ _ _
          (first_fault-entry form ls es f fs whole last) before ∙ e,
    )
end_bad form ls Accounts es (f ∷ fs) whole last fault sound e =
    let none = waited (is_nothing (statements form ls)) (account_fault whole last) fault e in
    let has : not (is_nothing (statements form ls)) ≡ true = ap not none.0 in
    (has, or_past _ _ _ (first_fault-account form ls es f fs whole last) (sound has) ∙ none.1)

-- the tree behind a header gives the checks of the tree before it
so_far-list : (form : Form) (ls : List Listing) (topic : Topic) (es : List Entry) (next : Topic)
    → so_far form (turned (begun ls topic es []) next) ≡ so_far form (begun ls topic es [])
so_far-list form ls topic es next =
    rw (
      no_places form next (name_behind (ls ++ listing topic es ∷ []))
          (length (statements form (ls ++ listing topic es ∷ []))),
      no_fields form next,
      no_fields form topic,
    )
    (rw (each_after-push (listing_places form) ls (listing topic es)) (simp append-nil))

name_behind-push : (ls : List Listing) (l : Listing) → name_behind (ls ++ l ∷ []) ≡ name_given l.topic l.entries
name_behind-push ls l =
    rw (map-append (λ (listing : Listing). name_given listing.topic listing.entries) ls (l ∷ []))
    (last_or-push [] (map (λ (listing : Listing). name_given listing.topic listing.entries) ls)
    (name_given l.topic l.entries))

has_before : (form : Form) (ls : List Listing) (topic : Topic) (es : List Entry)
    → is_nothing (statements form ls ++ statements_in form (section_in form topic (name_behind ls) es)) ≡ false
    → has_entry form (begun ls topic es []) ≡ true
has_before form ls Passed es e = ap not (rw append-nil at e)
has_before form ls Accounts es e = ap not (rw append-nil at e)
has_before form ls Register [] e =
    let none : is_nothing (statements form ls) ≡ false = rw append-nil at e in rw none refl
has_before form ls Register (x ∷ es) e = rw (and_nothing (is_nothing (statements form ls))) refl

has_listing : (next : Topic) (none : Bool) → has_entry_in next none true ≡ true → none ≡ false
has_listing Register true h = absurd cc
has_listing Register false h = refl
has_listing Accounts none h = not_true none h
has_listing Passed none h = not_true none h

-- the beginning of a list behind entries that have ended
pub list_kept : (form : Form) (ls : List Listing) (topic : Topic) (es : List Entry) (next : Topic)
    → IsSound form (begun ls topic es [])
    → Knows form (with_list form next (kept_of form (begun ls topic es []))) (turned (begun ls topic es []) next)
list_kept form ls topic es next sound =
    let more = each_after-push (statements_behind form) ls (listing topic es) in
    record {
      same = reader_is next _ _ _ _ _ _ _ _ _ _ _ _
          (sym more)
          (sym (no_name next))
          (sym (new_section form next (name_behind (ls ++ listing topic es ∷ []))
          ∙ ap (λ name. no_entries (name_for next name)) (name_behind-push ls (listing topic es))))
          (no_start topic ∙ sym (no_start next))
          (no_said form topic ∙ sym (no_said form next))
          (ap first_fault (sym (so_far-list form ls topic es next)));
      sound = λ has.
          ap first_fault (so_far-list form ls topic es next)
          ∙ sound (has_before form ls topic es (ap is_nothing (sym more) ∙ has_listing next _ has));
    }

-- The whole of a file: a fault that was found stays the first whatever follows, and what the last line leaves is the
-- answer.
use Rattle.std.proofs.Common.{◌≡◌, ℕ, ◌+◌, ◌==◌, Bool, true, false, ◌&&◌, not, List, [], ◌∷◌, ◌++◌, length, Option}
use Rattle.std.proofs.Common.{Some, None, Result, Err, append_assoc, arith, ◌<◌, ◌≤◌, refl, sym, ap, subst, ◌∙◌}
use Rattle.std.proofs.lemmas.List.{append-nil}
use Rattle.book_statement.specs.Checks.{Place, first_fault, Gives}
use Rattle.book_statement.specs.declared.read_error.ReadError.{ReadError}
use Rattle.book_statement.specs.declared.read_error.ReadError.TheVariants.{Fault, OutOfMemory}
use Rattle.book_statement.specs.Lists.{each_after}
use Rattle.book_statement.specs.Texts.{is_nothing, lines_of}
use Rattle.book_statement.specs.declared.fault.StatementFault.{StatementFault}
use Rattle.book_statement.specs.declared.statement.Statement.{Statement}
use Rattle.book_statement.proofs.CheckLemmas.{first_fault-here}
use Rattle.book_statement.proofs.ListLemmas.{each_after-append}
use Rattle.qif_read.specs.Kinds.{kind_of, behind_code}
use Rattle.qif_read.specs.Tree.{Line, Entry, Listing, Rest, entry_of, in_front, rest_after, listings_of}
use Rattle.qif_read.specs.Sections.{statements_in}
use Rattle.qif_read.specs.Qif as file
use Rattle.qif_read.specs.Qif.{account_places, name_behind, answer_of}
use Rattle.qif_read.specs.Steps.{Takes, end_fault, with_end, with_list, fault_or, answer_after, fault_of, after, fresh}
use Rattle.qif_read.specs.declared.form.Form.{Form}
use Rattle.qif_read.specs.declared.kind.LineKind.{LineKind}
use Rattle.qif_read.specs.declared.kind.LineKind.TheVariants.{Header, Switch, End, Empty, Field}
use Rattle.qif_read.specs.declared.kind.Topic.{Topic}
use Rattle.qif_read.specs.declared.kind.Topic.TheVariants.{Register, Accounts, Passed}
use Rattle.qif_read.specs.declared.reader.Reader.{Reader}
use Rattle.qif_read.proofs.Growing.{Begun, begun, closed, turned, fill, grown, fill-grown, fill-closed, fill-end}
use Rattle.qif_read.proofs.KeptEntries.{section_of}
use Rattle.qif_read.proofs.KeptReading.{line_places, entry_places, entries_places, listing_places, places}
use Rattle.qif_read.proofs.KeptReading.{statements_behind, statements, result_of, result_same}
use Rattle.qif_read.proofs.PushLemmas.{nothing-cons}
use Rattle.qif_read.proofs.KeptLemmas.{is_empty, ended_places, fields_places, so_far, kept_of, has_entry, Knows}
use Rattle.qif_read.proofs.KeptLemmas.{line_kept, line_bad}
use Rattle.qif_read.proofs.EndLemmas.{not_true, end_kept, end_bad, list_kept}

-- a list of places that begins with these
abbrev BeginsWith : List Place → List Place → Type 0
BeginsWith front all = (more : List Place) × (all ≡ front ++ more)

begins_under : (before front all : List Place) → BeginsWith front all → BeginsWith (before ++ front) (before ++ all)
begins_under before front all (more, e) = (more, ap (λ l. before ++ l) e ∙ sym (append_assoc before front more))

begins_then : (front all behind : List Place) → BeginsWith front all → BeginsWith front (all ++ behind)
begins_then front all behind (more, e) = (more ++ behind, ap (λ l. l ++ behind) e ∙ append_assoc front more behind)

begins_nil : (front all : List Place) → BeginsWith front all → BeginsWith (front ++ []) all
begins_nil front all (more, e) = (more, e ∙ ap (λ l. l ++ more) (sym (append-nil front)))

-- the checks of the lines of an entry stand before those of the same entry with more lines
fields_first : (form : Form) (name : List ℕ) (count : ℕ) (es : List Entry) (f : Line) (fs loose : List Line)
    (whole : Bool) (last : ℕ)
    → BeginsWith (each_after (line_places form) [] (f ∷ fs))
    (entry_places form name count es (record { fields = f ∷ (fs ++ loose); whole = whole; last = last }))
fields_first form name count es f fs loose whole last =
    begins_then (each_after (line_places form) [] (f ∷ fs)) (each_after (line_places form) [] (f ∷ (fs ++ loose))) _
    (each_after (line_places form) (f ∷ fs) loose, each_after-append (line_places form) [] (f ∷ fs) loose)

-- the checks of the open list stand first among those of the list that the rest makes of it
current_first : (form : Form) (topic : Topic) (name : List ℕ) (count : ℕ) (es : List Entry) (fs : List Line)
    (rest : Rest)
    → BeginsWith (entries_places form topic name count es ++ fields_places form topic fs)
    (entries_places form topic name count (es ++ (entry_of (fs ++ rest.loose) rest.whole rest.last ++ rest.entries)))
current_first form Register name count es [] rest =
    let later = entry_of rest.loose rest.whole rest.last ++ rest.entries in
    begins_nil (each_after (entry_places form name count) [] es)
    (each_after (entry_places form name count) [] (es ++ later)) (
      each_after (entry_places form name count) es later,
      each_after-append (entry_places form name count)
          [] es later,
    )
current_first form Register name count es (f ∷ fs) rest =
    let entry : Entry = record { fields = f ∷ (fs ++ rest.loose); whole = rest.whole; last = rest.last } in
    let all = each_after-append (entry_places form name count) [] es (entry ∷ rest.entries) in
    let first = begins_under (each_after (entry_places form name count) [] es)
    (each_after (line_places form) [] (f ∷ fs))
    (each_after (entry_places form name count) es (entry ∷ rest.entries))
    (begins_then (each_after (line_places form) [] (f ∷ fs)) (entry_places form name count es entry)
    (each_after (entry_places form name count) (es ++ entry ∷ []) rest.entries)
    (fields_first form name count es f fs rest.loose rest.whole rest.last)) in
    (first.0, all ∙ first.1)
current_first form Accounts name count es fs rest =
    let later = entry_of (fs ++ rest.loose) rest.whole rest.last ++ rest.entries in
    begins_nil (each_after account_places [] es) (each_after account_places [] (es ++ later))
    (each_after account_places es later, each_after-append account_places [] es later)
current_first form Passed name count es fs rest = ([], refl)

-- the list that the rest makes of the open one
abbrev current : Begun → Rest → Listing
current b rest =
    record {
      topic = b.topic;
      entries = b.entries ++
          (entry_of (b.fields ++ rest.loose) rest.whole rest.last ++ rest.entries);
    }

-- the checks of what was read stand first among those of the file
read_first : (form : Form) (b : Begun) (rest : Rest) → BeginsWith (so_far form b) (places form (fill b rest))
read_first form b rest =
    let all = each_after-append (listing_places form) [] b.listings (current b rest ∷ rest.listings) in
    let first = begins_under (places form b.listings) (ended_places form b ++ fields_places form b.topic b.fields)
    (each_after (listing_places form) b.listings (current b rest ∷ rest.listings))
    (begins_then (ended_places form b ++ fields_places form b.topic b.fields)
    (listing_places form b.listings (current b rest))
    (each_after (listing_places form) (b.listings ++ current b rest ∷ []) rest.listings)
    (current_first form b.topic (name_behind b.listings)
    (length (statements form b.listings)) b.entries b.fields rest)) in
    (first.0, all ∙ first.1)

nothing_left : {X : Type 0} (xs ys : List X) → is_nothing xs ≡ false → is_nothing (xs ++ ys) ≡ false
nothing_left [] ys e = absurd cc
nothing_left (x ∷ xs) ys e = nothing-cons x (xs ++ ys)

nothing_right : {X : Type 0} (xs ys : List X) → is_nothing ys ≡ false → is_nothing (xs ++ ys) ≡ false
nothing_right [] ys e = e
nothing_right (x ∷ xs) ys e = nothing-cons x (xs ++ ys)

not_and : (a b : Bool) → not (a && b) ≡ true → (a ≡ true → b ≡ false)
not_and true b h = λ _. not_true b h
not_and false b h = λ e. absurd cc

-- where a register has an entry, the file has a statement
register_states : (form : Form) (name : List ℕ) (es : List Entry) (fs : List Line) (rest : Rest)
    → (is_empty es && is_empty fs) ≡ false
    → is_nothing
    (statements_in form
    (section_of form name (es ++ (entry_of (fs ++ rest.loose) rest.whole rest.last ++ rest.entries)))) ≡ false
register_states form name [] [] rest e = absurd cc
register_states form name [] (f ∷ fs) rest e = refl
register_states form name (x ∷ es) fs rest e = refl

by_bool : {P : Type 0} (b : Bool) → (b ≡ true → P) → (b ≡ false → P) → P
by_bool true first second = first refl
by_bool false first second = second refl

current_states : (form : Form) (ls : List Listing) (topic : Topic) (es : List Entry) (fs : List Line) (rest : Rest)
    → has_entry form (begun ls topic es fs) ≡ true
    → is_nothing (statements form ls ++ statements_behind form ls (current (begun ls topic es fs) rest)) ≡ false
current_states form ls Register es fs rest has =
    by_bool (is_nothing (statements form ls))
    (λ none. nothing_right (statements form ls) _
    (register_states form (name_behind ls) es fs rest (not_and _ _ has none)))
    (λ some. nothing_left (statements form ls) _ some)
current_states form ls Accounts es fs rest has = nothing_left (statements form ls) _ (not_true _ has)
current_states form ls Passed es fs rest has = nothing_left (statements form ls) _ (not_true _ has)

file_states : (form : Form) (b : Begun) (rest : Rest) → has_entry form b ≡ true
    → is_nothing (statements form (fill b rest)) ≡ false
file_states form b rest has =
    rw (
      each_after-append (statements_behind form) [] b.listings (current b rest ∷ rest.listings),
      ← append_assoc
          (statements form b.listings) (statements_behind form b.listings (current b rest))
          (each_after (statements_behind form) (b.listings ++ current b rest ∷ []) rest.listings),
    )
    (nothing_left (statements form b.listings ++ statements_behind form b.listings (current b rest)) _
    (current_states form b.listings b.topic b.entries b.fields rest has))

answer_fault : (found : Option StatementFault) (fault : StatementFault) (ss : List Statement) → found ≡ Some fault
    → is_nothing ss ≡ false → answer_of found ss ≡ Err fault
answer_fault found fault [] e some = absurd cc
answer_fault found fault (s ∷ ss) e some = rw e refl

-- a fault that was found is that of the file, whatever follows
final : (form : Form) (b : Begun) (rest : Rest) (fault : StatementFault) → has_entry form b ≡ true
    → first_fault (so_far form b) ≡ Some fault
    → result_of form (fill b rest) ≡ Err fault
final form b rest fault has e =
    let first = read_first form b rest in
    answer_fault (first_fault (places form (fill b rest))) fault (statements form (fill b rest))
    (ap first_fault first.1 ∙ first_fault-here (so_far form b) first.0 fault e) (file_states form b rest has)

-- a line that is in order
pub step_ok : (form : Form) (n : ℕ) (text : List ℕ) (kind : LineKind) (old : Reader) (b : Begun) → Knows form old b
    → fault_of form n text kind old ≡ None → Knows form (after form n text kind old) (grown n text kind b)
step_ok form n text kind old b knows e =
    let P : Reader → Type 0 = λ kept. fault_of form n text kind kept ≡ None
    → Knows form (after form n text kind kept) (grown n text kind b) in
    subst P (sym knows.same) (step_kept kind) e
  where
    step_kept : (kind : LineKind) → fault_of form n text kind (kept_of form b) ≡ None
        → Knows form (after form n text kind (kept_of form b)) (grown n text kind b)
    step_kept (Header topic) none =
        let ended = end_kept form b.listings b.topic b.entries b.fields false n knows.sound none in
        let P : Reader → Type 0 = λ kept. Knows form (with_list form topic kept) (turned (closed b false n) topic) in
        subst P (sym ended.same)
        (list_kept form b.listings b.topic (b.entries ++ entry_of b.fields false n) topic ended.sound)
    step_kept Switch none = end_kept form b.listings b.topic b.entries b.fields false n knows.sound none
    step_kept End none = end_kept form b.listings b.topic b.entries b.fields true (n + 1) knows.sound none
    step_kept Empty none = record { same = refl; sound = knows.sound }
    step_kept (Field code) none = line_kept form b.listings b.topic b.entries b.fields (n + 1) code
        (behind_code text) knows.sound none

-- a line that is not
pub step_bad : (form : Form) (n : ℕ) (text : List ℕ) (kind : LineKind) (old : Reader) (b : Begun) (rest : Rest)
    (fault : StatementFault) → Knows form old b
    → fault_of form n text kind old ≡ Some fault → result_of form (fill b (in_front n text kind rest)) ≡ Err fault
step_bad form n text kind old b rest fault knows e =
    let P : Reader → Type 0 = λ kept. fault_of form n text kind kept ≡ Some fault in
    step_found kind (subst P knows.same e)
  where
    step_found : (kind : LineKind) → fault_of form n text kind (kept_of form b) ≡ Some fault
        → result_of form (fill b (in_front n text kind rest)) ≡ Err fault
    step_found (Header topic) found =
        let bad = end_bad form b.listings b.topic b.entries b.fields false n fault knows.sound found in
        ap (result_of form) (fill-closed n text topic b rest)
        ∙ final form (closed b false n) (in_front n text (Header topic) rest) fault bad.0 bad.1
    step_found Switch found =
        let bad = end_bad form b.listings b.topic b.entries b.fields false n fault knows.sound found in
        ap (result_of form) (fill-grown n text Switch b rest) ∙ final form (closed b false n) rest fault bad.0 bad.1
    step_found End found =
        let bad = end_bad form b.listings b.topic b.entries b.fields true (n + 1) fault knows.sound found in
        ap (result_of form) (fill-grown n text End b rest) ∙ final form (closed b true (n + 1)) rest fault bad.0 bad.1
    step_found Empty found = absurd cc
    step_found (Field code) found =
        let bad = line_bad form b.listings b.topic b.entries b.fields (n + 1) code (behind_code text) fault found in
        ap (result_of form) (fill-grown n text (Field code) b rest)
        ∙ final form (grown n text (Field code) b) rest fault bad.0 bad.1

answer_sound : (found : Option StatementFault) (ss : List Statement) → (not (is_nothing ss) ≡ true → found ≡ None)
    → answer_of found ss ≡ answer_of None ss
answer_sound found [] sound = refl
answer_sound found (s ∷ ss) sound = rw (sound (ap not (nothing-cons s ss))) refl

-- what is answered at the end of the file
pub end_answer : (form : Form) (n : ℕ) (old : Reader) (b : Begun) → Knows form old b
    → result_of form (fill b (rest_after n [])) ≡ answer_after form n old
end_answer form n old b knows =
    let P : Reader → Type 0 = λ kept. result_of form (fill b (rest_after n [])) ≡ answer_after form n kept in
    subst P (sym knows.same) (answered (end_fault b.topic (kept_of form b) false n) refl)
  where
    ended_answer : (ended : Reader) → Knows form ended (closed b false n)
        → result_of form (fill b (rest_after n [])) ≡ answer_of None (with_list form Passed ended).done
    ended_answer ended knows_ended =
        let Q : Reader → Type 0 = λ kept. result_of form (fill b (rest_after n []))
        ≡ answer_of None (with_list form Passed kept).done in
        let listed = list_kept form b.listings b.topic
        (b.entries ++ entry_of b.fields false n) Passed knows_ended.sound in
        subst Q (sym knows_ended.same)
        (ap (result_of form) (fill-end n Passed b)
        ∙ answer_sound (first_fault (places form (turned (closed b false n) Passed).listings))
        (statements form (turned (closed b false n) Passed).listings)
        (λ has. ap first_fault (sym (append-nil (places form (turned (closed b false n) Passed).listings)))
        ∙ listed.sound has)
        ∙ ap (λ (kept : Reader). answer_of None kept.done) (sym listed.same))

    answered : (found : Option StatementFault) → end_fault b.topic (kept_of form b) false n ≡ found
        → result_of form (fill b (rest_after n []))
        ≡ fault_or (end_fault b.topic (kept_of form b) false n)
        (answer_of None (with_list form Passed (with_end b.topic (kept_of form b) false n)).done)
    answered None e = rw e
        (ended_answer (with_end b.topic (kept_of form b) false n)
        (end_kept form b.listings b.topic b.entries b.fields false n knows.sound e))
    answered (Some fault) e =
        let bad = end_bad form b.listings b.topic b.entries b.fields false n fault knows.sound e in
        rw e (ap (result_of form) (fill-grown n [] Switch b (rest_after n []))
        ∙ final form (closed b false n) (rest_after n []) fault bad.0 bad.1)

-- the reader before the first line knows that nothing was read
pub fresh_knows : (form : Form) → Knows form fresh (begun [] Passed [] [])
fresh_knows form = record { same = refl; sound = λ _. refl }

-- what the reader knows between two lines: the rest of the text fills the tree that was read to the tree of the text
pub record SoFar (form : Form) (text rest : List ℕ) (reader : Reader) (count : ℕ) : Type 0 where
  pub tree : Begun
  pub knows : Knows form reader tree
  pub whole : listings_of (lines_of text) ≡ fill tree (rest_after count (lines_of rest))
  pub within : count + length rest ≤ length text

pub so_far_fresh : (form : Form) (text : List ℕ) (reader : Reader) → reader ≡ fresh → SoFar form text text reader 0
so_far_fresh form text reader e = record {
  tree = begun [] Passed [] [];
  knows = rw e (fresh_knows form);
  whole = refl;
  within = omega arith;
}

-- the line that is taken moves from the rest to the tree
line_moves : (form : Form) (text rest line behind : List ℕ) (reader : Reader) (count : ℕ)
    (known : SoFar form text rest reader count)
    → lines_of rest ≡ line ∷ lines_of behind
    → listings_of (lines_of text) ≡ fill known.tree
    (in_front count line (kind_of line) (rest_after (count + 1) (lines_of behind)))
line_moves form text rest line behind reader count known lines =
    known.whole ∙ ap (λ l. fill known.tree (rest_after count l)) lines

pub so_far_next : (form : Form) (text rest line behind : List ℕ) (reader next : Reader) (count : ℕ)
    (known : SoFar form text rest reader count)
    → lines_of rest ≡ line ∷ lines_of behind → length behind < length rest
    → fault_of form count line (kind_of line) reader ≡ None → next ≡ after form count line (kind_of line) reader
    → SoFar form text behind next (count + 1)
so_far_next form text rest line behind reader next count known lines shorter none e = record {
  tree = grown count line (kind_of line) known.tree;
  knows = rw e (step_ok form count line (kind_of line) reader known.tree known.knows none);
  whole = line_moves form text rest line behind reader count known lines
      ∙ fill-grown count line (kind_of line) known.tree (rest_after (count + 1) (lines_of behind));
  within = let old = known.within in omega arith;
}

pub so_far_bad : (form : Form) (text rest line behind : List ℕ) (reader : Reader) (count : ℕ)
    (fault : StatementFault) (known : SoFar form text rest reader count)
    → lines_of rest ≡ line ∷ lines_of behind
    → fault_of form count line (kind_of line) reader ≡ Some fault
    → file.result_of form (listings_of (lines_of text)) ≡ Err fault
so_far_bad form text rest line behind reader count fault known lines found =
    result_same form (listings_of (lines_of text))
    ∙ ap (result_of form) (line_moves form text rest line behind reader count known lines)
    ∙ step_bad form count line (kind_of line) reader known.tree
    (rest_after (count + 1) (lines_of behind)) fault known.knows found

pub so_far_end : (form : Form) (text rest : List ℕ) (reader : Reader) (count : ℕ)
    (known : SoFar form text rest reader count)
    → rest ≡ [] → file.result_of form (listings_of (lines_of text)) ≡ answer_after form count reader
so_far_end form text rest reader count known e =
    result_same form (listings_of (lines_of text))
    ∙ ap (result_of form) (known.whole ∙ ap (λ r. fill known.tree (rest_after count (lines_of r))) e)
    ∙ end_answer form count reader known.tree known.knows

-- what is answered at a fault, or out of memory
pub gives_error : (S X : Type 0) (said : Result (List Statement) StatementFault) (found : Option StatementFault)
    (later next : S) (error : ReadError)
    → ((fault : StatementFault) → found ≡ Some fault → said ≡ Err fault)
    → Takes {X = X} found later next (Err error) → Gives said (Err error)
gives_error S X said found later next (Fault fault) last told = last fault told
gives_error S X said found later next OutOfMemory last told = tt

pub gives_same : (said reached : Result (List Statement) StatementFault)
    (given : Result (List Statement) ReadError) → said ≡ reached → Gives reached given → Gives said given
gives_same said reached given e gives =
    let P : Result (List Statement) StatementFault → Type 0 = λ r. Gives r given in
    subst P (sym e) gives

pub no_text : (text : List ℕ) → (length text == 0) ≡ true → text ≡ []
no_text [] e = refl
no_text (b ∷ text) e = let some = nothing-cons b text in absurd cc

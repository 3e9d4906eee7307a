-- What becomes of a line: what a reader keeps stays what the definition says of the lines read, and a fault is that of
-- the file, whatever follows.
use Rattle.std.proofs.Common.{
  ◌≡◌,
  ℕ,
  ◌+◌,
  List,
  [],
  ◌∷◌,
  ◌++◌,
  length,
  Option,
  Some,
  None,
  Bool,
  true,
  false,
  cond,
  is_some,
  Err,
  refl,
  sym,
  ap,
  subst,
  ◌∙◌,
  append_assoc,
}
use Rattle.std.specs.Prelude.{◌&&◌, ◌||◌}
use Rattle.std.proofs.lemmas.List.{append-nil}
use Rattle.book_commodity.specs.declared.commodity.Commodity.{Commodity}
use Rattle.book_statement.specs.declared.bad.Bad.{Bad}
use Rattle.book_statement.specs.declared.bad.Bad.TheVariants.{CutOff}
use Rattle.book_statement.specs.declared.fault.StatementFault.{StatementFault}
use Rattle.book_statement.specs.declared.statement.Statement.{Statement}
use Rattle.book_statement.specs.Checks.{Check, check, Place, place, first_bad, first_fault, fault_at, unless_fault}
use Rattle.book_statement.specs.Lists.{each_after}
use Rattle.book_statement.proofs.CheckLemmas.{first_fault-here, fault_there, sound_more}
use Rattle.book_statement.proofs.ListLemmas.{each_after-append, each_after-push}
use Rattle.mt940_read.specs.declared.message.Message.{Message}
use Rattle.mt940_read.specs.declared.page.Page.{Page}
use Rattle.mt940_read.specs.declared.reader.Reader.{Reader}
use Rattle.mt940_read.specs.declared.tag.Tag.{Tag}
use Rattle.mt940_read.specs.declared.tag.Tag.TheVariants.{Reference}
use Rattle.mt940_read.specs.declared.tag.Kind.{Kind}
use Rattle.mt940_read.specs.declared.tag.Kind.TheVariants.{Begins, Field, Passed, Ends, More}
use Rattle.mt940_read.specs.Entries.{last_tag}
use Rattle.mt940_read.specs.FieldChecks.{field_checks}
use Rattle.mt940_read.specs.Kinds.{field_text}
use Rattle.mt940_read.specs.Pages.{Past, page_of, with_message}
use Rattle.mt940_read.specs.Statements.{last_lines, statements_of}
use Rattle.mt940_read.specs.Order.{is_line, is_text}
use Rattle.mt940_read.specs.Steps.{
  past_kept,
  is_within,
  ended,
  begun,
  next,
  end_checks,
  line_checks_of,
  line_of_fault,
  no_statement,
  finished,
}
use Rattle.mt940_read.specs.Tree.{FieldLines, MessageLines, Part}
use Rattle.mt940_read.specs.Values.{values, after, after_more, ends_in_line}
use Rattle.mt940_read.proofs.EntryLemmas.{last_tag-push}
use Rattle.mt940_read.proofs.KeptReading.{
  field_place,
  field_places,
  end_place,
  message_places,
  file_places,
  result_of,
}
use Rattle.mt940_read.proofs.PageLemmas.{last_page, past_of, last_page-push, statements-push, statements-some}
use Rattle.mt940_read.proofs.TreeLemmas.{
  Last,
  Closed,
  Open,
  Begun,
  Between,
  Within,
  field_with,
  with_last,
  message,
  fill,
  add,
}
use Rattle.mt940_read.proofs.ValueLemmas.{takes_more, values-push, values-more, values-idle}

-- whether further lines belong to the text of a line
abbrev pub goes_of : List FieldLines → Last → Bool
goes_of fs Closed = false
goes_of fs (Open tag n first more) = takes_more fs tag

-- the places of the messages before, and of the fields of one that has begun
abbrev pub places : List (ℕ × Commodity) → List MessageLines → List FieldLines → List Place
places known done fs = file_places known done ++ field_places known (past_of known done) fs

-- what is kept between messages, and within one
pub record IsBetween (known : List (ℕ × Commodity)) (k : Reader) (done : List MessageLines) : Type 0 where
  pub done_is : k.done ≡ statements_of known done
  pub page_is : k.page ≡ last_page known done
  pub message_is : k.message ≡ values known []
  pub goes_is : k.text_goes_on ≡ false
  pub sound : first_fault (file_places known done) ≡ None

pub record IsWithin (known : List (ℕ × Commodity)) (k : Reader) (done : List MessageLines) (fs : List FieldLines)
    (last : Last) : Type 0 where
  pub done_is : k.done ≡ statements_of known done
  pub page_is : k.page ≡ last_page known done
  pub message_is : k.message ≡ values known (with_last fs last)
  pub goes_is : k.text_goes_on ≡ goes_of fs last
  pub begun : is_some (last_tag (with_last fs last)) ≡ true
  pub sound : first_fault (places known done (with_last fs last)) ≡ None

abbrev pub Knows : List (ℕ × Commodity) → Reader → Begun → Type 0
Knows known k (Between done) = IsBetween known k done
Knows known k (Within done fs last) = IsWithin known k done fs last

-- a fault of the places is that of the file
pub faulty : (known : List (ℕ × Commodity)) (ms : List MessageLines) (fault : StatementFault)
    → first_fault (file_places known ms) ≡ Some fault → result_of known ms ≡ Err fault
faulty known [] fault e = absurd cc
faulty known (m ∷ ms) fault e = ap (λ o. unless_fault o (statements_of known (m ∷ ms))) e

-- the places of a file with a message in the middle
file_places-at : (known : List (ℕ × Commodity)) (done : List MessageLines) (m : MessageLines)
    (rest : List MessageLines)
    → file_places known (done ++ m ∷ rest)
    ≡ (places known done m.fields ++ end_place known m ∷ []) ++ each_after (message_places known) (done ++ m ∷ []) rest
file_places-at known done m rest =
    each_after-append (message_places known) [] done (m ∷ rest)
    ∙ sym (append_assoc (file_places known done) (message_places known done m)
    (each_after (message_places known) (done ++ m ∷ []) rest))
    ∙ ap (λ l. l ++ each_after (message_places known) (done ++ m ∷ []) rest)
    (sym (append_assoc (file_places known done) (field_places known (past_of known done) m.fields)
    (end_place known m ∷ [])))

-- a message of which the first fields are known
field_places-at : (known : List (ℕ × Commodity)) (past : Past) (fs : List FieldLines) (f : FieldLines)
    (behind : List FieldLines)
    → field_places known past (fs ++ f ∷ behind) ≡ field_places known past fs ++
    (field_place known past fs f ++ each_after (field_place known past) (fs ++ f ∷ []) behind)
field_places-at known past fs f behind = each_after-append (field_place known past) [] fs (f ∷ behind)

-- one field more
places-push : (known : List (ℕ × Commodity)) (done : List MessageLines) (fs : List FieldLines) (f : FieldLines)
    → places known done (fs ++ f ∷ []) ≡ places known done fs ++ field_place known (past_of known done) fs f
places-push known done fs f =
    ap (λ l. file_places known done ++ l) (each_after-push (field_place known (past_of known done)) fs f)
    ∙ sym (append_assoc (file_places known done) (field_places known (past_of known done) fs)
    (field_place known (past_of known done) fs f))

-- a field at which a check fails, whatever follows
pub field_fault : (known : List (ℕ × Commodity)) (done : List MessageLines) (fs : List FieldLines) (f : FieldLines)
    (behind : List FieldLines) (last : ℕ) (rest : List MessageLines) (bad : Bad)
    → first_fault (places known done fs) ≡ None
    → first_bad (field_checks known (past_of known done) (values known fs) f.tag f.first) ≡ Some bad
    → result_of known (done ++ message (fs ++ f ∷ behind) last ∷ rest) ≡ Err (record { line = f.line; bad = bad })
field_fault known done fs f behind last rest bad sound fails =
    let m : MessageLines = message (fs ++ f ∷ behind) last in
    let past : Past = past_of known done in
    let later : List Place = each_after (field_place known past) (fs ++ f ∷ []) behind in
    let here : Place = place f.line (field_checks known past (values known fs) f.tag f.first) in
    let split : places known done (fs ++ f ∷ behind) ≡ places known done fs ++ here ∷ later =
    ap (λ l. file_places known done ++ l) (field_places-at known past fs f behind)
    ∙ sym (append_assoc (file_places known done) (field_places known past fs) (here ∷ later)) in
    let there : first_fault (places known done (fs ++ f ∷ behind)) ≡ Some (record { line = f.line; bad = bad }) =
    ap first_fault split ∙ fault_there (places known done fs) here later bad sound fails in
    faulty known (done ++ m ∷ rest) (record { line = f.line; bad = bad })
    (ap first_fault (file_places-at known done m rest)
    ∙ first_fault-here (places known done (fs ++ f ∷ behind) ++ end_place known m ∷ []) _ _
    (first_fault-here (places known done (fs ++ f ∷ behind)) (end_place known m ∷ []) _ there))

-- a message that ends without its closing balance, whatever follows
pub end_fault : (known : List (ℕ × Commodity)) (done : List MessageLines) (fs : List FieldLines) (last : ℕ)
    (rest : List MessageLines) (bad : Bad)
    → first_fault (places known done fs) ≡ None
    → first_bad (check (is_some (values known fs).closing) CutOff ∷ []) ≡ Some bad
    → result_of known (done ++ message fs last ∷ rest) ≡ Err (record { line = last; bad = bad })
end_fault known done fs last rest bad sound fails =
    let m : MessageLines = message fs last in
    faulty known (done ++ m ∷ rest) (record { line = last; bad = bad })
    (ap first_fault (file_places-at known done m rest)
    ∙ first_fault-here (places known done fs ++ end_place known m ∷ []) _ _
    (fault_there (places known done fs) (end_place known m) [] bad sound fails))

-- a whole message more
pub whole_sound : (known : List (ℕ × Commodity)) (done : List MessageLines) (fs : List FieldLines) (last : ℕ)
    → first_fault (places known done fs) ≡ None
    → first_bad (check (is_some (values known fs).closing) CutOff ∷ []) ≡ None
    → first_fault (file_places known (done ++ message fs last ∷ [])) ≡ None
whole_sound known done fs last sound holds =
    let m : MessageLines = message fs last in
    ap first_fault (file_places-at known done m [] ∙ append-nil (places known done fs ++ end_place known m ∷ []))
    ∙ sound_more (places known done fs) (end_place known m) sound holds

-- what a fault of checks says
fault_parts : (line : ℕ) (checks : List Check) (fault : StatementFault)
    → fault_at line (first_bad checks) None ≡ Some fault
    → (bad : Bad) × (first_bad checks ≡ Some bad) × (record { line = line; bad = bad } ≡ fault)
fault_parts line checks fault e = parts (first_bad checks) refl e
  where
    parts : (o : Option Bad) → first_bad checks ≡ o → fault_at line o None ≡ Some fault → (bad : Bad)
        × (first_bad checks ≡ Some bad) × (record { line = line; bad = bad } ≡ fault)
    parts None is k = absurd cc
    parts (Some bad) is k = let same : record { line = line; bad = bad } ≡ fault = cc in (bad, is, same)

-- what is kept says what the messages before are
past_is : (known : List (ℕ × Commodity)) (k : Reader) (done : List MessageLines) → k.done ≡ statements_of known done
    → k.page ≡ last_page known done
    → past_kept k ≡ past_of known done
past_is known k done d p = λ i. record { page = p i; statements = length (d i); lines = last_lines (d i) }

outside : (known : List (ℕ × Commodity)) (k : Reader) (done : List MessageLines) → IsBetween known k done
    → is_within k ≡ false
outside known k done b = ap (λ (m : Message). is_some m.last) b.message_is

inside : (known : List (ℕ × Commodity)) (k : Reader) (done : List MessageLines) (fs : List FieldLines) (last : Last)
    → IsWithin known k done fs last → is_within k ≡ true
inside known k done fs last w = ap (λ (m : Message). is_some m.last) w.message_is ∙ w.begun

-- a message that has just begun
begun_is : (known : List (ℕ × Commodity)) (k : Reader) (done : List MessageLines) (n : ℕ) (first : List ℕ)
    → IsBetween known k done
    → IsWithin known (begun k) done [] (Open Reference n first [])
begun_is known k done n first b =
    let f : FieldLines = field_with Reference n first [] in
    record {
      done_is = b.done_is;
      page_is = b.page_is;
      message_is = ap (λ (m : Message). with_reference m) b.message_is;
      goes_is = b.goes_is;
      begun = refl;
      sound =
          ap first_fault (places-push known done [] f)
          ∙ sound_more (places known done [])
          (place f.line (field_checks known (past_of known done) (values known []) Reference first))
          (ap first_fault (append-nil (file_places known done)) ∙ b.sound) refl;
    }
  where
    with_reference : Message → Message
    with_reference m = record m { last = Some Reference }

-- the checks at the end of a message
whole_checks : (known : List (ℕ × Commodity)) (k : Reader) (done : List MessageLines) (fs : List FieldLines)
    (last : Last) → IsWithin known k done fs last
    → end_checks k ≡ check (is_some (values known (with_last fs last)).closing) CutOff ∷ []
whole_checks known k done fs last w =
    ap (λ t. cond t (check (is_some k.message.closing) CutOff ∷ []) []) (inside known k done fs last w)
    ∙ ap (λ (m : Message). check (is_some m.closing) CutOff ∷ []) w.message_is

-- a message that has ended
ended_is : (known : List (ℕ × Commodity)) (k : Reader) (done : List MessageLines) (fs : List FieldLines)
    (last : Last) (n : ℕ) → IsWithin known k done fs last
    → first_bad (end_checks k) ≡ None → IsBetween known (ended known k) (done ++ message (with_last fs last) n ∷ [])
ended_is known k done fs last n w holds =
    let gs : List FieldLines = with_last fs last in
    let whole : Reader = record {
      done = with_message k.page k.message k.done;
      page = Some (page_of k.message);
      message = values known [];
      text_goes_on = false;
    } in
    let same : ended known k ≡ whole = ap (λ t. cond t whole k) (inside known k done fs last w) in
    let kept : IsBetween known whole (done ++ message gs n ∷ []) = record {
      done_is = with_all k.page (last_page known done) k.message (values known gs) k.done (statements_of known done)
          w.page_is w.message_is w.done_is
          ∙ sym (statements-push known done (message gs n));
      page_is = ap (λ (m : Message). Some (page_of m)) w.message_is ∙ sym (last_page-push known done (message gs n));
      message_is = refl;
      goes_is = refl;
      sound = whole_sound known done gs n w.sound (sym (ap first_bad (whole_checks known k done fs last w)) ∙ holds);
    } in
    subst (λ r. IsBetween known r (done ++ message gs n ∷ [])) (sym same) kept
  where
    with_all : (p q : Option Page) (m o : Message) (s t : List Statement) → p ≡ q → m ≡ o → s ≡ t
        → with_message p m s ≡ with_message q o t
    with_all p q m o s t a b c = λ i. with_message (a i) (b i) (c i)

-- a reader between messages has nothing to end
not_ended : (known : List (ℕ × Commodity)) (k : Reader) (done : List MessageLines) → IsBetween known k done
    → ended known k ≡ k
not_ended known k done b =
    ap (λ t. cond t (record {
      done = with_message k.page k.message k.done;
      page = Some (page_of k.message);
      message =
          values known [];
      text_goes_on = false;
    }) k)
    (outside known k done b)

-- the checks of a field of the message
field_checks-is : (known : List (ℕ × Commodity)) (k : Reader) (done : List MessageLines) (fs : List FieldLines)
    (last : Last) (tag : Tag) (line : List ℕ)
    → IsWithin known k done fs last
    → line_checks_of known (Field tag) line k ≡ field_checks known (past_of known done)
    (values known (with_last fs last)) tag (field_text line)
field_checks-is known k done fs last tag line w =
    ap (λ t. cond t (field_checks known (past_kept k) k.message tag (field_text line)) [])
    (inside known k done fs last w)
    ∙ ap (λ p. field_checks known p k.message tag (field_text line)) (past_is known k done w.done_is w.page_is)
    ∙ ap (λ m. field_checks known (past_of known done) m tag (field_text line)) w.message_is

-- a field more
field_is : (known : List (ℕ × Commodity)) (k : Reader) (done : List MessageLines) (fs : List FieldLines)
    (last : Last) (n : ℕ) (tag : Tag) (line : List ℕ)
    → IsWithin known k done fs last → first_bad (line_checks_of known (Field tag) line k) ≡ None
    → IsWithin known (next known (Field tag) line k) done (with_last fs last) (Open tag (n + 1) (field_text line) [])
field_is known k done fs last n tag line w holds =
    let gs : List FieldLines = with_last fs last in
    let text : List ℕ = field_text line in
    let f : FieldLines = field_with tag (n + 1) text [] in
    let taken : Reader = with_field k (after known k.message tag text)
    (is_line tag || (is_text tag && ends_in_line k.message.last)) in
    let same : next known (Field tag) line k ≡ taken = ap (λ t. cond t taken k) (inside known k done fs last w) in
    let kept : IsWithin known taken done gs (Open tag (n + 1) text []) = record {
      done_is = w.done_is;
      page_is = w.page_is;
      message_is = ap (λ m. after known m tag text) w.message_is ∙ sym (values-push known gs tag (n + 1) text);
      goes_is = ap (λ (m : Message). is_line tag || (is_text tag && ends_in_line m.last)) w.message_is;
      begun = ap is_some (last_tag-push gs f);
      sound =
          ap first_fault (places-push known done gs f)
          ∙ sound_more (places known done gs)
          (place f.line (field_checks known (past_of known done) (values known gs) tag text)) w.sound
          (sym (ap first_bad (field_checks-is known k done fs last tag line w)) ∙ holds);
    } in
    subst (λ r. IsWithin known r done gs (Open tag (n + 1) text [])) (sym same) kept
  where
    with_field : Reader → Message → Bool → Reader
    with_field k m goes = record k { message = m; text_goes_on = goes }

-- a further line more
more_is : (known : List (ℕ × Commodity)) (k : Reader) (done : List MessageLines) (fs : List FieldLines) (tag : Tag)
    (m : ℕ) (first : List ℕ) (more : List (List ℕ)) (line : List ℕ)
    → IsWithin known k done fs (Open tag m first more)
    → IsWithin known (next known More line k) done fs (Open tag m first (more ++ line ∷ []))
more_is known k done fs tag m first more line w =
    let f : FieldLines = field_with tag m first more in
    let longer_f : FieldLines = field_with tag m first (more ++ line ∷ []) in
    let sound : first_fault (places known done (fs ++ longer_f ∷ [])) ≡ None =
    ap first_fault (places-push known done fs longer_f) ∙ sym (ap first_fault (places-push known done fs f))
    ∙ w.sound in
    let P : Bool → Type 0 = λ t. takes_more fs tag ≡ t
    → IsWithin known (cond t (with_message_of k (after_more k.message line)) k) done fs
    (Open tag m first (more ++ line ∷ [])) in
    let kept : IsWithin known (cond (takes_more fs tag) (with_message_of k (after_more k.message line)) k) done fs
    (Open tag m first (more ++ line ∷ [])) =
    elim (takes_more fs tag) as P [
      | true ↦ λ e. record {
        done_is = w.done_is;
        page_is = w.page_is;
        message_is = ap (λ v. after_more v line) w.message_is ∙ sym (values-more known fs f line e);
        goes_is = w.goes_is;
        begun = ap is_some (last_tag-push fs longer_f);
        sound = sound;
      }
      | false ↦ λ e. record {
        done_is = w.done_is;
        page_is = w.page_is;
        message_is = w.message_is ∙ sym (values-idle known fs f line e);
        goes_is = w.goes_is;
        begun = ap is_some (last_tag-push fs longer_f);
        sound = sound;
      }
    ] refl in
    subst (λ t. IsWithin known (cond t (with_message_of k (after_more k.message line)) k) done fs
    (Open tag m first (more ++ line ∷ []))) (sym w.goes_is) kept
  where
    with_message_of : Reader → Message → Reader
    with_message_of k v = record k { message = v }

-- a line of which the checks hold
pub kept_ok : (known : List (ℕ × Commodity)) (n : ℕ) (line : List ℕ) (kind : Kind) (k : Reader) (t : Begun)
    → Knows known k t
    → first_bad (line_checks_of known kind line k) ≡ None → Knows known (next known kind line k) (add n line kind t)
kept_ok known n line Begins k (Between done) b holds =
    subst (λ r. IsWithin known (begun r) done [] (Open Reference (n + 1) (field_text line) []))
    (sym (not_ended known k done b))
    (begun_is known k done (n + 1) (field_text line) b)
kept_ok known n line Begins k (Within done fs last) w holds =
    begun_is known (ended known k) (done ++ message (with_last fs last) n ∷ []) (n + 1) (field_text line)
    (ended_is known k done fs last n w holds)
kept_ok known n line (Field tag) k (Between done) b holds =
    subst (λ t. IsBetween known (cond t (taken k) k) done) (sym (outside known k done b)) b
  where
    taken : Reader → Reader
    taken k = record k {
      message = after known k.message tag (field_text line);
      text_goes_on = is_line tag || (is_text tag
          && ends_in_line k.message.last);
    }
kept_ok known n line (Field tag) k (Within done fs last) w holds = field_is known k done fs last n tag line w holds
kept_ok known n line Passed k (Between done) b holds =
    record { done_is = b.done_is; page_is = b.page_is; message_is = b.message_is; goes_is = refl; sound = b.sound }
kept_ok known n line Passed k (Within done fs last) w holds =
    record {
      done_is = w.done_is;
      page_is = w.page_is;
      message_is = w.message_is;
      goes_is = refl;
      begun = w.begun;
      sound = w.sound;
    }
kept_ok known n line Ends k (Between done) b holds = subst (λ r. IsBetween known r done)
    (sym (not_ended known k done b)) b
kept_ok known n line Ends k (Within done fs last) w holds = ended_is known k done fs last n w holds
kept_ok known n line More k (Between done) b holds =
    subst (λ t. IsBetween known (cond t (further k) k) done) (sym b.goes_is) b
  where
    further : Reader → Reader
    further k = record k { message = after_more k.message line }
kept_ok known n line More k (Within done fs Closed) w holds =
    subst (λ t. IsWithin known (cond t (further k) k) done fs Closed) (sym w.goes_is) w
  where
    further : Reader → Reader
    further k = record k { message = after_more k.message line }
kept_ok known n line More k (Within done fs (Open tag m first more)) w holds = more_is known k done fs tag m first
    more line w

-- no check, no fault
no_fault : (line : ℕ) (checks : List Check) (fault : StatementFault) → checks ≡ []
    → fault_at line (first_bad checks) None ≡ Some fault → ⊥
no_fault line [] fault e f = absurd cc
no_fault line (c ∷ cs) fault e f = absurd cc

no_end_checks : (known : List (ℕ × Commodity)) (k : Reader) (done : List MessageLines) → IsBetween known k done
    → end_checks k ≡ []
no_end_checks known k done b = ap (λ t. cond t (check (is_some k.message.closing) CutOff ∷ []) [])
    (outside known k done b)

-- a message that may not end, whatever follows
end_bad : (known : List (ℕ × Commodity)) (k : Reader) (done : List MessageLines) (fs : List FieldLines) (last : Last)
    (n : ℕ) (fault : StatementFault) (rest : List MessageLines)
    → IsWithin known k done fs last → fault_at n (first_bad (end_checks k)) None ≡ Some fault
    → result_of known (done ++ message (with_last fs last) n ∷ rest) ≡ Err fault
end_bad known k done fs last n fault rest w e =
    let p = fault_parts n (end_checks k) fault e in
    end_fault known done (with_last fs last) n rest p.0 w.sound
    (sym (ap first_bad (whole_checks known k done fs last w)) ∙ p.1)
    ∙ ap Err p.2

-- a line at which a check fails: that is the fault of the file, whatever follows
pub kept_bad : (known : List (ℕ × Commodity)) (n : ℕ) (line : List ℕ) (kind : Kind) (k : Reader) (t : Begun)
    (fault : StatementFault) → Knows known k t
    → fault_at (line_of_fault kind n) (first_bad (line_checks_of known kind line k)) None ≡ Some fault
    → (part : Part) → result_of known (fill (add n line kind t) part) ≡ Err fault
kept_bad known n line Begins k (Between done) fault b e part = absurd
    (no_fault n (end_checks k) fault (no_end_checks known k done b) e)
kept_bad known n line Begins k (Within done fs last) fault w e part =
    ap (result_of known) (append_assoc done (message (with_last fs last) n ∷ []) _)
    ∙ end_bad known k done fs last n fault _ w e
kept_bad known n line (Field tag) k (Between done) fault b e part =
    absurd (no_fault (n + 1) (line_checks_of known (Field tag) line k) fault
    (ap (λ t. cond t (field_checks known (past_kept k) k.message tag (field_text line)) []) (outside known k done b))
    e)
kept_bad known n line (Field tag) k (Within done fs last) fault w e part =
    let p = fault_parts (n + 1) (line_checks_of known (Field tag) line k) fault e in
    field_fault known done (with_last fs last) (field_with tag (n + 1) (field_text line) part.loose) part.fields
    part.last part.messages p.0 w.sound
    (sym (ap first_bad (field_checks-is known k done fs last tag line w)) ∙ p.1)
    ∙ ap Err p.2
kept_bad known n line Passed k t fault w e part = absurd cc
kept_bad known n line Ends k (Between done) fault b e part = absurd
    (no_fault n (end_checks k) fault (no_end_checks known k done b) e)
kept_bad known n line Ends k (Within done fs last) fault w e part =
    ap (result_of known) (append_assoc done (message (with_last fs last) n ∷ []) part.messages)
    ∙ end_bad known k done fs last n fault part.messages w e
kept_bad known n line More k t fault w e part = absurd cc

-- what a file says of which all places are sound
answered : (known : List (ℕ × Commodity)) (ms : List MessageLines) → first_fault (file_places known ms) ≡ None
    → result_of known ms ≡ unless_fault (no_statement (statements_of known ms)) (statements_of known ms)
answered known [] sound = refl
answered known (m ∷ ms) sound =
    let some = statements-some known m ms in
    ap (λ o. unless_fault o (statements_of known (m ∷ ms))) sound
    ∙ sym (ap (λ ss. unless_fault (no_statement ss) (statements_of known (m ∷ ms))) some.2)

fill_end : (done : List MessageLines) (fs : List FieldLines) (last : Last) (n : ℕ)
    → fill (Within done fs last) (record { loose = []; fields = []; last = n; messages = [] }) ≡ done ++ message
    (with_last fs last) n ∷ []
fill_end done fs Closed n = simp append-nil
fill_end done fs (Open tag m first more) n = simp append-nil

-- the end of the file
pub finished_is : (known : List (ℕ × Commodity)) (n : ℕ) (k : Reader) (t : Begun) → Knows known k t
    → result_of known (fill t (record { loose = []; fields = []; last = n; messages = [] })) ≡ finished known n k
finished_is known n k (Between done) b =
    ap (result_of known) (append-nil done)
    ∙ answered known done b.sound
    ∙ ap (λ ss. unless_fault (no_statement ss) ss) (sym b.done_is)
    ∙ sym (ap (λ (r : Reader). unless_fault (fault_at n (first_bad (end_checks k)) (no_statement r.done)) r.done)
    (not_ended known k done b)
    ∙ ap (λ cs. unless_fault (fault_at n (first_bad cs) (no_statement k.done)) k.done) (no_end_checks known k done b))
finished_is known n k (Within done fs last) w =
    ap (result_of known) (fill_end done fs last n) ∙ by_checks (first_bad (end_checks k)) refl
  where
    by_checks : (o : Option Bad) → first_bad (end_checks k) ≡ o
        → result_of known (done ++ message (with_last fs last) n ∷ []) ≡ finished known n k
    by_checks None e =
        let b = ended_is known k done fs last n w e in
        answered known (done ++ message (with_last fs last) n ∷ []) b.sound
        ∙ ap (λ ss. unless_fault (no_statement ss) ss) (sym b.done_is)
        ∙ sym (ap (λ o. unless_fault (fault_at n o (no_statement (ended known k).done)) (ended known k).done) e)
    by_checks (Some bad) e =
        end_fault known done (with_last fs last) n [] bad w.sound
        (sym (ap first_bad (whole_checks known k done fs last w)) ∙ e)
        ∙ sym (ap (λ o. unless_fault (fault_at n o (no_statement (ended known k).done)) (ended known k).done) e)

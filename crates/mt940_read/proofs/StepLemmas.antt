-- What a reader's calls answer, by the checks of the line that they take.
use Rattle.std.proofs.Common.{
  ◌≡◌,
  ℕ,
  ◌+◌,
  List,
  [],
  ◌∷◌,
  ◌++◌,
  Option,
  Some,
  None,
  Bool,
  true,
  false,
  cond,
  is_some,
  Result,
  Ok,
  Err,
  refl,
  sym,
  ap,
  subst,
  ◌∙◌,
}
use Rattle.std.specs.Option.{option_or}
use Rattle.std.specs.Prelude.{codes, nat_eq, take, drop, ◌-◌, ◌||◌}
use Rattle.std.specs.List.{starts_with}
use lib.Pointwise.{pointwise}
use Rattle.book_commodity.specs.declared.commodity.Commodity.{Commodity}
use Rattle.book_statement.specs.declared.bad.Bad.{Bad}
use Rattle.book_statement.specs.declared.bad.Bad.TheVariants.{CutOff, FieldOrder}
use Rattle.book_statement.specs.declared.read_error.ReadError.{ReadError}
use Rattle.book_statement.specs.declared.read_error.ReadError.TheVariants.{Fault, OutOfMemory}
use Rattle.book_statement.specs.declared.statement.Statement.{Statement}
use Rattle.book_statement.specs.Checks.{Check, check, first_bad, fault_at, unless_fault, Gives}
use Rattle.book_statement.proofs.CheckLemmas.{first_bad-append}
use Rattle.mt940_read.specs.declared.message.Message.{Message}
use Rattle.mt940_read.specs.declared.reader.Reader.{Reader}
use Rattle.mt940_read.specs.declared.tag.Tag.{Tag}
use Rattle.mt940_read.specs.declared.tag.Tag.TheVariants.{
  Reference,
  Related,
  Account,
  Number,
  Opening,
  Line,
  Text,
  Closing,
  Available,
  Forward,
}
use Rattle.mt940_read.specs.declared.tag.Kind.TheVariants.{Begins, Field, Ends, More}
use Rattle.mt940_read.specs.declared.tag.Kind.{Kind}
use Rattle.mt940_read.specs.Balances.{balance, balance_form}
use Rattle.mt940_read.specs.FieldChecks.{
  Fits,
  field_checks,
  opening_checks,
  opening_currency_checks,
  closing_checks,
  reckoned_checks,
  later_checks,
  later_currency_checks,
  line_checks,
  line_amount_checks,
}
use Rattle.mt940_read.specs.Kinds.{field_text, kind_of, has_tag, field_kind, tag_of, tag_width}
use Rattle.mt940_read.specs.LineField.{line_form}
use Rattle.mt940_read.specs.Order.{may_follow}
use Rattle.mt940_read.specs.Pages.{Past, page_of, with_message}
use Rattle.mt940_read.specs.Steps.{
  Steps,
  past_kept,
  is_within,
  ended,
  end_checks,
  line_checks_of,
  line_of_fault,
  next,
  finished,
  no_statement,
}
use Rattle.mt940_read.specs.Values.{values}
use Rattle.mt940_read.proofs.FormLemmas.{held}

-- of checks that all hold, the first ones hold
pub front_holds : (cs ds : List Check) → first_bad (cs ++ ds) ≡ None → first_bad cs ≡ None
front_holds cs ds e = front (first_bad cs) (first_bad ds) (sym (first_bad-append cs ds) ∙ e)
  where
    front : {X : Type 0} (a b : Option X) → option_or a b ≡ None → a ≡ None
    front None b e = refl
    front (Some x) b e = absurd cc

-- what the checks of a field leave of its form
pub fits_of : (known : List (ℕ × Commodity)) (past : Past) (m : Message) (tag : Tag) (text : List ℕ)
    → first_bad (field_checks known past m tag text) ≡ None → Fits m tag text
unfolding opening_checks closing_checks later_checks line_checks
fits_of known past m Reference text e = tt
fits_of known past m Related text e = tt
fits_of known past m Account text e = tt
fits_of known past m Number text e = tt
fits_of known past m (Opening g) text e =
    front_holds (balance_form text) (opening_currency_checks known past.page past.statements m g text)
    (held (may_follow m.last (is_some m.closing) (Opening g)) FieldOrder
    (opening_checks known past.page past.statements m g text) e).1
fits_of known past m Line text e =
    front_holds (line_form text) (line_amount_checks past.page past.lines m text)
    (held (may_follow m.last (is_some m.closing) Line) FieldOrder (line_checks past.page past.lines m text) e).1
fits_of known past m Text text e = tt
fits_of known past m (Closing g) text e =
    front_holds (balance_form text) (later_currency_checks known m text)
    (front_holds (later_checks known m text) (reckoned_checks m (balance m.fraction text))
    (held (may_follow m.last (is_some m.closing) (Closing g)) FieldOrder (closing_checks known m text) e).1)
fits_of known past m Available text e = tt
fits_of known past m Forward text e = tt

-- a field at which a check fails
pub field_bad : (known : List (ℕ × Commodity)) (k : Reader) (before : ℕ) (tag : Tag) (line : List ℕ) (bad : Bad)
    → is_within k ≡ true
    → first_bad (field_checks known (past_kept k) k.message tag (field_text line)) ≡ Some bad
    → fault_at (before + 1) (first_bad (line_checks_of known (Field tag) line k)) None ≡ Some
    (record { line = before + 1; bad = bad })
field_bad known k before tag line bad within e =
    ap (λ t. fault_at (before + 1)
    (first_bad (cond t (field_checks known (past_kept k) k.message tag (field_text line)) [])) None) within
    ∙ ap (λ o. fault_at (before + 1) o None) e

-- no message has begun
pub end_none : (known : List (ℕ × Commodity)) (k : Reader) → is_within k ≡ false → (first_bad (end_checks k) ≡ None)
    × (k ≡ ended known k)
end_none known k without = (
  ap (λ t. first_bad (cond t (check (is_some k.message.closing) CutOff ∷ []) [])) without,
  sym (ap (λ t. cond t (record {
    done = with_message k.page k.message k.done;
    page = Some (page_of k.message);
    message = values known [];
    text_goes_on = false;
  }) k) without),
)

-- a message without its closing balance
pub end_cut : (k : Reader) (last : ℕ) → is_within k ≡ true → is_some k.message.closing ≡ false
    → fault_at last (first_bad (end_checks k)) None ≡ Some (record { line = last; bad = CutOff })
end_cut k last within open' =
    ap (λ t. fault_at last (first_bad (cond t (check (is_some k.message.closing) CutOff ∷ []) [])) None) within
    ∙ ap (λ t. fault_at last (first_bad (check t CutOff ∷ [])) None) open'

-- a whole message
pub end_whole : (known : List (ℕ × Commodity)) (k : Reader) → is_within k ≡ true → is_some k.message.closing ≡ true
    → (first_bad (end_checks k) ≡ None)
    × (record {
      done = with_message k.page k.message k.done;
      page = Some (page_of k.message);
      message = values known
          [];
      text_goes_on = false;
    } ≡ ended known k)
end_whole known k within closed = (
  ap (λ t. first_bad (cond t (check (is_some k.message.closing) CutOff ∷ []) [])) within
      ∙ ap (λ t. first_bad (check t CutOff ∷ [])) closed,
  sym (ap (λ t. cond t (record {
    done = with_message k.page k.message k.done;
    page = Some (page_of k.message);
    message = values known [];
    text_goes_on = false;
  }) k) within),
)

-- an error says the same, whatever would have been kept
pub steps_err : (line : ℕ) (checks : List Check) (a b : Reader) (e : ReadError) (m n : Reader)
    → Steps {X = Unit {0}} line checks a (Err e) m → Steps {X = Unit {0}} line checks b (Err e) n
steps_err line checks a b OutOfMemory m n h = tt
steps_err line checks a b (Fault f) m n h = h

-- where there is no check the line doesn't matter
pub steps_free : {X : Type 0} (m n : ℕ) (a : Reader) (r : Result X ReadError) (new : Reader) → Steps m [] a r new
    → Steps n [] a r new
steps_free m n a (Ok x) new h = h
steps_free m n a (Err OutOfMemory) new h = tt
steps_free m n a (Err (Fault f)) new h = h

-- by the kind of the line
pub steps_kind : {X : Type 0} (known : List (ℕ × Commodity)) (before : ℕ) (kind is : Kind) (line : List ℕ)
    (k : Reader) (r : Result X ReadError) (new : Reader) → kind ≡ is
    → Steps (line_of_fault is before) (line_checks_of known is line k) (next known is line k) r new
    → Steps (line_of_fault kind before) (line_checks_of known kind line k) (next known kind line k) r new
steps_kind known before kind is line k r new e h =
    subst (λ x. Steps (line_of_fault x before) (line_checks_of known x line k) (next known x line k) r new) (sym e) h

-- a line of a field has a tag
pub tag_of_kind : (line : List ℕ) (tag : Tag) → kind_of line ≡ Field tag → has_tag line ≡ true
unfolding kind_of
tag_of_kind line tag e = by_front (starts_with nat_eq line (codes ":20:")) (has_tag line) refl e
  where
    by_end : (t : Bool) → cond t Ends More ≡ Field tag → ⊥
    by_end true k = absurd cc
    by_end false k = absurd cc

    by_front : (a b : Bool) → has_tag line ≡ b
        → cond a Begins (cond b (field_kind (tag_of (take (tag_width line - 2) (drop 1 line))))
        (cond (pointwise nat_eq line (codes "-") || starts_with nat_eq line (codes "-}")) Ends More)) ≡ Field tag
        → has_tag line ≡ true
    by_front true b h k = absurd cc
    by_front false true h k = h
    by_front false false h k = absurd
        (by_end (pointwise nat_eq line (codes "-") || starts_with nat_eq line (codes "-}")) k)

-- what is said at the end of the file
pub finish_ok : (known : List (ℕ × Commodity)) (last : ℕ) (k new : Reader) (r : Result (List Statement) ReadError)
    → (first_bad (end_checks k) ≡ None) × (new ≡ ended known k)
    → Gives (unless_fault (no_statement new.done) new.done) r → Gives (finished known last k) r
finish_ok known last k new r took h =
    let same : unless_fault (no_statement new.done) new.done ≡ finished known last k =
    ap (λ (x : Reader). unless_fault (no_statement x.done) x.done) took.1
    ∙ ap (λ o. unless_fault (fault_at last o (no_statement (ended known k).done)) (ended known k).done) (sym took.0) in
    subst (λ s. Gives s r) same h

pub finish_err : (known : List (ℕ × Commodity)) (last : ℕ) (k new : Reader) (e : ReadError)
    → Steps {X = Unit {0}} last (end_checks k) (ended known k) (Err e) new
    → Gives (finished known last k) (Err e)
finish_err known last k new OutOfMemory h = tt
finish_err known last k new (Fault f) h = by_checks (first_bad (end_checks k)) h
  where
    by_checks : (o : Option Bad) → fault_at last o None ≡ Some f
        → unless_fault (fault_at last o (no_statement (ended known k).done)) (ended known k).done ≡ Err f
    by_checks None e = absurd cc
    by_checks (Some bad) e = ap (λ g. unless_fault g (ended known k).done) e

-- a file that is sound has statements
pub answer_some : (done : List Statement) → (done ≡ [] → ⊥) → unless_fault (no_statement done) done ≡ Ok done
answer_some [] some = absurd (some refl)
answer_some (s ∷ ss) some = refl

-- a reader for which no further lines belong to a line
abbrev pub at_rest : Reader → Reader
at_rest k = record k { text_goes_on = false }

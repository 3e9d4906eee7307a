-- The values of a message with one field or one further line more.
use Rattle.std.proofs.Common.{
  ◌≡◌,
  ℕ,
  List,
  [],
  ◌∷◌,
  ◌++◌,
  Some,
  Bool,
  true,
  false,
  ◌⊎◌,
  inl,
  inr,
  cond,
  unwrap_or,
  refl,
  sym,
  ap,
  ◌∙◌,
  pos,
}
use Rattle.std.specs.Option.{option_or}
use Rattle.std.specs.Prelude.{◌&&◌, ◌||◌, if◌then◌else◌}
use Rattle.std.proofs.lemmas.Bool.{or_parts}
use Rattle.std.proofs.lemmas.List.{append-nil}
use Rattle.book_commodity.specs.declared.commodity.Commodity.{Commodity}
use Rattle.book_statement.specs.declared.statement_line.StatementLine.{StatementLine}
use Rattle.book_statement.specs.Lists.{on_last}
use Rattle.mt940_read.specs.declared.message.Message.{Message}
use Rattle.mt940_read.specs.declared.tag.Tag.{Tag}
use Rattle.mt940_read.specs.declared.tag.Tag.TheVariants.{
  Reference,
  Related,
  Account,
  Number,
  Opening,
  Line,
  Text,
  Closing,
  Available,
  Forward,
}
use Rattle.mt940_read.specs.Entries.{last_given, last_tag, fraction_given, fraction_behind, entries}
use Rattle.mt940_read.specs.LineField.{line, add_text}
use Rattle.mt940_read.specs.Order.{is_line, is_text}
use Rattle.mt940_read.specs.Tree.{FieldLines}
use Rattle.mt940_read.specs.Messages.{
  account_given,
  number_given,
  currency_given,
  opening_given,
  opens_given,
  closing_given,
  closes_given,
  day_given,
}
use Rattle.mt940_read.specs.Values.{
  values,
  after,
  after_more,
  ends_in_line,
}
use Rattle.mt940_read.proofs.EntryLemmas.{
  last_given-push,
  last_tag-push,
  entries-push,
  entries-text,
  entry-other,
  longer,
  entries-longer_line,
  entries-longer_text,
}

-- messages with equal values are equal
same_message : (m n : Message) → m.last ≡ n.last → m.account ≡ n.account → m.number ≡ n.number
    → m.currency ≡ n.currency → m.fraction ≡ n.fraction
    → m.opening ≡ n.opening → m.opens_page ≡ n.opens_page → m.closing ≡ n.closing → m.closes_page ≡ n.closes_page
    → m.day ≡ n.day → m.lines ≡ n.lines
    → m ≡ n
same_message m n a b c d e f g h j k l = λ i. record {
  last = a i;
  account = b i;
  number = c i;
  currency = d i;
  fraction = e i;
  opening = f i;
  opens_page = g i;
  closing = h i;
  closes_page = j i;
  day = k i;
  lines = l i;
}

-- each value is what the new field gives, or else the value before
abbrev pushed : List (ℕ × Commodity) → List FieldLines → Tag → List ℕ → List StatementLine → Message
pushed known fs tag first lines = record {
  last = Some tag;
  account = unwrap_or (option_or (account_given fs tag first) (last_given account_given [] fs)) [];
  number = unwrap_or (option_or (number_given fs tag first) (last_given number_given [] fs)) [];
  currency = unwrap_or (option_or (currency_given fs tag first) (last_given currency_given [] fs)) [];
  fraction = unwrap_or (option_or (fraction_given known fs tag first) (last_given (fraction_given known) [] fs)) 1;
  opening = option_or (opening_given known fs tag first) (last_given (opening_given known) [] fs);
  opens_page = unwrap_or (option_or (opens_given fs tag first) (last_given opens_given [] fs)) false;
  closing = option_or (closing_given known fs tag first) (last_given (closing_given known) [] fs);
  closes_page = unwrap_or (option_or (closes_given fs tag first) (last_given closes_given [] fs)) false;
  day = unwrap_or (option_or (day_given fs tag first) (last_given day_given [] fs)) (pos 0);
  lines = lines;
}

pub values_pushed : (known : List (ℕ × Commodity)) (fs : List FieldLines) (f : FieldLines)
    → values known (fs ++ f ∷ []) ≡ pushed known fs f.tag f.first (entries known [] (fs ++ f ∷ []))
values_pushed known fs f =
    same_message (values known (fs ++ f ∷ [])) (pushed known fs f.tag f.first (entries known [] (fs ++ f ∷ [])))
    (last_tag-push fs f)
    (ap (λ o. unwrap_or o []) (last_given-push account_given [] fs f))
    (ap (λ o. unwrap_or o []) (last_given-push number_given [] fs f))
    (ap (λ o. unwrap_or o []) (last_given-push currency_given [] fs f))
    (ap (λ o. unwrap_or o 1) (last_given-push (fraction_given known) [] fs f))
    (last_given-push (opening_given known) [] fs f)
    (ap (λ o. unwrap_or o false) (last_given-push opens_given [] fs f))
    (last_given-push (closing_given known) [] fs f)
    (ap (λ o. unwrap_or o false) (last_given-push closes_given [] fs f))
    (ap (λ o. unwrap_or o (pos 0)) (last_given-push day_given [] fs f))
    refl

abbrev new_field : Tag → ℕ → List ℕ → FieldLines
new_field tag n first = record { tag = tag; line = n; first = first; more = [] }

-- a field that is neither a 61 nor a text gives no line
no_line : (known : List (ℕ × Commodity)) (fs : List FieldLines) (f : FieldLines) → is_line f.tag ≡ false
    → is_text f.tag ≡ false
    → entries known [] (fs ++ f ∷ []) ≡ entries known [] fs
no_line known fs f not_line not_text =
    entries-push known fs f (ap (λ t. ends_in_line (last_tag fs) && t) not_text
    ∙ and-false (ends_in_line (last_tag fs)))
    ∙ ap (λ t. entries known [] fs ++ cond t (line (fraction_behind known fs) f.first (f.more ++ []) ∷ []) []) not_line
    ∙ append-nil (entries known [] fs)
  where
    and-false : (t : Bool) → (t && false) ≡ false
    and-false true = refl
    and-false false = refl

new_line : (known : List (ℕ × Commodity)) (fs : List FieldLines) (n : ℕ) (first : List ℕ)
    → entries known [] (fs ++ new_field Line n first ∷ []) ≡ entries known [] fs ++ line (fraction_behind known fs)
    first [] ∷ []
new_line known fs n first = entries-push known fs (new_field Line n first) (and-false (ends_in_line (last_tag fs)))
  where
    and-false : (t : Bool) → (t && false) ≡ false
    and-false true = refl
    and-false false = refl

new_text : (known : List (ℕ × Commodity)) (fs : List FieldLines) (n : ℕ) (first : List ℕ)
    → entries known [] (fs ++ new_field Text n first ∷ [])
    ≡ (if ends_in_line (last_tag fs) then on_last (add_text first) (entries known [] fs) else entries known [] fs)
new_text known fs n first =
    let P : Bool → Type 0 = λ t. ends_in_line (last_tag fs) ≡ t
    → entries known [] (fs ++ new_field Text n first ∷ []) ≡
    (if t then on_last (add_text first) (entries known [] fs) else entries known [] fs) in
    elim (ends_in_line (last_tag fs)) as P [
      | true ↦ λ e. entries-text known fs (new_field Text n first) e refl refl
      | false ↦ λ e. entries-push known fs (new_field Text n first) (ap (λ t. t && true) e)
          ∙ append-nil (entries known [] fs)
    ] refl

-- the law by which a message is read from its first field on
pub values-push : (known : List (ℕ × Commodity)) (fs : List FieldLines) (tag : Tag) (n : ℕ) (first : List ℕ)
    → values known (fs ++ new_field tag n first ∷ []) ≡ after known (values known fs) tag first
values-push known fs Reference n first = values_pushed known fs (new_field Reference n first)
    ∙ ap (pushed known fs Reference first) (no_line known fs (new_field Reference n first) refl refl)
values-push known fs Related n first = values_pushed known fs (new_field Related n first)
    ∙ ap (pushed known fs Related first) (no_line known fs (new_field Related n first) refl refl)
values-push known fs Account n first = values_pushed known fs (new_field Account n first)
    ∙ ap (pushed known fs Account first) (no_line known fs (new_field Account n first) refl refl)
values-push known fs Number n first = values_pushed known fs (new_field Number n first)
    ∙ ap (pushed known fs Number first) (no_line known fs (new_field Number n first) refl refl)
values-push known fs (Opening g) n first = values_pushed known fs (new_field (Opening g) n first)
    ∙ ap (pushed known fs (Opening g) first) (no_line known fs (new_field (Opening g) n first) refl refl)
values-push known fs Line n first = values_pushed known fs (new_field Line n first)
    ∙ ap (pushed known fs Line first) (new_line known fs n first)
values-push known fs Text n first = values_pushed known fs (new_field Text n first)
    ∙ ap (pushed known fs Text first) (new_text known fs n first)
values-push known fs (Closing g) n first = values_pushed known fs (new_field (Closing g) n first)
    ∙ ap (pushed known fs (Closing g) first) (no_line known fs (new_field (Closing g) n first) refl refl)
values-push known fs Available n first = values_pushed known fs (new_field Available n first)
    ∙ ap (pushed known fs Available first) (no_line known fs (new_field Available n first) refl refl)
values-push known fs Forward n first = values_pushed known fs (new_field Forward n first)
    ∙ ap (pushed known fs Forward first) (no_line known fs (new_field Forward n first) refl refl)

-- whether further lines of a field belong to the text of a line
abbrev pub takes_more : List FieldLines → Tag → Bool
takes_more fs tag = is_line tag || (is_text tag && ends_in_line (last_tag fs))

-- further lines that belong to the text of a line
pub values-more : (known : List (ℕ × Commodity)) (fs : List FieldLines) (f : FieldLines) (piece : List ℕ)
    → takes_more fs f.tag ≡ true
    → values known (fs ++ longer f piece ∷ []) ≡ after_more (values known (fs ++ f ∷ [])) piece
values-more known fs f piece e =
    values_pushed known fs (longer f piece)
    ∙ ap (pushed known fs f.tag f.first) (longer_entries known fs f piece e)
    ∙ ap (λ m. after_more m piece) (sym (values_pushed known fs f))
  where
    takes_cases : (a b c : Bool) → (a || (b && c)) ≡ true → (a ≡ true) ⊎ ((b ≡ true) × (c ≡ true))
    takes_cases true b c e = inl refl
    takes_cases false true true e = inr (refl, refl)
    takes_cases false true false e = absurd cc
    takes_cases false false c e = absurd cc

    longer_entries : (known : List (ℕ × Commodity)) (fs : List FieldLines) (f : FieldLines) (piece : List ℕ)
        → takes_more fs f.tag ≡ true
        → entries known [] (fs ++ longer f piece ∷ []) ≡ on_last (add_text piece) (entries known [] (fs ++ f ∷ []))
    longer_entries known fs f piece e = elim
        (takes_cases (is_line f.tag) (is_text f.tag) (ends_in_line (last_tag fs)) e) [
          | inl is ↦ entries-longer_line known fs f piece is
          | inr both ↦ entries-longer_text known fs f piece both.0 both.1
        ]

-- further lines that do not
pub values-idle : (known : List (ℕ × Commodity)) (fs : List FieldLines) (f : FieldLines) (piece : List ℕ)
    → takes_more fs f.tag ≡ false
    → values known (fs ++ longer f piece ∷ []) ≡ values known (fs ++ f ∷ [])
values-idle known fs f piece e =
    let none = or_parts (is_line f.tag) (is_text f.tag && ends_in_line (last_tag fs)) e in
    let apart : (ends_in_line (last_tag fs)
    && is_text f.tag) ≡ false = and-comm (ends_in_line (last_tag fs)) (is_text f.tag) ∙ none.1 in
    values_pushed known fs (longer f piece)
    ∙ ap (pushed known fs f.tag f.first)
    (entries-push known fs (longer f piece) apart
    ∙ ap (λ l. entries known [] fs ++ l) (entry-other known fs (longer f piece) [] none.0
    ∙ sym (entry-other known fs f [] none.0))
    ∙ sym (entries-push known fs f apart))
    ∙ sym (values_pushed known fs f)
  where
    and-comm : (a b : Bool) → (a && b) ≡ (b && a)
    and-comm true true = refl
    and-comm true false = refl
    and-comm false true = refl
    and-comm false false = refl

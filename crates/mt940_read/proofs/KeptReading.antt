-- What a file says by what the reader keeps of the fields and the messages before each field, which is what the
-- definition in Reading says of the whole file.
use Rattle.std.proofs.Common.{
  ◌≡◌,
  ℕ,
  ◌+◌,
  List,
  [],
  ◌∷◌,
  ◌++◌,
  length,
  Bool,
  cond,
  is_some,
  Result,
  Err,
  refl,
  ℤ,
}
use Rattle.std.specs.Prelude.{◌||◌, not, nat_lt}
use Rattle.book_commodity.specs.declared.commodity.Commodity.{Commodity}
use Rattle.book_statement.specs.declared.bad.Bad.TheVariants.{
  NoStatement,
  CutOff,
  FieldOrder,
  PageOrder,
  TooMany,
  UnknownCurrency,
}
use Rattle.book_statement.specs.declared.fault.StatementFault.{StatementFault}
use Rattle.book_statement.specs.declared.statement.Statement.{Statement}
use Rattle.book_statement.specs.Checks.{Place, place, check, first_fault, unless_fault}
use Rattle.book_statement.specs.Currencies.{fraction_of}
use Rattle.book_statement.specs.Lists.{each_after}
use Rattle.mt940_read.specs.declared.tag.Tag.{Tag}
use Rattle.mt940_read.specs.declared.tag.Tag.TheVariants.{
  Reference,
  Related,
  Account,
  Number,
  Opening,
  Line,
  Text,
  Closing,
  Available,
  Forward,
}
use Rattle.mt940_read.specs.Amounts.{amount_checks}
use Rattle.mt940_read.specs.Balances.{balance, balance_form, balance_amount, balance_currency}
use Rattle.mt940_read.specs.Entries.{fraction_in, fraction_behind, last_tag}
use Rattle.mt940_read.specs.FieldChecks.{
  field_checks,
  own_checks,
  page_checks,
  opening_currency_checks,
  opening_checks,
  later_currency_checks,
  later_checks,
  reckoned_checks,
  closing_checks,
  room_checks,
  line_amount_checks,
  line_checks,
}
use Rattle.mt940_read.specs.FileChecks.{checks_of, text_checks, is_page, goes_on}
use Rattle.mt940_read.specs.LineField.{line_form, amount_part}
use Rattle.mt940_read.specs.Messages.{account_of, opens_page, closing_of, lines_in}
use Rattle.mt940_read.specs.Order.{may_follow}
use Rattle.mt940_read.specs.Pages.{Past, joins_page, agrees}
use Rattle.mt940_read.specs.Reading as whole
use Rattle.mt940_read.specs.Statements.{statements_of, last_lines}
use Rattle.mt940_read.specs.Tree.{FieldLines, MessageLines}
use Rattle.mt940_read.specs.Values.{values}
use Rattle.mt940_read.proofs.PageLemmas.{past_of, last_page}

-- a field is checked with the fields and the messages before it
abbrev pub field_place : List (ℕ × Commodity) → Past → List FieldLines → FieldLines → List Place
field_place known past before f = place f.line (field_checks known past (values known before) f.tag f.first) ∷ []

abbrev pub field_places : List (ℕ × Commodity) → Past → List FieldLines → List Place
field_places known past fields = each_after (field_place known past) [] fields

-- at the end of a message: its closing balance has to be there
abbrev pub end_place : List (ℕ × Commodity) → MessageLines → Place
end_place known m = place m.last (check (is_some (values known m.fields).closing) CutOff ∷ [])

abbrev pub message_places : List (ℕ × Commodity) → List MessageLines → MessageLines → List Place
message_places known before m = field_places known (past_of known before) m.fields ++ end_place known m ∷ []

abbrev pub file_places : List (ℕ × Commodity) → List MessageLines → List Place
file_places known messages = each_after (message_places known) [] messages

-- the statements of messages, or their first fault; a file without a message has no statement
abbrev pub result_of : List (ℕ × Commodity) → List MessageLines → Result (List Statement) StatementFault
result_of known [] = Err (record { line = 0; bad = NoStatement })
result_of known (m ∷ ms) = unless_fault (first_fault (file_places known (m ∷ ms))) (statements_of known (m ∷ ms))

-- the last message says whether the next one belongs to it
page_same : (known : List (ℕ × Commodity)) (ms : List MessageLines) (account : List ℕ) (opens : Bool)
    → is_page ms account opens ≡ joins_page (last_page known ms) account opens
page_same known [] account opens = refl
page_same known (m ∷ []) account opens = refl
page_same known (m ∷ n ∷ ms) account opens = page_same known (n ∷ ms) account opens

-- and whether it goes on from it
goes_same : (known : List (ℕ × Commodity)) (ms : List MessageLines) (currency : List ℕ) (opening : ℤ) (opens : Bool)
    → goes_on known ms currency opening opens ≡ agrees (last_page known ms) currency opening opens
goes_same known [] currency opening opens = refl
goes_same known (m ∷ []) currency opening opens = refl
goes_same known (m ∷ n ∷ ms) currency opening opens = goes_same known (n ∷ ms) currency opening opens

-- the checks of a field by the tree are those by what is kept
text_same : (known : List (ℕ × Commodity)) (ms : List MessageLines) (before : List FieldLines) (tag : Tag)
    (text : List ℕ) → text_checks known ms before tag text
    ≡ own_checks known (past_of known ms) (values known before) tag text
unfolding page_checks opening_currency_checks opening_checks later_currency_checks later_checks reckoned_checks
    closing_checks room_checks line_amount_checks line_checks
text_same known ms before Reference text = refl
text_same known ms before Related text = refl
text_same known ms before Account text = refl
text_same known ms before Number text = refl
text_same known ms before (Opening opens) text =
    let page = page_same known ms (account_of before) opens in
    let agree = goes_same known ms (balance_currency text)
    (balance (fraction_in known (balance_currency text)) text) opens in
    λ i. balance_form text
    ++ check (is_some (fraction_of (balance_currency text) known)) UnknownCurrency
    ∷ (amount_checks (fraction_in known (balance_currency text)) (balance_amount text)
    ++ check (not (page i) || agree i) PageOrder
    ∷ check (page i || nat_lt (length (statements_of known ms)) 1_000) TooMany ∷ [])
text_same known ms before Line text =
    let page = page_same known ms (account_of before) (opens_page before) in
    λ i. line_form text
    ++ (amount_checks (fraction_behind known before) (amount_part text)
    ++ check (nat_lt (cond (page i) (last_lines (statements_of known ms)) 0 + length (lines_in known before)) 10_000)
    TooMany ∷ [])
text_same known ms before Text text = refl
text_same known ms before (Closing closes) text = refl
text_same known ms before Available text = refl
text_same known ms before Forward text = refl

checks_same : (known : List (ℕ × Commodity)) (ms : List MessageLines) (before : List FieldLines) (f : FieldLines)
    → checks_of known ms before f ≡ field_checks known (past_of known ms) (values known before) f.tag f.first
checks_same known ms before f =
    λ i. check (may_follow (last_tag before) (is_some (closing_of known before)) f.tag) FieldOrder
    ∷ text_same known ms before f.tag f.first i

-- what a file says by the tree is what it says by what is kept
pub result_same : (known : List (ℕ × Commodity)) (ms : List MessageLines)
    → whole.result_of known ms ≡ result_of known ms
result_same known [] = refl
result_same known (m ∷ ms) =
    λ i. unless_fault (first_fault (each_after (λ (before : List MessageLines) (n : MessageLines).
    each_after (λ (fields : List FieldLines) (f : FieldLines).
    place f.line (checks_same known before fields f i) ∷ []) [] n.fields ++ end_place known n ∷ []) [] (m ∷ ms)))
    (statements_of known (m ∷ ms))

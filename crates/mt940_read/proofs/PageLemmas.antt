-- The statements of a file with one message more.
use Rattle.std.proofs.Common.{
  ◌≡◌,
  ℕ,
  suc,
  ◌-◌,
  ◌<◌,
  length,
  get_or,
  arith,
  List,
  [],
  ◌∷◌,
  ◌++◌,
  Option,
  Some,
  None,
  refl,
  sym,
  ap,
  ◌∙◌,
  append_assoc,
}
use Rattle.book_commodity.specs.declared.commodity.Commodity.{Commodity}
use Rattle.book_statement.specs.declared.statement.Statement.{Statement}
use Rattle.book_statement.specs.declared.statement_line.StatementLine.{StatementLine}
use Rattle.book_statement.proofs.ListLemmas.{Grows, grouped-push, grouped-some}
use Rattle.mt940_read.specs.declared.page.Page.{Page}
use Rattle.mt940_read.specs.Pages.{
  Past,
  page_of,
  with_last_page,
  with_message,
}
use Rattle.mt940_read.specs.Statements.{alone, joins, last_lines, onto, statements_of}
use Rattle.mt940_read.specs.Tree.{MessageLines}
use Rattle.mt940_read.specs.Values.{values}
use Rattle.mt940_read.proofs.EntryLemmas.{IsEmpty, HasLast, snoc}

-- the last message of some
abbrev pub last_page : List (ℕ × Commodity) → List MessageLines → Option Page
last_page known [] = None
last_page known (m ∷ []) = Some (page_of (values known m.fields))
last_page known (m ∷ n ∷ ms) = last_page known (n ∷ ms)

-- what the messages before a message are to it
abbrev pub past_of : List (ℕ × Commodity) → List MessageLines → Past
past_of known before = record {
  page = last_page known before;
  statements = length (statements_of known before);
  lines = last_lines (statements_of known before);
}

pub last_page-push : (known : List (ℕ × Commodity)) (ms : List MessageLines) (m : MessageLines)
    → last_page known (ms ++ m ∷ []) ≡ Some (page_of (values known m.fields))
last_page-push known [] m = refl
last_page-push known (n ∷ []) m = refl
last_page-push known (n ∷ o ∷ ms) m = last_page-push known (o ∷ ms) m

-- a page behind a statement, and a page in front of it
pages_grow : (known : List (ℕ × Commodity)) → Grows (alone known) (onto known)
    (λ (s : Statement) (m : MessageLines). with_last_page s (values known m.fields))
pages_grow known = record {
  first = λ x y. refl;
  more = λ x y group. ap (λ l. with_lines l
      (onto known x (with_last_page group (values known y.fields))))
      (append_assoc (values known x.fields).lines group.lines (values known y.fields).lines);
}
  where
    with_lines : List StatementLine → Statement → Statement
    with_lines l s = record s { lines = l }

-- a message more joins the last statement, or is one of its own
pub statements-push : (known : List (ℕ × Commodity)) (ms : List MessageLines) (m : MessageLines)
    → statements_of known (ms ++ m ∷ []) ≡ with_message (last_page known ms) (values known m.fields)
    (statements_of known ms)
statements-push known ms m = elim (snoc ms) [
  | IsEmpty e ↦
      ap (λ l. statements_of known (l ++ m ∷ [])) e
      ∙ sym (ap (λ l. with_message (last_page known l) (values known m.fields) (statements_of known l)) e)
  | HasLast init last e ↦
      ap (λ l. statements_of known (l ++ m ∷ [])) e
      ∙ ap (statements_of known) (append_assoc init (last ∷ []) (m ∷ []))
      ∙ grouped-push (alone known) (onto known)
      (λ (s : Statement) (n : MessageLines). with_last_page s (values known n.fields)) (pages_grow known)
      joins init last m
      ∙ ap (λ p. with_message p (values known m.fields) (statements_of known (init ++ last ∷ [])))
      (sym (last_page-push known init last))
      ∙ sym (ap (λ l. with_message (last_page known l) (values known m.fields) (statements_of known l)) e)
]

-- the last statement by its place
pub last_lines-at : (ss : List Statement) (s : Statement) → 0 < length ss
    → last_lines ss ≡ length (get_or ss (length ss - 1) s).lines
last_lines-at [] s h = absurd (omega arith)
last_lines-at (a ∷ []) s h = refl
last_lines-at (a ∷ b ∷ bs) s h =
    let down : length (a ∷ b ∷ bs) - 1 ≡ suc (length (b ∷ bs) - 1) = omega arith in
    last_lines-at (b ∷ bs) s (omega arith) ∙ ap (λ n. length (get_or (a ∷ b ∷ bs) n s).lines) (sym down)

-- a file with a message has a statement
pub statements-some : (known : List (ℕ × Commodity)) (m : MessageLines) (ms : List MessageLines)
    → (s : Statement) × (more : List Statement) × (statements_of known (m ∷ ms) ≡ s ∷ more)
statements-some known m ms =
    grouped-some joins (alone known) (onto known) m ms

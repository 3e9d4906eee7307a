-- A sound book stays sound where a line or a binding is deleted, where a statement is that has no lines, and where a
-- reconciliation is that no split names.
use Rattle.std.proofs.Common.{◌≡◌, ◌≢◌, ℕ, ◌==◌, not, Bool, true, false, if◌then◌else◌, List, [], ◌∷◌, Option, Some}
use Rattle.std.proofs.Common.{None, refl, sym, ap, ◌∙◌}
use Rattle.std.specs.List.{list_all}
use Rattle.std.proofs.lemmas.Bool.{and_from, and_parts, eqb-false, not-true, not_from_false}
use Rattle.book_commodity.specs.Rules.{IsSoundTable}
use Rattle.book_commodity.specs.Table.{Rises, value_of, without_entry}
use Rattle.book_commodity.proofs.DrawnLemmas.{some_stays, value_left}
use Rattle.book_commodity.proofs.TableLemmas.{value_of_without}
use Rattle.book_splits.specs.declared.reconciliation.Recon.{Recon}
use Rattle.book_splits.specs.declared.split.Split.{Split}
use Rattle.book_splits.specs.declared.split.Mark.{Mark}
use Rattle.book_splits.specs.declared.split.Mark.TheVariants.{New, Cleared, Reconciled, Voided}
use Rattle.book_splits.specs.declared.transaction.Txn.{Txn}
use Rattle.book_statement.specs.declared.line.Line.{Line}
use Rattle.book_sound.specs.BindingRules.{binding_rules, is_same_binding}
use Rattle.book_sound.specs.LineRules.{has_same_key, line_rules, shares_split}
use Rattle.book_sound.specs.MarkedTransactionRules.{fits_mark, has_marked, is_named_rightly}
use Rattle.book_sound.specs.MarkedTransactionRules.{is_rightly_marked, marked_transaction_rules}
use Rattle.book_sound.specs.ReconciliationRules.{reconciliation_rules}
use Rattle.book_sound.specs.Soundness.{IsSoundBook}
use Rattle.book_sound.specs.StatementRules.{is_same_statement, statement_rules}
use Rattle.book_sound.proofs.OwnFrames.{others_left, sound_without}
use Rattle.book_sound.proofs.TableFrames.{sound_still}
use Rattle.book_sound.proofs.WalkLemmas.{passes_there}
use Rattle.book_check.proofs.HeadLemmas.{all_splits}
use Rattle.book_sound.proofs.VoidFrames as void
use Rattle.book_undo.specs.Book.{Book}
use Rattle.book_history.specs.Leaving.{is_number, is_unnamed, is_without_lines}

-- ---- a line

pub line_taken :
    (book : Book) (n : ℕ) → IsSoundBook book → IsSoundBook (record book { lines = without_entry n book.lines })
line_taken book n is = record {
  commodities = is.commodities;
  accounts = is.accounts;
  transactions = is.transactions;
  prices = is.prices;
  schedules = is.schedules;
  statements = is.statements;
  lines = sound_without (line_rules book.accounts book.statements book.transactions book.lines)
      (line_rules book.accounts book.statements book.transactions (without_entry n book.lines)) 1000000 n book.lines
      (λ k x there kept.
      let once = not_from_false _ (others_left has_same_key n k x book.lines (not-true _ kept.1.1.1.0)) in
      let alone = not_from_false _ (others_left shares_split n k x book.lines (not-true _ kept.1.1.1.1.1.0)) in
      (kept.0, (kept.1.0, (kept.1.1.0, (once, (kept.1.1.1.1.0, (alone, tt))))))) is.lines;
  bindings = is.bindings;
  reconciliations = is.reconciliations;
  few_splits = is.few_splits;
  root = is.root;
  currency = is.currency;
}

-- ---- a binding

pub binding_taken :
    (book : Book) (n : ℕ) → IsSoundBook book → IsSoundBook (record book { bindings = without_entry n book.bindings })
binding_taken book n is = record {
  commodities = is.commodities;
  accounts = is.accounts;
  transactions = is.transactions;
  prices = is.prices;
  schedules = is.schedules;
  statements = is.statements;
  lines = is.lines;
  bindings = sound_without (binding_rules book.accounts book.bindings)
      (binding_rules book.accounts (without_entry n book.bindings)) 10000 n book.bindings
      (λ k x there kept.
      let once = not_from_false _ (others_left is_same_binding n k x book.bindings (not-true _ kept.0)) in
      (once, kept.1)) is.bindings;
  reconciliations = is.reconciliations;
  few_splits = is.few_splits;
  root = is.root;
  currency = is.currency;
}

-- ---- a statement

-- lines stay sound where a statement is taken that none of them belongs to
lines_apart :
    (book : Book) (n : ℕ) → Rises book.statements → is_without_lines n book.lines ≡ true
    → IsSoundTable (line_rules book.accounts book.statements book.transactions book.lines) 1000000 book.lines
    → IsSoundTable (line_rules book.accounts (without_entry n book.statements) book.transactions book.lines) 1000000
    book.lines
lines_apart book n r none =
    let later = without_entry n book.statements in
    sound_still (line_rules book.accounts book.statements book.transactions book.lines)
    (line_rules book.accounts later book.transactions book.lines) 1000000 book.lines
    (λ k line there kept.
    let other = passes_there (λ (e : ℕ × Line). not (e.1.statement == n)) k line book.lines none there in
    let apart : line.statement ≢ n = eqb-false line.statement n (not-true _ other) in
    let live = some_stays (value_of line.statement book.statements) (value_of line.statement later)
    (λ x found. value_left line.statement n x book.statements r apart found) kept.1.0 in
    (kept.0, (live, kept.1.1)))

pub statement_taken :
    (book : Book) (n : ℕ) → is_without_lines n book.lines ≡ true → IsSoundBook book
    → IsSoundBook (record book { statements = without_entry n book.statements })
statement_taken book n none is = record {
  commodities = is.commodities;
  accounts = is.accounts;
  transactions = is.transactions;
  prices = is.prices;
  schedules = is.schedules;
  statements = sound_without (statement_rules book.accounts book.statements)
      (statement_rules book.accounts (without_entry n book.statements)) 100000 n book.statements
      (λ k x there kept.
      let once = not_from_false _ (others_left is_same_statement n k x book.statements (not-true _ kept.1.0)) in
      (kept.0, (once, tt))) is.statements;
  lines = lines_apart book n is.statements.rise none is.lines;
  bindings = is.bindings;
  reconciliations = is.reconciliations;
  few_splits = is.few_splits;
  root = is.root;
  currency = is.currency;
}

-- ---- a reconciliation

-- a number that is not taken has what it had
same_there :
    {T : Type 0} (m n : ℕ) (es : List (ℕ × T)) → Rises es → (m == n) ≡ false
    → value_of m (without_entry n es) ≡ value_of m es
same_there {T} m n es r other =
    value_of_without m n es r ∙ ap (λ (t : Bool). if t then None else value_of m es) other

named_still :
    (n : ℕ) (reconciliations : List (ℕ × Recon)) (split : Split) (named : Option ℕ) → Rises reconciliations
    → is_number n named ≡ false → is_named_rightly reconciliations split named ≡ true
    → is_named_rightly (without_entry n reconciliations) split named ≡ true
named_still n reconciliations split None r other is = is
named_still n reconciliations split (Some m) r other is =
    ap (has_marked split) (same_there m n reconciliations r other) ∙ is

mark_still :
    (n : ℕ) (reconciliations : List (ℕ × Recon)) (split : Split) (mark : Mark) → Rises reconciliations
    → is_number n split.recon ≡ false → fits_mark reconciliations split mark ≡ true
    → fits_mark (without_entry n reconciliations) split mark ≡ true
mark_still n reconciliations split New r other is = is
mark_still n reconciliations split Cleared r other is = is
mark_still n reconciliations split Reconciled r other is = named_still n reconciliations split split.recon r other is
mark_still n reconciliations split Voided r other is = absurd cc

-- splits that don't name it are rightly marked as before
marks_still :
    (n : ℕ) (reconciliations : List (ℕ × Recon)) (splits : List Split) → Rises reconciliations
    → list_all (λ (s : Split). not (is_number n s.recon)) splits ≡ true
    → list_all (is_rightly_marked reconciliations) splits ≡ true
    → list_all (is_rightly_marked (without_entry n reconciliations)) splits ≡ true
marks_still n reconciliations [] r others are = refl
marks_still n reconciliations (s ∷ splits) r others are =
    let other = and_parts (not (is_number n s.recon)) _ others in
    let is = and_parts (is_rightly_marked reconciliations s) _ are in
    and_from (is_rightly_marked (without_entry n reconciliations) s) _
    (mark_still n reconciliations s s.mark r (not-true _ other.0) is.0)
    (marks_still n reconciliations splits r other.1 is.1)

transactions_apart :
    (book : Book) (n : ℕ) → Rises book.reconciliations → is_unnamed n book.transactions ≡ true
    → IsSoundTable
    (marked_transaction_rules book.commodities book.accounts book.reconciliations book.transactions) 200000
    book.transactions
    → IsSoundTable
    (marked_transaction_rules book.commodities book.accounts (without_entry n book.reconciliations) book.transactions)
    200000 book.transactions
transactions_apart book n r none =
    let others : Split → Bool = λ s. not (is_number n s.recon) in
    let each = sym (all_splits others book.transactions) ∙ none in
    sound_still (marked_transaction_rules book.commodities book.accounts book.reconciliations book.transactions)
    (marked_transaction_rules book.commodities book.accounts (without_entry n book.reconciliations) book.transactions)
    200000 book.transactions
    (λ k t there kept.
    let other = passes_there (λ (e : ℕ × Txn). list_all others e.1.splits) k t book.transactions each there in
    let marks = void.marks_still book.reconciliations (without_entry n book.reconciliations) t.voided t.splits
    (marks_still n book.reconciliations t.splits r other) kept.1.1.1.0 in
    (kept.0, (kept.1.0, (kept.1.1.0, (marks, kept.1.1.1.1)))))

pub reconciliation_taken :
    (book : Book) (n : ℕ) → is_unnamed n book.transactions ≡ true → IsSoundBook book
    → IsSoundBook (record book { reconciliations = without_entry n book.reconciliations })
reconciliation_taken book n none is = record {
  commodities = is.commodities;
  accounts = is.accounts;
  transactions = transactions_apart book n is.reconciliations.rise none is.transactions;
  prices = is.prices;
  schedules = is.schedules;
  statements = is.statements;
  lines = is.lines;
  bindings = is.bindings;
  reconciliations = sound_without (reconciliation_rules book.accounts) (reconciliation_rules book.accounts) 100000 n
      book.reconciliations (λ k x there kept. kept) is.reconciliations;
  few_splits = is.few_splits;
  root = is.root;
  currency = is.currency;
}

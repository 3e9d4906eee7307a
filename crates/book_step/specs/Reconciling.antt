-- The commands that reconcile an account with a statement of the bank (GnuCash Manual, reconciling accounts), and the
-- question for the reconciliations of an account.
use Rattle.std.specs.Prelude.{◌≡◌, ℕ, ◌+◌, nat_lt, ℤ, pos, int_le, not, Bool, ◌&&◌, if◌then◌else◌, List, [], ◌∷◌, ◌++◌}
use Rattle.std.specs.Prelude.{filter, length, map, Option, Some, None, is_none}
use Rattle.std.specs.Ordering.{int_eq}
use Rattle.book_commodity.specs.Rules.{broken_where}
use Rattle.book_commodity.specs.Table.{value_of, with_entry}
use Rattle.book_commodity.specs.declared.counted.Counted.TheVariants.{Recons}
use Rattle.book_commodity.specs.declared.kind.Kind.TheVariants as kind
use Rattle.book_splits.specs.declared.reconciliation.Recon.{Recon}
use Rattle.book_splits.specs.declared.split.Mark.TheVariants.{Cleared, Reconciled}
use Rattle.book_splits.specs.declared.split.Split.{Split}
use Rattle.book_splits.specs.declared.transaction.Txn.{Txn}
use Rattle.book_statement.specs.declared.held.Held.{Held}
use Rattle.book_undo.specs.Book.{Book}
use Rattle.book_undo.specs.declared.edit.Edit.{Edit, Put}
use Rattle.book_undo.specs.declared.thing.Thing.TheVariants as thing
use Rattle.book_reconcile.specs.Reconciliation.{difference, finish, has_mark, is_intact}
use Rattle.book_sound.specs.Naming.{reconciliation_names}
use Rattle.book_sound.specs.ReconciliationRules.{marked_numbers}
use Rattle.book_command.specs.declared.answer.Answer.{Answer}
use Rattle.book_command.specs.declared.answer.Answer.TheVariants as answer
use Rattle.book_command.specs.declared.answer.ReconShown.{ReconShown}
use Rattle.book_command.specs.declared.rule.Rule.{Rule}
use Rattle.book_command.specs.declared.rule.Rule.TheVariants.{Difference, Limit, NoClosing, Unknown}
use Rattle.book_step.specs.Accounts.{unknown_account}
use Rattle.book_step.specs.Importing.{whole_edit}
use Rattle.book_step.specs.Outcome.{Outcome, Broken, changing}
use Rattle.book_step.specs.Remarking.{all_remarked, remarking}
use Rattle.book_step.specs.State.{State}

-- ---- the splits that become reconciled

-- Whether a split of a transaction of a day is one that a reconciliation of an account up to a day marks: it stands on
-- the account and is cleared, and its transaction is on or before the day.
abbrev pub is_to_mark : ℕ → ℤ → ℤ → Split → Bool
is_to_mark account upto day split = has_mark Cleared account split && int_le day upto

-- The split, reconciled under a number.
abbrev pub reconciled_under : ℕ → Split → Split
reconciled_under number split = record split { mark = Reconciled; recon = Some number }

-- What becomes of a split where the account is reconciled up to a day under a number.
abbrev pub marked_under : ℕ → ℕ → ℤ → ℤ → Split → Split
marked_under number account upto day split =
    if is_to_mark account upto day split then reconciled_under number split else split

-- The book with a reconciliation under a number, and the splits that it marks.
abbrev pub book_reconciled : Book → ℕ → Recon → Book
book_reconciled book number recon = record book {
  transactions = all_remarked (marked_under number recon.account recon.day) book.transactions;
  reconciliations = with_entry number recon book.reconciliations;
}

-- ---- the commands

-- The closing balance isn't what would be reconciled (GnuCash Manual, reconciling: it can be finished when the
-- difference is zero).
abbrev pub differs : ℤ → Option Rule
differs by = broken_where (not (int_eq by (pos 0))) (Difference by)

-- A book has at most 100,000 reconciliations (a limit of this project).
abbrev pub too_many_reconciliations : List (ℕ × Recon) → Option Rule
too_many_reconciliations reconciliations =
    broken_where (nat_lt 100000 (length reconciliations + 1)) (Limit Recons 100000)

-- The rules of a reconciliation of an account at a day with a closing balance.
abbrev pub finish_rules : Book → ℕ → ℤ → ℤ → List (Option Rule)
finish_rules book account day closing =
    differs (difference account day closing book.transactions)
    ∷ too_many_reconciliations book.reconciliations
    ∷ []

-- The reconciliation of an account of a book at a day with a closing balance.
abbrev pub finished : Book → ℕ → ℤ → ℤ → Recon
finished book account day closing = finish account day closing book.transactions

-- The reconciliation of an account at a day with a closing balance, behind some rules: it stands in the book under the
-- next number, and the account's cleared splits on or before the day are reconciled under it. The answer is made of
-- its number and those of the splits.
abbrev pub reconcile_of : State → List (Option Rule) → (ℕ → List ℕ → Answer) → ℕ → ℤ → ℤ → Outcome
reconcile_of state rules answered account day closing =
    let recon = finished state.book account day closing in
    changing state (rules ++ finish_rules state.book account day closing) (book_reconciled state.book state.next recon)
    1 (answered state.next (marked_numbers recon.marked))

-- An account of the book is reconciled.
abbrev pub reconcile : State → ℕ → ℤ → ℤ → Outcome
reconcile state account day closing =
    reconcile_of state (unknown_account state.book.accounts account ∷ [])
    (λ number marked. answer.Reconcile number marked) account day closing

-- The book has no statement of this number.
abbrev pub unknown_statement : List (ℕ × Held) → ℕ → Option Rule
unknown_statement statements number =
    broken_where (is_none (value_of number statements)) (Unknown kind.Statement number)

-- The reconciliation of the account of a statement with its closing balance, if it has one.
abbrev pub reconcile_closed : State → ℕ → Held → Option ℤ → Outcome
reconcile_closed state number statement None = Broken (NoClosing number)
reconcile_closed state number statement (Some closing) =
    reconcile_of state [] (λ number marked. answer.ReconcileStatement number marked) statement.account statement.day
    closing

-- The same, if the statement is there.
abbrev pub reconcile_at : State → ℕ → Option Held → Outcome
reconcile_at state number None = Broken (Unknown kind.Statement number)
reconcile_at state number (Some statement) = reconcile_closed state number statement statement.closing

-- The account of a statement of the book is reconciled with its closing balance.
abbrev pub reconcile_statement : State → ℕ → Outcome
reconcile_statement state statement = reconcile_at state statement (value_of statement state.book.statements)

-- ---- the edit

-- The edit puts the transactions that become others, and then the reconciliation.
abbrev pub reconciling : Book → ℕ → Recon → Edit
reconciling book number recon =
    whole_edit (remarking (is_to_mark recon.account recon.day) (marked_under number recon.account recon.day)
    book.transactions ++ Put number (thing.Recon recon) ∷ [])

-- A reconciliation of an account at a day with a closing balance is done by this edit, and marks the splits of these
-- numbers.
abbrev pub IsFinish : Book → ℕ → ℕ → ℤ → ℤ → Edit × List ℕ → Type 0
IsFinish book number account day closing made =
    (made.0 ≡ reconciling book number (finished book account day closing))
    × (made.1 ≡ marked_numbers (finished book account day closing).marked)

-- ---- the question

-- A reconciliation with its number, and whether it is intact among the transactions.
abbrev pub recon_shown : List (ℕ × Txn) → ℕ × Recon → ReconShown
recon_shown transactions entry = record {
  id = entry.0;
  day = entry.1.day;
  opening = entry.1.opening;
  closing = entry.1.closing;
  marked = length entry.1.marked;
  intact = is_intact entry.0 entry.1 transactions;
}

-- The reconciliations of an account among some reconciliations, in their order.
abbrev pub recons_among : List (ℕ × Txn) → ℕ → List (ℕ × Recon) → List ReconShown
recons_among transactions account reconciliations =
    map (recon_shown transactions) (filter (λ entry. reconciliation_names account entry.1) reconciliations)

-- The reconciliations of an account of a book, in their order.
abbrev pub recons_of : ℕ → Book → List ReconShown
recons_of account book = recons_among book.transactions account book.reconciliations

-- The command that marks a split.
use Rattle.std.specs.Prelude.{◌≡◌, ℕ, ◌==◌, not, Bool, ◌&&◌, if◌then◌else◌, List, [], ◌∷◌, Option, Some, None, is_none}
use Rattle.std.specs.Prelude.{map}
use Rattle.book_commodity.specs.Rules.{broken_where}
use Rattle.book_commodity.specs.Table.{value_of}
use Rattle.book_commodity.specs.declared.kind.Kind.TheVariants as kind
use Rattle.book_splits.specs.declared.split.Mark.{Mark}
use Rattle.book_splits.specs.declared.split.Mark.TheVariants.{New, Cleared}
use Rattle.book_splits.specs.declared.split.Split.{Split}
use Rattle.book_splits.specs.declared.transaction.Txn.{Txn}
use Rattle.book_undo.specs.Book.{Book}
use Rattle.book_sound.specs.LineRules.{split_among, split_at}
use Rattle.book_sound.specs.MarkedTransactionRules.{is_reconciled}
use Rattle.book_command.specs.declared.answer.Answer.TheVariants as answer
use Rattle.book_command.specs.declared.rule.Rule.{Rule}
use Rattle.book_command.specs.declared.rule.Rule.TheVariants.{Reconciled, Unknown}
use Rattle.book_step.specs.Outcome.{Outcome, Broken, changing, leaving, unless_broken}
use Rattle.book_step.specs.SameTransaction.{is_mark}
use Rattle.book_step.specs.State.{State}
use Rattle.book_step.specs.VoidRules.{voided_transaction_of}

-- The split isn't one of the book's (GnuCash SQL schema, table splits).
abbrev pub unknown_split : List (ℕ × Txn) → ℕ → Option Rule
unknown_split transactions number =
    broken_where (is_none (split_at number transactions)) (Unknown kind.Split number)

-- A split, with the transaction that has it and that one's number.
pub record Held : Type 0 where
  pub number : ℕ
  pub transaction : Txn
  pub split : Split

-- The split has this number, and stands in a transaction of the book.
abbrev pub IsHeld : List (ℕ × Txn) → ℕ → Held → Type 0
IsHeld transactions number held =
    (value_of held.number transactions ≡ Some held.transaction)
    × (split_among number held.transaction.splits ≡ Some held.split)

-- ---- the book after a mark

-- The split with another mark. It names no reconciliation then: only a reconciled split names one (GnuCash Manual,
-- reconciling).
abbrev pub marked_as : Mark → Split → Split
marked_as mark split = record split { mark = mark; recon = None }

-- The same of a split that has the number; another stays as it is.
abbrev pub marked_where : ℕ → Mark → Split → Split
marked_where number mark split = if split.id == number then marked_as mark split else split

-- The splits, of which the one with the number has another mark.
abbrev pub marked_among : ℕ → Mark → List Split → List Split
marked_among number mark splits = map (marked_where number mark) splits

-- The transaction with these splits.
abbrev pub remarked : ℕ → Mark → Txn → Txn
remarked number mark transaction = record transaction { splits = marked_among number mark transaction.splits }

-- The book in which the split with the number has another mark.
abbrev pub book_marked : ℕ → Mark → Book → Book
book_marked number mark book =
    record book { transactions = map (λ entry. (entry.0, remarked number mark entry.1)) book.transactions }

-- ---- the command

-- A split is marked as new or as cleared: only a reconciliation makes it reconciled.
abbrev pub mark_asked : Bool → Mark
mark_asked cleared = if cleared then Cleared else New

-- Without force a reconciled split keeps its mark (GnuCash Manual, changing a reconciled split).
abbrev pub keeps_mark : Bool → ℕ → Split → Option Rule
keeps_mark force number split = broken_where (not force && is_reconciled split.mark) (Reconciled number)

-- The command on a split that is there and whose transaction is not voided. One that has the mark leaves the book as it
-- is.
abbrev pub mark_of : State → ℕ → Mark → Bool → Split → Outcome
mark_of state number mark force split =
    let rules = keeps_mark force number split ∷ [] in
    if is_mark split.mark mark then leaving state rules answer.Mark
    else changing state rules (book_marked number mark state.book) 0 answer.Mark

-- The command on a split, if it is there and its transaction is not voided.
abbrev pub mark_at : State → ℕ → Mark → Bool → Option Split → Outcome
mark_at state number mark force None = Broken (Unknown kind.Split number)
mark_at state number mark force (Some split) =
    unless_broken (voided_transaction_of state.book.transactions number) (mark_of state number mark force split)

-- A split of the book is marked.
abbrev pub mark : State → ℕ → Bool → Bool → Outcome
mark state number cleared force =
    mark_at state number (mark_asked cleared) force (split_at number state.book.transactions)

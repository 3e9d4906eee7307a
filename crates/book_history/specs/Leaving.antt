-- Which single changes leave a sound book sound, as is seen from what changes and, where something else may need what
-- is deleted, from a walk along the lines or along the splits.
use Rattle.std.specs.Prelude.{ℕ, ◌==◌, not, Bool, true, false, ◌&&◌, List, [], ◌∷◌, Option, Some, None, is_none}
use Rattle.std.specs.List.{list_all}
use Rattle.std.specs.Ordering.{int_eq}
use Rattle.book_commodity.specs.Table.{value_of}
use Rattle.book_splits.specs.Balance.{splits_of}
use Rattle.book_splits.specs.declared.reconciliation.Recon.{Recon}
use Rattle.book_splits.specs.declared.split.Split.{Split}
use Rattle.book_splits.specs.declared.transaction.Txn.{Txn}
use Rattle.book_statement.specs.declared.line.Line.{Line}
use Rattle.book_sound.specs.Dismissal.{loses_split}
use Rattle.book_sound.specs.LineRules.{has_same_key, matched_split}
use Rattle.book_sound.specs.MarkedTransactionRules.{is_rightly_marked}
use Rattle.book_undo.specs.Book.{Book}
use Rattle.book_undo.specs.declared.edit.Edit.{Edit, Currency, Put, Gone, All'}
use Rattle.book_undo.specs.declared.thing.Thing.{Thing}
use Rattle.book_undo.specs.declared.thing.Thing.TheVariants as thing
use Rattle.book_undo.specs.declared.thing.ThingKind.{ThingKind}
use Rattle.book_undo.specs.declared.thing.ThingKind.TheVariants as kind

-- Whether no line loses the split that it is matched with, where new splits stand in the place of old ones.
abbrev pub none_loses : List Split → List Split → List (ℕ × Line) → Bool
none_loses old new lines = list_all (λ entry. not (loses_split old new entry.1)) lines

-- Whether there is a transaction, and no line is matched with one of its splits.
abbrev pub is_unmatched : List (ℕ × Line) → Option Txn → Bool
is_unmatched lines None = false
is_unmatched lines (Some transaction) = none_loses transaction.splits [] lines

-- Whether no line belongs to a statement.
abbrev pub is_without_lines : ℕ → List (ℕ × Line) → Bool
is_without_lines statement lines = list_all (λ entry. not (entry.1.statement == statement)) lines

-- Whether a number is this one, if there is one.
abbrev pub is_number : ℕ → Option ℕ → Bool
is_number number None = false
is_number number (Some other) = other == number

-- Whether no split names a reconciliation.
abbrev pub is_unnamed : ℕ → List (ℕ × Txn) → Bool
is_unnamed reconciliation transactions =
    list_all (λ split. not (is_number reconciliation split.recon)) (splits_of transactions)

-- Whether nothing else in a book needs a thing of a kind, by the rules of the others. Nothing needs a price, a
-- schedule, a line or a binding. Only lines that are matched with its splits need a transaction, only its lines need a
-- statement, and only splits that name it need a reconciliation. Commodities and accounts count as needed.
abbrev pub is_unneeded : ThingKind → ℕ → Book → Bool
is_unneeded kind.Txn number book = is_unmatched book.lines (value_of number book.transactions)
is_unneeded kind.Price number book = true
is_unneeded kind.Schedule number book = true
is_unneeded kind.Held number book = is_without_lines number book.lines
is_unneeded kind.Line number book = true
is_unneeded kind.Binding number book = true
is_unneeded kind.Recon number book = is_unnamed number book.transactions
is_unneeded _ number book = false

-- Whether a split differs from another at most in its mark, its reconciliation and its texts.
abbrev pub is_remarked : Split → Split → Bool
is_remarked old new =
    (new.id == old.id) && ((new.account == old.account)
    && (int_eq new.value old.value && int_eq new.quantity old.quantity))

-- Whether each of some splits differs from the one in its place at most so.
abbrev pub are_remarked : List Split → List Split → Bool
are_remarked [] [] = true
are_remarked [] (new ∷ news) = false
are_remarked (old ∷ olds) [] = false
are_remarked (old ∷ olds) (new ∷ news) = is_remarked old new && are_remarked olds news

-- Whether there is a transaction that has the currency of a new one, and its splits but for their marks and texts,
-- neither is voided, and the splits of the new one are rightly marked.
abbrev pub only_marks : List (ℕ × Recon) → Txn → Option Txn → Bool
only_marks reconciliations new None = false
only_marks reconciliations new (Some old) =
    (new.currency == old.currency) && (are_remarked old.splits new.splits
    && (list_all (is_rightly_marked reconciliations) new.splits && (is_none old.voided && is_none new.voided)))

-- Whether there is a line, and it has the key and the statement of a new one.
abbrev pub is_same_line : Line → Option Line → Bool
is_same_line new None = false
is_same_line new (Some old) = (new.statement == old.statement) && has_same_key new old

-- Whether a thing that is put under a number only marks the splits of the transaction there, or only sets the line
-- there to a state in which it is matched with no split.
abbrev pub is_harmless : ℕ → Thing → Book → Bool
is_harmless number (thing.Txn new) book =
    only_marks book.reconciliations new (value_of number book.transactions)
is_harmless number (thing.Line new) book =
    is_none (matched_split new.state) && is_same_line new (value_of number book.lines)
is_harmless number _ book = false

-- Whether a single change leads from a sound book to a sound one, wherever it may be applied: it deletes a thing that
-- nothing else needs, or puts a harmless one.
abbrev pub leaves_sound : Book → Edit → Bool
leaves_sound book (Currency currency) = false
leaves_sound book (Put number thing) = is_harmless number thing book
leaves_sound book (Gone kind number) = is_unneeded kind number book
leaves_sound book (All' shape parts) = false

-- How far the changes of the registers that an engine keeps rise with a turn, and which lots are left.
use Rattle.std.proofs.Common.{◌≡◌, ℕ, sym, ap, ◌∙◌, subst}
use Rattle.book_free.specs.FreeSplits.{free_splits}
use Rattle.book_free.specs.Kept.{differing as differing_free}
use Rattle.book_ledger.specs.Changes.{RisesBy, changes_of, differing}
use Rattle.book_ledger.specs.Ledger.{register_of}
use Rattle.book_ledger.specs.Lots.{AreLeft as AreLotsLeft, reckoned_of, work_of}
use Rattle.book_opening.specs.State.{State}
use Rattle.book_undo.specs.Book.{Book}
use Rattle.book_undo.specs.Edit.{edited}
use Rattle.book_engine.specs.Changed.{AreChanged, HaveRisen}
use Rattle.book_engine.specs.Kept.{Kept}
use Rattle.book_turns.specs.Turned.{turned}
use Rattle.book_turns.specs.declared.turn.Turn.{Turn}

-- they rise by the rows that differ between the registers of the books before and after the turn
pub changed_by :
    (before now : Kept) (turn : Turn) → now.state ≡ turned turn before.state
    → (turned turn before.state).book ≡ edited turn.edit before.state.book
    → ((account : ℕ)
    → RisesBy (differing (register_of account before.state.book.transactions)
    (register_of account (edited turn.edit before.state.book).transactions)) (changes_of account before.registers)
    (changes_of account now.registers))
    → ((account : ℕ)
    → AreLotsLeft (register_of account before.state.book.transactions) (reckoned_of account before.registers)
    (register_of account (edited turn.edit before.state.book).transactions) (reckoned_of account now.registers))
    → ((account : ℕ) → work_of account now.registers ≡ work_of account before.registers)
    → RisesBy (differing_free (free_splits before.state.book) (free_splits (edited turn.edit before.state.book)))
    before.free.index.changes now.free.index.changes
    → AreChanged before now
changed_by before now turn state book rises left work free =
    let same = sym (ap (λ (s : State). s.book) state ∙ book) in
    record {
      changes = record {
        each = λ account.
            subst (λ (b : Book). RisesBy (differing (register_of account before.state.book.transactions)
            (register_of account b.transactions)) (changes_of account before.registers)
            (changes_of account now.registers)) same (rises account);
        free = subst (λ (b : Book). RisesBy (differing_free (free_splits before.state.book) (free_splits b))
            before.free.index.changes now.free.index.changes) same free;
      };
      left = λ account.
          subst (λ (b : Book). AreLotsLeft (register_of account before.state.book.transactions)
          (reckoned_of account before.registers) (register_of account b.transactions)
          (reckoned_of account now.registers)) same (left account);
      work = work;
    }

-- they rise as far from before a state that has the same book and as many changes
pub risen_from :
    (before mid now : Kept) → mid.state ≡ before.state
    → ((account : ℕ) → changes_of account mid.registers ≡ changes_of account before.registers)
    → mid.free.index.changes ≡ before.free.index.changes → AreChanged mid now → HaveRisen before now
risen_from before mid now state same same_free changed = record {
  each = λ account.
      subst (λ (n : ℕ). RisesBy (differing (register_of account before.state.book.transactions)
      (register_of account now.state.book.transactions)) n (changes_of account now.registers)) (same account)
      (subst (λ (s : State). RisesBy (differing (register_of account s.book.transactions)
      (register_of account now.state.book.transactions)) (changes_of account mid.registers)
      (changes_of account now.registers)) state (changed.changes.each account));
  free =
      subst (λ (n : ℕ). RisesBy (differing_free (free_splits before.state.book) (free_splits now.state.book)) n
      now.free.index.changes) same_free
      (subst (λ (s : State). RisesBy (differing_free (free_splits s.book) (free_splits now.state.book))
      mid.free.index.changes now.free.index.changes) state changed.changes.free);
}

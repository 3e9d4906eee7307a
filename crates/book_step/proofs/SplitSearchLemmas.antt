-- What a walk over transactions finds that looks for the split with a number.
use Rattle.std.proofs.Common.{◌≡◌, ℕ, ◌+◌, ◌<◌, ◌==◌, List, length, drop, get_or, Option, Some, None, refl, sym, ap}
use Rattle.std.proofs.Common.{◌∙◌}
use Rattle.std.specs.Prelude.{IfSome}
use Rattle.std.specs.Option.{option_or}
use Rattle.std.proofs.lemmas.List.Folds.{find-append}
use Rattle.std.proofs.lemmas.Option.{slice_get_read}
use Rattle.book_commodity.specs.Table.{Rises, value_of}
use Rattle.book_commodity.proofs.ListLemmas.{from-item}
use Rattle.book_commodity.proofs.TableLemmas.{value_of_place}
use Rattle.book_splits.specs.Balance.{splits_of}
use Rattle.book_splits.specs.declared.split.Split.{Split}
use Rattle.book_splits.specs.declared.transaction.Txn.{Txn}
use Rattle.book_undo.specs.Book.{Book}
use Rattle.book_sound.specs.LineRules.{split_among, split_at}
use Rattle.book_sound.specs.Soundness.{IsSoundBook}
use Rattle.book_step.specs.Marking.{Held, IsHeld}
use Rattle.book_step.proofs.RemarkLemmas.{held_at}

-- What the transaction under a number has is held by it.
pub held_from :
    (ts : List (ℕ × Txn)) (number own : ℕ) (transaction : Txn) (held : Held)
    → held ≡ record { number = own; transaction = transaction; split = held.split }
    → value_of own ts ≡ Some transaction → split_among number transaction.splits ≡ Some held.split
    → IsHeld ts number held
held_from ts number own transaction held same there found = (
  ap (λ (h : Held). value_of h.number ts) same ∙ there ∙ ap (λ (h : Held). Some h.transaction) (sym same),
  ap (λ (h : Held). split_among number h.transaction.splits) same ∙ found,
)

pub held_if :
    (ts : List (ℕ × Txn)) (number own : ℕ) (transaction : Txn) (found : Option Held)
    → value_of own ts ≡ Some transaction
    → IfSome found (λ held. held ≡ record { number = own; transaction = transaction; split = held.split })
    → IfSome found (λ held. split_among number transaction.splits ≡ Some held.split)
    → IfSome found (IsHeld ts number)
held_if ts number own transaction None there same found = tt
held_if ts number own transaction (Some held) there same found =
    held_from ts number own transaction held same there found

-- The entry at a place stands under its number.
pub entry_there :
    {T : Type 0} (es : List (ℕ × T)) (i : ℕ) (e : ℕ × T) → Rises es → i < length es → e ≡ get_or es i e
    → value_of e.0 es ≡ Some e.1
entry_there es i e r below is = value_of_place es i e r (slice_get_read es (length es) i e refl below is)

-- What a transaction of a sound book has is the split of the number.
pub first_if :
    (book : Book) (number : ℕ) (found : Option Held) → IsSoundBook book
    → IfSome found (IsHeld book.transactions number)
    → IfSome found (λ held. split_at number book.transactions ≡ Some held.split)
first_if book number None is has = tt
first_if book number (Some held) is has = held_at book number held is has

-- A transaction that has the split ends the walk.
pub split_here :
    (ts : List (ℕ × Txn)) (i : ℕ) (e : ℕ × Txn) (number : ℕ) (split : Split) → i < length ts → e ≡ get_or ts i e
    → split_among number e.1.splits ≡ Some split
    → split_at number (drop i ts) ≡ Some split
split_here ts i e number split below is found =
    let more = splits_of (drop (i + 1) ts) in
    ap (split_at number) (from-item ts i e below is)
    ∙ find-append (λ (s : Split). s.id == number) e.1.splits more
    ∙ ap (λ (o : Option Split). option_or o (split_among number more)) found

-- A transaction without the split is passed over.
pub split_later :
    (ts : List (ℕ × Txn)) (i : ℕ) (e : ℕ × Txn) (number : ℕ) → i < length ts → e ≡ get_or ts i e
    → split_among number e.1.splits ≡ None
    → split_at number (drop i ts) ≡ split_at number (drop (i + 1) ts)
split_later ts i e number below is none =
    let more = splits_of (drop (i + 1) ts) in
    ap (split_at number) (from-item ts i e below is)
    ∙ find-append (λ (s : Split). s.id == number) e.1.splits more
    ∙ ap (λ (o : Option Split). option_or o (split_among number more)) none

-- What holds of the turn of a plan, and of an engine where no turn is made.
use Rattle.std.proofs.Common.{◌≡◌, ◌<◌, ◌^◌, ◌||◌, Bool, true, false, Option, Some, is_some, refl, subst, arith}
use Rattle.book_free.proofs.DifferLemmas.{no_difference}
use Rattle.book_free.specs.FreeSplits.{free_splits}
use Rattle.book_ledger.proofs.DifferenceLemmas.{differing_none}
use Rattle.book_ledger.specs.Changes.{AreBounded}
use Rattle.book_ledger.specs.Ledger.{register_of}
use Rattle.book_opening.specs.State.{State}
use Rattle.book_sound.specs.Soundness.{IsSoundBook}
use Rattle.book_undo.specs.Edit.{edited}
use Rattle.book_undo.specs.EditRules.{IsAllowed}
use Rattle.book_turns.specs.Turned.{turned}
use Rattle.book_turns.specs.Whole.{IsWhole}
use Rattle.book_turns.specs.declared.turn.Turn.{Turn}
use Rattle.book_engine.specs.Changed.{AreChanged}
use Rattle.book_engine.specs.Kept.{Kept}
use Rattle.book_engine.specs.Planned.{AreMovesOf, HasRoomFor, HasRoomForTurn, HasRoomIn, IsPlanFor}
use Rattle.book_engine.specs.Planned.{IsPlanTurn, IsPlanned, IsTurnNow, Planned, after_turn}

pub either_true : (saved : Bool) → (saved || true) ≡ true
either_true true = refl
either_true false = refl

pub either_same : (saved : Bool) → (saved || false) ≡ saved
either_same true = refl
either_same false = refl

pub turn_now :
    (state : State) (saved : Bool) (plan : Planned) (turn : Turn) → IsPlanFor state saved plan
    → plan.turn ≡ Some turn → IsTurnNow state turn plan.moves
turn_now state saved plan turn made some =
    let is = subst (λ (t : Option Turn). IsPlanTurn state saved plan.changes t) some made.plan_of.turn_is in
    record {
      whole = subst (IsWhole (turned turn state)) (either_true saved)
          (subst (λ (t : Option Turn). IsWhole (after_turn t state) (saved || is_some t)) some made.plan_of.whole);
      allowed = is.allowed;
      book = is.book;
      shallow = is.shallow;
      head = is.head;
      moves_are = subst (λ (t : Option Turn). AreMovesOf state plan.moves t) some made.moves_are;
    }

pub room_now :
    (kept : Kept) (plan : Planned) (turn : Turn) → HasRoomFor kept plan → plan.turn ≡ Some turn
    → HasRoomForTurn kept turn.edit plan.moves
room_now kept plan turn room some = subst (λ (t : Option Turn). HasRoomIn kept plan.moves t) some room

-- The turn of a plan has an edit that may be applied to the book, and leads to a sound book.
pub planned_allowed :
    (state : State) (saved : Bool) (plan : Planned) (turn : Turn) → IsPlanned state saved plan
    → plan.turn ≡ Some turn → IsAllowed state.book turn.edit
planned_allowed state saved plan turn made some =
    (subst (λ (t : Option Turn). IsPlanTurn state saved plan.changes t) some made.plan_of.turn_is).allowed

pub planned_sound :
    (state : State) (saved : Bool) (plan : Planned) (turn : Turn) → IsPlanned state saved plan
    → plan.turn ≡ Some turn → IsSoundBook (edited turn.edit state.book)
planned_sound state saved plan turn made some =
    subst IsSoundBook
    (subst (λ (t : Option Turn). IsPlanTurn state saved plan.changes t) some made.plan_of.turn_is).book
    (subst (λ (t : Option Turn). IsWhole (after_turn t state) (saved || is_some t)) some
    made.plan_of.whole).sound.book

-- What an engine keeps is changed to itself by no row and no free split.
pub not_changed :
    (kept : Kept) → AreBounded kept.registers → kept.free.index.changes < 2 ^ 64 → AreChanged kept kept
not_changed kept bounded less = record {
  changes = record {
    each = λ account.
        let none = differing_none (register_of account kept.state.book.transactions) in
        let below = bounded.each account in
        omega (arith, none, below);
    free = let none = no_difference (free_splits kept.state.book) in omega (arith, none, less);
  };
  left = λ account. omega arith;
  work = λ account. refl;
}

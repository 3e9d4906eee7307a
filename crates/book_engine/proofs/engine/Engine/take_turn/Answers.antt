use Rattle.std.proofs.Common.{◌≡◌, true, ℕ, List, sym, subst}
use Rattle.book_free.specs.Following.{CanFollow}
use Rattle.book_free.specs.Kept.{HasRoomFor as HasFreeRoom, Keeps}
use Rattle.book_free.specs.declared.moves.Move.{Move}
use Rattle.book_ledger.specs.Ledger.{HasPlaces}
use Rattle.book_opening.specs.State.{state_of}
use Rattle.book_undo.specs.Book.{Book}
use Rattle.book_undo.specs.Edit.{edited}
use Rattle.book_engine.specs.Changed.{AreChanged}
use Rattle.book_engine.specs.Kept.{Kept, kept_by}
use Rattle.book_engine.specs.Planned.{IsTurnNow}
use Rattle.book_sound.specs.Soundness.{IsSoundBook}
use Rattle.book_turns.specs.Turned.{turned}
use Rattle.book_turns.specs.Whole.{IsWhole}
use Rattle.book_turns.specs.declared.turn.Turn.{Turn}
use Rattle.book_turns.proofs.TurnLemmas.{whole_bounds}
use Rattle.book_engine.proofs.ChangedLemmas.{changed_by}
use Rattle.book_balances.proofs.MoveLemmas.{has_places}
use Rattle.book_engine.proofs.engine.Engine.take_turn.Goals as goal

pub apply-requires-clause-places : goal.apply-requires-clause-places
apply-requires-clause-places c =
    has_places (state_of c.self.inside.state).book c.self.invariant.whole.sound.book

pub apply-requires-clause-new_places : goal.apply-requires-clause-new_places
apply-requires-clause-new_places c =
    let made = c.requires.made in
    let led = subst (λ (b : Book). HasPlaces b.transactions) made.book (has_places _ made.whole.sound.book) in
    subst (λ (k : Kept). HasPlaces (edited c.args.turn.edit k.state.book).transactions) (sym c.self.view_is) led

-- The moves are those of the edit, and both books are sound.
can_at :
    (now : Kept) (turn : Turn) (moves : List (ℕ × Move)) → IsTurnNow now.state turn moves
    → IsWhole now.state now.saved → Keeps now.free now.state.book
    → CanFollow now.free moves now.state.book (edited turn.edit now.state.book)
can_at now turn moves made whole keeps = record {
  kept_of = keeps;
  sound = whole.sound.book;
  later_sound = subst IsSoundBook made.book made.whole.sound.book;
  moves_are = made.moves_are;
}

can_inside :
    (kept now : Kept) (turn : Turn) (moves : List (ℕ × Move)) → kept ≡ now → IsTurnNow now.state turn moves
    → IsWhole kept.state kept.saved → Keeps kept.free kept.state.book
    → CanFollow kept.free moves kept.state.book (edited turn.edit kept.state.book)
can_inside kept now turn moves same made whole keeps =
    can_at kept turn moves (subst (λ (k : Kept). IsTurnNow k.state turn moves) (sym same) made) whole keeps

pub follow-requires-clause-room : goal.follow-requires-clause-room
follow-requires-clause-room c =
    subst (λ (k : Kept). HasFreeRoom k.free c.args.moves.now) (sym c.self.view_is) c.requires.room.free

pub follow-requires-clause-ready : goal.follow-requires-clause-ready
follow-requires-clause-ready c = record {
  old = (state_of c.self.inside.state).book;
  new = edited c.args.turn.edit (state_of c.self.inside.state).book;
  can = can_inside (kept_by c.self.inside) c.args.self.now c.args.turn c.args.moves.now c.self.view_is
      c.requires.made c.self.invariant.whole c.self.invariant.free;
}

pub make_turn-requires-clause-bounds : goal.make_turn-requires-clause-bounds
make_turn-requires-clause-bounds c =
    whole_bounds (state_of c.self.inside.state) c.self.inside.saved c.self.invariant.whole

pub returns-clause-changes : goal.returns-clause-changes
returns-clause-changes c =
    let turn : Turn = c.args.turn in
    let book : (turned turn (state_of c.self.inside.state)).book
    ≡ edited turn.edit (state_of c.self.inside.state).book =
    subst (λ (k : Kept). (turned turn k.state).book ≡ edited turn.edit k.state.book) (sym c.self.view_is)
    c.requires.made.book in
    let new : Kept = kept_by (record {
      alloc = c.self.inside.alloc;
      state = c.make_turn.new.state;
      registers = c.apply.new.self;
      free = c.follow.new.self;
      saved = true;
    }) in
    subst (λ (k : Kept). AreChanged k new) c.self.view_is
    (changed_by (kept_by c.self.inside) new turn c.make_turn.ensures book c.apply.ensures.changes
    c.apply.ensures.left c.apply.ensures.work
    (c.follow.ensures (state_of c.self.inside.state).book (edited turn.edit (state_of c.self.inside.state).book)
    (can_inside (kept_by c.self.inside) c.args.self.now turn c.args.moves.now c.self.view_is c.requires.made
    c.self.invariant.whole c.self.invariant.free)).changes)

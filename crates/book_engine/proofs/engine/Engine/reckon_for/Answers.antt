use Rattle.std.proofs.Common.{◌≡◌, ◌≤◌, All, Bool, List, Some, length, is_ok, refl, sym, subst, ◌∙◌}
use Rattle.book_ledger.specs.Lots.{IsBroughtUp}
use Rattle.book_lots.specs.Lots.{IsSmall}
use Rattle.book_opening.specs.State.{state_of}
use Rattle.book_register.specs.declared.entry.Entry.{Entry}
use Rattle.book_reports.proofs.RowLemmas.{can_be_summed}
use Rattle.book_report_answers.specs.LotsAsked.{lots_asked}
use Rattle.book_engine.specs.Changed.{AreKeptUp, AreReckoned}
use Rattle.book_engine.specs.Kept.{Kept, kept_by}
use Rattle.book_engine.specs.Planned.{HasNoLessRoom}
use Rattle.book_engine.proofs.LotsLemmas.{are_reckoned, kept_up, small_rows, where_done}
use Rattle.book_engine.proofs.RoomLemmas.{room_brought_up, same_room}
use Rattle.book_engine.proofs.engine.Engine.reckon_for.Goals as goal

pub reckon-requires-clause-few : goal.reckon-requires-clause-few
reckon-requires-clause-few c =
    let book = (state_of c.self.inside.state).book in
    subst (λ (rows : List Entry). length rows ≤ 1000000) (sym (c.self.invariant.registers.rows c.in-Some.account))
    (can_be_summed book c.in-Some.account c.self.invariant.whole.sound.book).few

pub reckon-requires-clause-small : goal.reckon-requires-clause-small
reckon-requires-clause-small c =
    let book = (state_of c.self.inside.state).book in
    subst (All IsSmall) (sym (c.self.invariant.registers.rows c.in-Some.account))
    (small_rows _ (can_be_summed book c.in-Some.account c.self.invariant.whole.sound.book))

pub returns-in-Some-clause-kept_up : goal.returns-in-Some-clause-kept_up
returns-in-Some-clause-kept_up c =
    let old = kept_by c.self.inside in
    let new = kept_by (record {
      alloc = c.self.inside.alloc;
      state = c.self.inside.state;
      registers = c.reckon.new.self;
      free = c.self.inside.free;
      saved = c.self.inside.saved;
    }) in
    let asks : lots_asked old.state.book.accounts c.args.what.now ≡ Some c.in-Some.account =
    sym c.lots_asked.ensures ∙ c.in-Some.is in
    subst (λ (k : Kept). AreKeptUp k new (lots_asked k.state.book.accounts c.args.what.now)) c.self.view_is
    (kept_up old new c.in-Some.account (is_ok c.reckon.result) (lots_asked old.state.book.accounts c.args.what.now)
    asks c.self.invariant.registers c.reckon.ensures refl)

pub returns-in-Some-clause-reckoned : goal.returns-in-Some-clause-reckoned
returns-in-Some-clause-reckoned c =
    let old = kept_by c.self.inside in
    let new = kept_by (record {
      alloc = c.self.inside.alloc;
      state = c.self.inside.state;
      registers = c.reckon.new.self;
      free = c.self.inside.free;
      saved = c.self.inside.saved;
    }) in
    let asks : lots_asked old.state.book.accounts c.args.what.now ≡ Some c.in-Some.account =
    sym c.lots_asked.ensures ∙ c.in-Some.is in
    where_done c.reckon.result (λ done.
    subst (λ (k : Kept). AreReckoned k new (lots_asked k.state.book.accounts c.args.what.now)) c.self.view_is
    (are_reckoned old new c.in-Some.account (lots_asked old.state.book.accounts c.args.what.now) asks
    c.self.invariant.registers
    (subst (λ (t : Bool). IsBroughtUp c.in-Some.account t old.registers new.registers) done c.reckon.ensures)))

pub returns-in-Some-clause-spare : goal.returns-in-Some-clause-spare
returns-in-Some-clause-spare c =
    let old = kept_by c.self.inside in
    let new = kept_by (record {
      alloc = c.self.inside.alloc;
      state = c.self.inside.state;
      registers = c.reckon.new.self;
      free = c.self.inside.free;
      saved = c.self.inside.saved;
    }) in
    subst (λ (k : Kept). HasNoLessRoom k new) c.self.view_is
    (room_brought_up old new c.in-Some.account (is_ok c.reckon.result) c.reckon.ensures (same_room old))

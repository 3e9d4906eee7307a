-- Where no room was taken away, a plan has the room that it had.
use Rattle.std.proofs.Common.{◌≡◌, ℕ, ◌==◌, Bool, true, false, if◌then◌else◌, Option, Some, None, is_some}
use Rattle.std.proofs.Common.{◌≤◌, option_map, List, refl, ap, sym, ◌∙◌, subst, arith}
use Rattle.std.proofs.lemmas.Bool.{eqb-true}
use Rattle.book_commodity.specs.Table.{value_of}
use Rattle.book_free.specs.Kept.{IsSameKept, Kept as FreeKept}
use Rattle.book_free.specs.declared.moves.Move.{Move}
use Rattle.book_ledger.specs.Change.{is_there}
use Rattle.book_ledger.specs.Lots.{IsBroughtUp}
use Rattle.book_ledger.specs.Page.{Page, brought_up}
use Rattle.book_ledger.specs.Room.{Extends, room_in, room_of}
use Rattle.book_ledger.proofs.CountLemmas.{has_more}
use Rattle.book_undo.specs.Edit.{leaves}
use Rattle.book_undo.specs.Room.{spare_of}
use Rattle.book_undo.specs.declared.thing.ThingKind.{ThingKind}
use Rattle.book_turns.specs.declared.turn.Turn.{Turn}
use Rattle.book_engine.specs.Kept.{Kept}
use Rattle.book_engine.specs.Planned.{HasNoLessRoom, HasRoomFor, HasRoomIn, Planned}

still_in :
    (before now : Kept) → HasNoLessRoom before now → (moves : List (ℕ × Move)) (turn : Option Turn)
    → HasRoomIn before moves turn → HasRoomIn now moves turn
still_in before now spare moves None room = tt
still_in before now spare moves (Some turn) room = record {
  things = λ kind. omega (arith, room.things kind, spare.things kind);
  rows = record {
    rows = λ account. omega (arith, room.rows.rows account, spare.rows account);
    accounts = has_more before.registers now.registers (leaves turn.edit) spare.registers room.rows.accounts;
  };
  free = record {
    index = omega (arith, room.free.index, spare.index);
    matched = omega (arith, room.free.matched, spare.matched);
  };
  back = omega (arith, room.back, spare.back);
  forth = omega (arith, room.forth, spare.forth);
}

pub still_room :
    (before now : Kept) → HasNoLessRoom before now → (plan : Planned) → HasRoomFor before plan → HasRoomFor now plan
still_room before now spare plan room = still_in before now spare plan.moves plan.turn room

pub same_room : (kept : Kept) → HasNoLessRoom kept kept
same_room kept = record {
  things = λ kind. omega arith;
  rows = λ account. omega arith;
  registers = λ account there. there;
  index = omega arith;
  matched = omega arith;
  back = omega arith;
  forth = omega arith;
}

pub no_less_by : (before mid now : Kept) → HasNoLessRoom before mid → HasNoLessRoom mid now → HasNoLessRoom before now
no_less_by before mid now one two = record {
  things = λ kind. omega (arith, one.things kind, two.things kind);
  rows = λ account. omega (arith, one.rows account, two.rows account);
  registers = λ account there. two.registers account (one.registers account there);
  index = omega (arith, one.index, two.index);
  matched = omega (arith, one.matched, two.matched);
  back = omega (arith, one.back, two.back);
  forth = omega (arith, one.forth, two.forth);
}

-- no room is taken away where the tables, the registers, the free splits and the steps have as much as before
pub no_less_room :
    (old before now : Kept) → old ≡ before
    → ((kind : ThingKind) → spare_of kind old.plain ≤ spare_of kind now.plain) → Extends old.registers now.registers
    → IsSameKept old.free now.free → old.back_room ≤ now.back_room → old.forth_room ≤ now.forth_room
    → HasNoLessRoom before now
no_less_room old before now same things extends free back forth =
    subst (λ (k : Kept). HasNoLessRoom k now) same (record {
      things = things;
      rows = extends.room;
      registers = extends.kept;
      index = free.index_room;
      matched = free.matched_room;
      back = back;
      forth = forth;
    })

pub extends_same : (registers : List (ℕ × Page)) → Extends registers registers
extends_same registers = record {
  rows = λ account. refl;
  kept = λ account there. there;
  changes = λ account. refl;
  reckoned = λ account. refl;
  work = λ account. refl;
  room = λ account. omega arith;
}

pub same_free : (kept : FreeKept) → IsSameKept kept kept
same_free kept =
    record { entries = refl; changes = refl; matched = refl; index_room = omega arith; matched_room = omega arith }

-- the page of an account whose lots are brought up stays, and has as much room as before
abbrev up : Bool → Page → Page
up done page = if done then brought_up page else page

page_there : (done : Bool) (o : Option Page) → is_some (option_map (up done) o) ≡ is_some o
page_there done None = refl
page_there done (Some page) = refl

page_room : (done : Bool) (o : Option Page) → room_in (option_map (up done) o) ≡ room_in o
page_room done None = refl
page_room true (Some page) = refl
page_room false (Some page) = refl

-- no room is taken away where the lots of an account are brought up, and all but the registers stays as it was
pub room_brought_up :
    (before now : Kept) (account : ℕ) (done : Bool) → IsBroughtUp account done before.registers now.registers
    → HasNoLessRoom before (record now { registers = before.registers }) → HasNoLessRoom before now
room_brought_up before now account done is rest = record {
  things = rest.things;
  rows = λ a. let same = ap room_in (is.values a) ∙ rows a (a == account) refl in omega (arith, same);
  registers = λ a there. ap is_some (is.values a) ∙ registers a (a == account) refl ∙ there;
  index = rest.index;
  matched = rest.matched;
  back = rest.back;
  forth = rest.forth;
}
  where
    old : List (ℕ × Page)
    old = before.registers

    rows :
        (a : ℕ) (t : Bool) → (a == account) ≡ t
        → room_in (if t then option_map (up done) (value_of account old) else value_of a old) ≡ room_of a old
    rows a true same =
        page_room done (value_of account old) ∙ sym (ap (λ (n : ℕ). room_of n old) (eqb-true a account same))
    rows a false other = refl

    registers :
        (a : ℕ) (t : Bool) → (a == account) ≡ t
        → is_some (if t then option_map (up done) (value_of account old) else value_of a old) ≡ is_there a old
    registers a true same =
        page_there done (value_of account old) ∙ sym (ap (λ (n : ℕ). is_there n old) (eqb-true a account same))
    registers a false other = refl

use Rattle.std.proofs.Common.{ℕ, List}
use Rattle.book_commodity.specs.Table.{Rises}
use Rattle.book_undo.specs.Book.{Book, book_of}
use Rattle.book_undo.specs.Edit.{edited, leaves}
use Rattle.book_undo.specs.EditRules.{IsAllowed}
use Rattle.book_undo.specs.declared.edit.Edit.{Edit}
use Rattle.book_ledger.specs.Changes.{AreBounded}
use Rattle.book_ledger.specs.Counts.{CountsFrom, CountsOn}
use Rattle.book_ledger.specs.Ledger.{Keeps}
use Rattle.book_ledger.specs.Page.{Page}
use Rattle.book_ledger.specs.Room.{AreSorted}
use Rattle.book_ledger.proofs.CountsLemmas.{counts_kept, counts_start, left_kept}
use Rattle.book_ledger.proofs.EditLemmas.{edited_once, held_of_kept, kept_edited, places_edited}
use Rattle.book_ledger.proofs.registers.Registers.apply.Goals as goal

pub returns-clause-kept : goal.returns-clause-kept
returns-clause-kept c =
    kept_edited c.args.self.now.entries c.follow.new.self.entries (book_of c.args.plain.now) c.args.edit.now
    c.len-2.ensures.rises c.len.ensures.rises c.requires.allowed c.requires.kept c.requires.ready.accounts
    c.in_order-2.ensures.sorted c.follow.ensures.there c.follow.ensures.rows

-- the changes since the registers as they were
counted :
    (old new : List (ℕ × Page)) (before : Book) (edit : Edit) → Rises before.transactions → IsAllowed before edit
    → Keeps old before → AreSorted old → AreBounded old → CountsOn before.transactions (leaves edit) old new
    → CountsFrom old new
counted old new before edit rises allowed kept sorted bounded follows =
    let holds = held_of_kept old before rises kept in
    follows old before rises (edited_once before edit rises allowed) holds holds (counts_start old sorted bounded)

pub returns-clause-changes : goal.returns-clause-changes
returns-clause-changes c =
    let old = c.args.self.now.entries in
    let new = c.follow.new.self.entries in
    let before = book_of c.args.plain.now in
    counts_kept old new before (edited c.args.edit.now before) c.requires.kept (returns-clause-kept c)
    (counted old new before c.args.edit.now c.len-2.ensures.rises c.requires.allowed c.requires.kept
    c.in_order.ensures.sorted c.in_order.ensures.bounded c.follow.ensures.changes)

pub returns-clause-left : goal.returns-clause-left
returns-clause-left c =
    let old = c.args.self.now.entries in
    let new = c.follow.new.self.entries in
    let before = book_of c.args.plain.now in
    left_kept old new before (edited c.args.edit.now before) c.requires.kept (returns-clause-kept c)
    (counted old new before c.args.edit.now c.len-2.ensures.rises c.requires.allowed c.requires.kept
    c.in_order.ensures.sorted c.in_order.ensures.bounded c.follow.ensures.changes)

pub returns-clause-work : goal.returns-clause-work
returns-clause-work c =
    (counted c.args.self.now.entries c.follow.new.self.entries (book_of c.args.plain.now) c.args.edit.now
    c.len-2.ensures.rises c.requires.allowed c.requires.kept c.in_order.ensures.sorted c.in_order.ensures.bounded
    c.follow.ensures.changes).work

pub follow-requires : goal.follow-requires
follow-requires c = record {
  places = c.requires.places;
  new_places =
      places_edited (book_of c.args.plain.now) c.args.edit.now c.len-2.ensures.rises c.requires.allowed
      c.requires.new_places;
  room = c.requires.ready.rows;
}

-- A record that has a spelling in a format has one in format 2.
use Rattle.std.proofs.Common.{◌≡◌, ℕ, true, not, List, [], ◌∷◌, Option, Some, None, is_none, IfSome, subst, sym}
use Rattle.std.proofs.lemmas.Bool.{and_parts}
use Rattle.std.specs.List.{AllByRecursion}
use Rattle.book_splits.specs.TransactionRules.{has_voided, is_not_voided}
use Rattle.book_splits.specs.declared.transaction.Txn.{Txn}
use Rattle.book_splits.specs.declared.void.Void.{Void}
use Rattle.book_splits.proofs.TransactionRuleLemmas.{is_none_of}
use Rattle.book_undo.specs.declared.edit.Edit.{Edit, Currency, Put, Gone, All', Row_of-Edit, end_of-Edit, more_of-Edit}
use Rattle.book_undo.specs.declared.thing.Thing.{Thing}
use Rattle.book_undo.specs.declared.thing.Thing.TheVariants as thing
use Rattle.book_rows.specs.EditBytes.{HasValues, PartsHaveValues}
use Rattle.book_rows.specs.Row.{IsRecord}
use Rattle.book_rows.specs.ThingBytes.{IsThing}
use Rattle.book_rows.specs.TransactionBytes.{IsTxn, IsVoid}
use Rattle.book_rows.specs.declared.format.RowFormat.{RowFormat}
use Rattle.book_rows.specs.declared.format.RowFormat.TheVariants.{One, Two}
use Rattle.book_rows.specs.declared.record.Record.{Record}
use Rattle.book_rows.specs.declared.record.Record.TheVariants as kept
use Rattle.book_opening.specs.Opening.{CanBeRow}

-- Of a transaction that is not voided nothing is kept.
transaction_in_two : (it : Txn) → IsTxn One it → IsTxn Two it
transaction_in_two it is =
    let none = is_none_of it.voided (and_parts (is_none it.voided) (not (has_voided it.splits)) is.1).0 in
    (is.0, subst (λ (kept : Option Void). IfSome kept IsVoid) (sym none) tt)

thing_in_two : (it : Thing) → IsThing One it → IsThing Two it
thing_in_two (thing.Commodity it) is = is
thing_in_two (thing.Account it) is = is
thing_in_two (thing.Txn it) is = transaction_in_two it is
thing_in_two (thing.Price it) is = is
thing_in_two (thing.Schedule it) is = (is.0, (is.1.0, transaction_in_two it.template is.1.1))
thing_in_two (thing.Held it) is = is
thing_in_two (thing.Line it) is = is
thing_in_two (thing.Binding it) is = is
thing_in_two (thing.Recon it) is = is

mutual
  edit_in_two : (e : Edit) → HasValues One e → HasValues Two e
  edit_in_two (Currency c) has = has
  edit_in_two (Put n t) has = (has.0, thing_in_two t has.1)
  edit_in_two (Gone k n) has = has
  edit_in_two (All' shape row) has = (has.0, parts_in_two _ row has.1)

  parts_in_two : (n : _) (row : Row_of-Edit n) → PartsHaveValues One row → PartsHaveValues Two row
  parts_in_two n end_of-Edit has = tt
  parts_in_two n (more_of-Edit e more) has = (edit_in_two e has.0, parts_in_two _ more has.1)

record_in_two : (it : Record) → IsRecord One it → IsRecord Two it
record_in_two (kept.Head it) is = is
record_in_two (kept.Thing it) is = thing_in_two it is
record_in_two (kept.Back it) is = (edit_in_two it is.0, is.1)
record_in_two (kept.Forth it) is = (edit_in_two it is.0, is.1)

one_in_two : (m : RowFormat) (e : ℕ × Record) → CanBeRow m e → CanBeRow Two e
one_in_two One e can = (can.0, record_in_two e.1 can.1)
one_in_two Two e can = can

-- Records that can be rows of a format can be rows of format 2.
pub can_in_two :
    (m : RowFormat) (es : List (ℕ × Record)) → AllByRecursion (CanBeRow m) es → AllByRecursion (CanBeRow Two) es
can_in_two m [] can = tt
can_in_two m (e ∷ es) can = (one_in_two m e can.0, can_in_two m es can.1)

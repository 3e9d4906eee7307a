-- The bytes of things.
use Rattle.std.specs.Prelude.{ℕ, List, [], ◌∷◌}
use Rattle.book_undo.specs.Thing.{row_kind}
use Rattle.book_undo.specs.declared.thing.Thing.{Thing}
use Rattle.book_undo.specs.declared.thing.Thing.TheVariants as thing
use Rattle.book_undo.specs.declared.thing.ThingKind.{ThingKind}
use Rattle.book_rows.specs.declared.format.RowFormat.{RowFormat}
use Rattle.book_rows.specs.CommodityBytes.{commodity_bytes, IsCommodity}
use Rattle.book_rows.specs.AccountBytes.{account_bytes, IsAccount}
use Rattle.book_rows.specs.TransactionBytes.{txn_bytes, IsTxn}
use Rattle.book_rows.specs.PriceBytes.{price_bytes, IsPrice}
use Rattle.book_rows.specs.ScheduleBytes.{schedule_bytes, IsSchedule}
use Rattle.book_rows.specs.StatementBytes.{held_bytes, IsHeld, line_bytes, IsLine, binding_bytes, IsBinding}
use Rattle.book_rows.specs.ReconciliationBytes.{recon_bytes, IsRecon}

-- A kind of things as one byte, the kind of its rows.
abbrev pub thing_kind_bytes : ThingKind → List ℕ
thing_kind_bytes variant = row_kind variant ∷ []

-- Each kind of things has a spelling.
abbrev pub IsThingKind : ThingKind → Type 0
IsThingKind variant = Unit {0}

-- The fields of a thing as bytes of a format, by its kind.
abbrev pub thing_bytes : RowFormat → Thing → List ℕ
thing_bytes format (thing.Commodity it) = commodity_bytes it
thing_bytes format (thing.Account it) = account_bytes it
thing_bytes format (thing.Txn it) = txn_bytes format it
thing_bytes format (thing.Price it) = price_bytes it
thing_bytes format (thing.Schedule it) = schedule_bytes format it
thing_bytes format (thing.Held it) = held_bytes it
thing_bytes format (thing.Line it) = line_bytes it
thing_bytes format (thing.Binding it) = binding_bytes it
thing_bytes format (thing.Recon it) = recon_bytes it

-- A thing whose fields have a spelling in a format.
abbrev pub IsThing : RowFormat → Thing → Type 0
IsThing format (thing.Commodity it) = IsCommodity it
IsThing format (thing.Account it) = IsAccount it
IsThing format (thing.Txn it) = IsTxn format it
IsThing format (thing.Price it) = IsPrice it
IsThing format (thing.Schedule it) = IsSchedule format it
IsThing format (thing.Held it) = IsHeld it
IsThing format (thing.Line it) = IsLine it
IsThing format (thing.Binding it) = IsBinding it
IsThing format (thing.Recon it) = IsRecon it

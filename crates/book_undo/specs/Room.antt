-- The room that an edit needs in the tables of a book.
use Rattle.std.specs.Prelude.{ℕ, ◌+◌, ◌^◌, ◌<◌, ◌≤◌, ◌-◌, min, List, [], ◌∷◌, if◌then◌else◌}
use Rattle.book_undo.specs.Edit.{Leaf, OfCurrency, OfPut, OfGone, leaves}
use Rattle.book_undo.specs.Thing.{kind_of, same_kind}
use Rattle.book_undo.specs.declared.edit.Edit.{Edit}
use Rattle.book_undo.specs.declared.needs.Needs.{Needs}
use Rattle.book_undo.specs.declared.plain.Plain.{Plain}
use Rattle.book_undo.specs.declared.thing.ThingKind.{ThingKind}
use Rattle.book_undo.specs.declared.thing.ThingKind.TheVariants as kind

-- How many more things of a kind the tables have room for.
abbrev pub spare_of : ThingKind → Plain → ℕ
spare_of kind.Commodity plain = plain.commodities.spare
spare_of kind.Account plain = plain.accounts.spare
spare_of kind.Txn plain = plain.transactions.spare
spare_of kind.Price plain = plain.prices.spare
spare_of kind.Schedule plain = plain.schedules.spare
spare_of kind.Held plain = plain.statements.spare
spare_of kind.Line plain = plain.lines.spare
spare_of kind.Binding plain = plain.bindings.spare
spare_of kind.Recon plain = plain.reconciliations.spare

-- One, where the two kinds are the same.
abbrev pub one_of : ThingKind → ThingKind → ℕ
one_of kind other = if same_kind kind other then 1 else 0

-- How many things of a kind the leaves put. A thing that is put twice counts twice.
abbrev pub puts : ThingKind → List Leaf → ℕ
puts kind [] = 0
puts kind (OfCurrency currency ∷ more) = puts kind more
puts kind (OfPut number thing ∷ more) = one_of kind (kind_of thing) + puts kind more
puts kind (OfGone other number ∷ more) = puts kind more

-- The tables have room for the things that the leaves put.
abbrev pub HasRoomFor : Plain → List Leaf → Type 0
HasRoomFor plain changes = (kind : ThingKind) → puts kind changes ≤ spare_of kind plain

-- The tables have room for what the edit puts.
abbrev pub HasRoom : Plain → Edit → Type 0
HasRoom plain edit = HasRoomFor plain (leaves edit)

-- A table into which the edit puts things is full: it has no room for all of them. No table has room for 2^64 things.
abbrev pub IsFullFor : Plain → Edit → Type 0
IsFullFor plain edit = (kind : ThingKind) × (min (spare_of kind plain) (2 ^ 64 - 1) < puts kind (leaves edit))

-- What was counted of a kind.
abbrev pub need_of : ThingKind → Needs → ℕ
need_of kind.Commodity needs = needs.commodities
need_of kind.Account needs = needs.accounts
need_of kind.Txn needs = needs.transactions
need_of kind.Price needs = needs.prices
need_of kind.Schedule needs = needs.schedules
need_of kind.Held needs = needs.statements
need_of kind.Line needs = needs.lines
need_of kind.Binding needs = needs.bindings
need_of kind.Recon needs = needs.reconciliations

-- With what was counted of a kind before, the leaves put 2^64 things of it or more.
abbrev pub IsPastAll : Needs → List Leaf → Type 0
IsPastAll needs changes = (kind : ThingKind) × (2 ^ 64 ≤ need_of kind needs + puts kind changes)

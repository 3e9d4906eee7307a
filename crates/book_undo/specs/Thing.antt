-- The things of a book by their kinds.
use Rattle.std.specs.Prelude.{ℕ, Bool, ◌==◌}
use Rattle.book_undo.specs.declared.thing.Thing.{Thing}
use Rattle.book_undo.specs.declared.thing.Thing.TheVariants as thing
use Rattle.book_undo.specs.declared.thing.ThingKind.{ThingKind}
use Rattle.book_undo.specs.declared.thing.ThingKind.TheVariants as kind

-- The kind of a thing.
abbrev pub kind_of : Thing → ThingKind
kind_of (thing.Commodity commodity) = kind.Commodity
kind_of (thing.Account account) = kind.Account
kind_of (thing.Txn transaction) = kind.Txn
kind_of (thing.Price price) = kind.Price
kind_of (thing.Schedule schedule) = kind.Schedule
kind_of (thing.Held statement) = kind.Held
kind_of (thing.Line line) = kind.Line
kind_of (thing.Binding binding) = kind.Binding
kind_of (thing.Recon reconciliation) = kind.Recon

-- The number of a kind, which is that of its rows: the things are written in the order of these numbers. A row of
-- kind 1 holds what belongs to the whole book, such as its currency.
abbrev pub row_kind : ThingKind → ℕ
row_kind kind.Commodity = 2
row_kind kind.Account = 3
row_kind kind.Txn = 4
row_kind kind.Price = 5
row_kind kind.Schedule = 6
row_kind kind.Held = 7
row_kind kind.Line = 8
row_kind kind.Binding = 9
row_kind kind.Recon = 10

-- Whether two kinds are the same.
abbrev pub same_kind : ThingKind → ThingKind → Bool
same_kind one other = row_kind one == row_kind other

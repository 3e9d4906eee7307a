-- What a sink over a writer of std reports of the bytes that it was given.
use Rattle.std.specs.Prelude.{◌≡◌, ℕ, false, List, Option, Some, take}
use Rattle.std.specs.Io.KnownBytes.{Appends}
use Rattle.book_keeper.specs.declared.stream_sink.StreamSink.{StreamSink}

-- The sink may have been given these bytes: the writer is known to hold exactly these, unless a flush has failed.
abbrev pub may_hold : {W : Type 0} → (W → Option (List ℕ)) → StreamSink W → List ℕ → Type 0
may_hold contents sink bytes = sink.unflushed ≡ false → contents sink.writer ≡ Some bytes

-- A writer took some of the bytes, perhaps none, from their front on: it holds what it held and then these, as far as
-- it is known.
abbrev pub HasTaken : Option (List ℕ) → Option (List ℕ) → List ℕ → Type 0
HasTaken old new bytes = (count : ℕ) × Appends old new (take count bytes)

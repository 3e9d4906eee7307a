-- A sink of bytes in memory, and what a call makes of it.
use Rattle.std.specs.Prelude.{◌≡◌, ℕ, ◌-◌, ◌<◌, ◌⊎◌, List, ◌++◌, length, take}
use Rattle.book_keeper.specs.Calls.{FailsNext}
use Rattle.book_keeper.specs.Faults.{next_count}

-- The bytes that it was given, how many more it has room for, the numbers of the calls that fail,
-- the number of calls so far, and the count of faults.
pub record SinkInMemory : Type 0 where
  pub written : List ℕ
  pub room : ℕ
  pub fail : List ℕ
  pub calls : ℕ
  pub faults : ℕ

-- The next call with this piece fails: it is one of those that are to fail, or there is no room for any of the piece.
abbrev pub Refuses : SinkInMemory → List ℕ → Type 0
Refuses sink bytes = FailsNext sink.fail sink.calls ⊎ ((0 < length bytes) × (sink.room ≡ 0))

-- The sink after a call that took so many bytes of the piece.
abbrev pub after_write : SinkInMemory → List ℕ → ℕ → SinkInMemory
after_write sink bytes count =
    record sink { written = sink.written ++ take count bytes; room = sink.room - count; calls = next_count sink.calls }

-- The sink after a call that failed.
abbrev pub after_failed_write : SinkInMemory → SinkInMemory
after_failed_write sink = record sink { calls = next_count sink.calls; faults = next_count sink.faults }

-- A source of bytes in memory, and what a call makes of it.
use Rattle.std.specs.Prelude.{ℕ, List, drop}
use Rattle.book_keeper.specs.Faults.{next_count}

-- The bytes that it has left, the most that one call gives, the numbers of the calls that fail,
-- the number of calls so far, and the count of faults.
pub record SourceInMemory : Type 0 where
  pub left : List ℕ
  pub piece : ℕ
  pub fail : List ℕ
  pub calls : ℕ
  pub faults : ℕ

-- The source after a call that gave so many bytes.
abbrev pub after_read : SourceInMemory → ℕ → SourceInMemory
after_read source count = record source { left = drop count source.left; calls = next_count source.calls }

-- The source after a call that failed.
abbrev pub after_failed_read : SourceInMemory → SourceInMemory
after_failed_read source = record source { calls = next_count source.calls; faults = next_count source.faults }

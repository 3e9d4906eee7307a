-- An end of a call tells whether a stream failed in it.
use Rattle.std.specs.Prelude.{◌≡◌, ◌≢◌, ℕ}
use Rattle.book_keeper.specs.Faults.{Rose}

-- The end is this fault only where the stream's count of faults rose in the call; at each other end the count stays.
pub record TellsFault {E : Type 0} (fault end : E) (before now : ℕ) : Type 0 where
  pub rose : end ≡ fault → Rose before now
  pub same : end ≢ fault → now ≡ before

-- What was read of a link into an inbox.
use Rattle.std.specs.Prelude.{◌≡◌, List, ℕ, ◌++◌, Option}
use Rattle.std.specs.Io.KnownBytes.{Consumes}

-- What was read of the link stands in the inbox behind what stood there.
pub record HasRead (begun kept : List ℕ) (before after : Option (List ℕ)) : Type 0 where
  pub read : List ℕ
  pub took : Consumes before after read
  pub kept_is : kept ≡ begun ++ read

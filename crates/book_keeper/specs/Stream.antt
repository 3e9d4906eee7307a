-- What a source has left and what a sink was given, as far as they report it. What reports nothing claims nothing.
use Rattle.std.specs.Prelude.{◌≡◌, ℕ, ◌<◌, List, ◌++◌, Option, IfSome, length}

-- The bytes that are reported are these.
abbrev pub Are : Option (List ℕ) → List ℕ → Type 0
Are reported bytes = IfSome reported (λ known. known ≡ bytes)

-- These bytes were added behind what a sink was given. `old` and `new` are the lists of bytes that it may have been
-- given, before and now: each of the old ones, with these bytes behind it, is one of the new ones.
pub record Wrote (old new : List ℕ → Type 0) (bytes : List ℕ) : Type 0 where
  pub each : (before : List ℕ) → old before → new (before ++ bytes)

-- Some of these bytes were added behind what was written, from their front on, and not all of them.
pub record WrotePart (old new : List ℕ → Type 0) (bytes : List ℕ) : Type 0 where
  pub part : List ℕ
  pub rest : List ℕ
  pub parts : bytes ≡ part ++ rest
  pub short : 0 < length rest
  pub wrote : Wrote old new part

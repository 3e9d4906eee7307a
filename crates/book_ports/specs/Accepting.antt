-- Links that come, are open and are closed, as far as ports report them. What reports nothing claims nothing.
use Rattle.std.specs.Prelude.{◌≡◌, ℕ, List, [], ◌∷◌, ◌++◌, Option, option_map}

-- The link was the first of those to come, and the others are still to come.
abbrev pub IsFirst : {L : Type 0} → L → Option (List L) → Option (List L) → Type 0
IsFirst link before now = before ≡ option_map (λ others. link ∷ others) now

-- The links with one more behind them.
abbrev pub with_last : {L : Type 0} → L → Option (List L) → Option (List L)
with_last link = option_map (λ links. links ++ link ∷ [])

-- Nothing was written to a link: of the lists of bytes that it may have been given none has bytes.
abbrev pub HasNothing : (List ℕ → Type 0) → Type 0
HasNothing written = (bytes : List ℕ) → written bytes → bytes ≡ []

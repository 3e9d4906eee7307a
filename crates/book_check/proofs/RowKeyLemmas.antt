-- The first of several keys, asked one after another.
use Rattle.std.proofs.Common.{◌≡◌, ◌∷◌, ℕ, List, Option, Some, None, ap, sym}
use Rattle.book_keeper.specs.declared.row.RowKey.{RowKey}
use Rattle.book_commodity.specs.Rules.{first_broken}
use Rattle.book_check.specs.FirstUnsound.{key_in}

-- a number of the kind was found: its key is the first
pub key_found :
    (kind id : ℕ) (number : Option ℕ) (more : List (Option RowKey)) → Some id ≡ number
    → Some (record { kind = kind; id = id }) ≡ first_broken (key_in kind number ∷ more)
key_found kind id number more is = ap (λ (o : Option ℕ). first_broken (key_in kind o ∷ more)) is

-- none was: the first is among the keys behind
pub key_skips :
    (kind : ℕ) (number : Option ℕ) (more : List (Option RowKey)) → None ≡ number
    → first_broken (key_in kind number ∷ more) ≡ first_broken more
key_skips kind number more is = sym (ap (λ (o : Option ℕ). first_broken (key_in kind o ∷ more)) is)

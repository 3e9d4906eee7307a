-- The answers of the commands that reconcile an account, each with the version after it.
use Rattle.std.specs.Prelude.{◌≡◌, ℕ, List, [], ◌∷◌, codes, false, refl}
use Rattle.serde_json.specs.Data.{Data, Members, boolean, no_members, object}
use Rattle.serde_json.specs.Written.{has_float}
use Rattle.book_command.specs.declared.answer.ReconShown.{ReconShown}
use Rattle.book_command.specs.declared.word.Word.{Word}
use Rattle.book_command.specs.declared.word.Word.TheVariants.{Recons}
use Rattle.book_texts.specs.Fields.{answered, with_all}
use Rattle.book_texts.specs.Shown.{day_data, list_data, number_data, signed_data, signed-plain, sum_data}

-- `reconcile` and `reconcile_statement`: the number of the new reconciliation, and the numbers of the splits that it
-- marked.
abbrev pub reconciled : Word → ℕ → List ℕ → ℕ → Members
reconciled word reconciliation marked =
    answered word
    ((codes "marked", list_data number_data marked) ∷ (codes "reconciliation", number_data reconciliation) ∷ [])

-- The members of a reconciliation: its number, its day, its balances, of which the opening one is a sum, how many
-- splits it marked, and whether each of these still is as it was then.
abbrev pub recon_members : ReconShown → Members
recon_members shown =
    with_all no_members
    ((codes "closing", signed_data shown.closing)
    ∷ (codes "day", day_data shown.day)
    ∷ (codes "id", number_data shown.id)
    ∷ (codes "intact", boolean shown.intact)
    ∷ (codes "marked", number_data shown.marked)
    ∷ (codes "opening", sum_data shown.opening)
    ∷ [])

-- A reconciliation: the object of its members.
abbrev pub recon_data : ReconShown → Data
recon_data shown = object (recon_members shown)

-- No number of a reconciliation has a fraction.
pub recon-plain : (shown : ReconShown) → has_float (recon_data shown) ≡ false
recon-plain shown = rw (signed-plain shown.closing) refl

-- `recons`: the reconciliations of the account.
abbrev pub recons : List ReconShown → ℕ → Members
recons shown = answered Recons ((codes "recons", list_data recon_data shown) ∷ [])

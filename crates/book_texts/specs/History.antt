-- The answers of the commands on the history of a book, each with the version after it.
use Rattle.std.specs.Prelude.{ℕ, [], ◌∷◌, codes}
use Rattle.serde_json.specs.Data.{Members}
use Rattle.book_command.specs.declared.word.Word.TheVariants.{Undo, Redo, Status}
use Rattle.book_texts.specs.Fields.{answered}
use Rattle.book_texts.specs.Shown.{number_data}

-- `undo` has no field of its own.
abbrev pub undo : ℕ → Members
undo = answered Undo []

-- `redo` has none either.
abbrev pub redo : ℕ → Members
redo = answered Redo []

-- `status`: how much of each kind the book has, and how many books came before it and after it.
abbrev pub status : (accounts later lines past recons splits transactions : ℕ) → ℕ → Members
status accounts later lines past recons splits transactions =
    answered Status
    ((codes "accounts", number_data accounts)
    ∷ (codes "later", number_data later)
    ∷ (codes "lines", number_data lines)
    ∷ (codes "past", number_data past)
    ∷ (codes "recons", number_data recons)
    ∷ (codes "splits", number_data splits)
    ∷ (codes "transactions", number_data transactions)
    ∷ [])

-- The answers of the commands that ask for a report, each with the version, which stays.
use Rattle.std.specs.Prelude.{ℕ, ℤ, List, [], ◌∷◌, codes}
use Rattle.serde_json.specs.Data.{Members, string}
use Rattle.book_command.specs.declared.word.Word.{Word}
use Rattle.book_command.specs.declared.word.Word.TheVariants.{Gains}
use Rattle.book_texts.specs.Fields.{answered}
use Rattle.book_texts.specs.Shown.{sum_data}

-- The text of the report.
abbrev pub report : Word → List ℕ → ℕ → Members
report word text = answered word ((codes "text", string text) ∷ [])

-- `gains`: what sales gained.
abbrev pub gains : ℤ → ℕ → Members
gains gain = answered Gains ((codes "gain", sum_data gain) ∷ [])

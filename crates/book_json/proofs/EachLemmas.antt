-- A list of a form, read up to an item.
use Rattle.std.proofs.Common.{List, ◌++◌, Option, option_map}
use Rattle.serde_json.specs.Data.{Items}
use Rattle.book_json.specs.Members.{Form}
use Rattle.book_json.specs.Forms.{each}

-- what the items after those read give, with those read in front
abbrev pub on : {X : Type 0} → Form X → List X → Items → Option (List X)
on form read ds = option_map (λ xs. read ++ xs) (each form ds)

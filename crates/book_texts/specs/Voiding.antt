-- The answers of the commands on voided transactions, each with the version after it.
use Rattle.std.specs.Prelude.{◌≡◌, ℕ, List, [], ◌∷◌, codes, false, refl}
use Rattle.serde_json.specs.Data.{Data, Members, array, item, no_items, string}
use Rattle.serde_json.specs.Written.{has_float}
use Rattle.book_command.specs.declared.answer.VoidedShown.{VoidedShown}
use Rattle.book_command.specs.declared.word.Word.TheVariants.{Void, Unvoid, Voided}
use Rattle.book_texts.specs.Fields.{answered}
use Rattle.book_texts.specs.Shown.{list_data, number_data, signed_data, signed-plain}

-- `void` has no field of its own.
abbrev pub void : ℕ → Members
void = answered Void []

-- `unvoid` has none either.
abbrev pub unvoid : ℕ → Members
unvoid = answered Unvoid []

-- A split of a voided transaction: the numbers of the two, the value and the quantity that were kept, and the reason.
abbrev pub voided_data : VoidedShown → Data
voided_data shown =
    array
    (item (number_data shown.transaction)
    (item (number_data shown.split)
    (item (signed_data shown.value) (item (signed_data shown.quantity) (item (string shown.reason) no_items)))))

-- No number of it has a fraction.
pub voided-plain : (shown : VoidedShown) → has_float (voided_data shown) ≡ false
voided-plain shown = rw (signed-plain shown.value, signed-plain shown.quantity) refl

-- `voided`: the splits of the account whose transactions are voided.
abbrev pub voided : List VoidedShown → ℕ → Members
voided shown = answered Voided ((codes "voided", list_data voided_data shown) ∷ [])

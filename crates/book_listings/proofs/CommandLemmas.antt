-- The command of a transaction has no number with a fraction.
use Rattle.std.proofs.Common.{◌≡◌, ℕ, ◌||◌, ℤ, pos, negsuc, false, List, [], ◌∷◌, ap, map, refl, ◌∙◌}
use Rattle.serde_json.specs.Data.{number}
use Rattle.serde_json.specs.Find.{of_integer}
use Rattle.serde_json.specs.View.{items_of}
use Rattle.serde_json.specs.Written.{has_float, items_have_float}
use Rattle.book_splits.specs.declared.split.Split.{Split}
use Rattle.book_splits.specs.declared.transaction.Txn.{Txn}
use Rattle.book_listings.specs.Command.{edit_data, split_data}

plain_integer : (z : ℤ) → has_float (number (of_integer z)) ≡ false
plain_integer (pos n) = refl
plain_integer (negsuc n) = refl

plain_split : (split : Split) → has_float (split_data split) ≡ false
plain_split split =
    ap (λ t. t || (has_float (number (of_integer split.value)) || false)) (plain_integer split.quantity)
    ∙ ap (λ t. t || false) (plain_integer split.value)

plain_splits : (splits : List Split) → items_have_float (items_of (map split_data splits)) ≡ false
plain_splits [] = refl
plain_splits (split ∷ splits) =
    ap (λ t. t || items_have_float (items_of (map split_data splits))) (plain_split split) ∙ plain_splits splits

pub plain_edit : (number_of : ℕ) (transaction : Txn) → has_float (edit_data number_of transaction) ≡ false
plain_edit number_of transaction = ap (λ t. t || false) (plain_splits transaction.splits)

-- The balances and totals that an account's header gives (BAI2, record 03): a type, an amount, an item count and a
-- funds type with its further fields, again and again behind the account and its currency.
use Rattle.std.specs.Prelude.{ℕ, ◌≡◌, ◌<◌, ◌+◌, ◌-◌, ◌==◌, slice_index, Bool, ◌&&◌, ◌||◌, List, [], ◌∷◌, length}
use Rattle.std.specs.Prelude.{Option, Some, None, if◌then◌else◌, ℤ, pos}
use Rattle.book_statement.specs.Keys.{same_text}
use Rattle.bai2_read.specs.Amounts.{amount, is_amount}
use Rattle.bai2_read.specs.Fields.{after_fields, field, funds_date, funds_form, further, is_count}
use Rattle.bai2_read.specs.Totals.{total_over}

-- An item, as the fields from its type on, is passed over where its type is empty.
abbrev pub is_passed : List ℕ → Bool
is_passed item = length (field 0 item) == 0

-- How many fields an item has: type, amount, item count, funds type and the fields of the funds type.
unfoldable pub width : List ℕ → ℕ
width item = if is_passed item then 4 else 4 + further (after_fields 3 item)

-- The items of a record, each as the fields from its type on, once so many fields were passed: each begins behind the
-- fields of the one before.
abbrev pub items_after : ℕ → List ℕ → List (List ℕ)
items_after n [] = []
items_after n (b ∷ bs) =
    if b == 44
    then (if n == 0 then (b ∷ bs) ∷ items_after (width (b ∷ bs) - 1) bs else items_after (n - 1) bs)
    else items_after n bs

-- What begins with a field begins with its comma.
abbrev pub BeginsField : List ℕ → Type 0
BeginsField rest = 0 < length rest → slice_index rest 0 ≡ 44

-- The items of an account's header.
abbrev pub items : List ℕ → List (List ℕ)
items body = items_after 2 body

-- The item count of an item is a count or empty, and its funds type has its fields.
unfoldable pub has_form : List ℕ → Bool
has_form item =
    is_passed item || ((length (field 2 item) == 0 || is_count (field 2 item)) && funds_form (after_fields 3 item))

-- The value date of an item is empty or a day.
unfoldable pub has_date : List ℕ → Bool
has_date item = is_passed item || funds_date (after_fields 3 item)

-- The amount of an item is an amount.
unfoldable pub has_amount : List ℕ → Bool
has_amount item = is_passed item || is_amount (field 1 item)

-- The amount of an item.
unfoldable pub item_amount : List ℕ → ℤ
item_amount item = if is_passed item then pos 0 else amount (field 1 item)

-- The sum of the items' amounts.
abbrev pub sum_of_items : List (List ℕ) → ℤ
sum_of_items its = total_over item_amount its

-- The amount of an item where it is given.
unfoldable pub given_amount : List ℕ → Option ℤ
given_amount item = if length (field 1 item) == 0 then None else Some (amount (field 1 item))

-- The balance of a type is the amount of its first item, where there is one and its amount is given.
abbrev pub balance : List ℕ → List (List ℕ) → Option ℤ
balance type [] = None
balance type (item ∷ its) = if same_text (field 0 item) type then given_amount item else balance type its

-- Type 010 is the opening balance of the ledger (BAI2, summary type codes).
abbrev pub opening_type : List ℕ
opening_type = 48 ∷ 49 ∷ 48 ∷ []

-- Type 015 is the closing balance of the ledger (BAI2, summary type codes).
abbrev pub closing_type : List ℕ
closing_type = 48 ∷ 49 ∷ 53 ∷ []

-- The opening balance that an account's header gives.
abbrev pub opening : List ℕ → Option ℤ
opening body = balance opening_type (items body)

-- The closing balance that an account's header gives.
abbrev pub closing : List ℕ → Option ℤ
closing body = balance closing_type (items body)

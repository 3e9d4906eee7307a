-- Transactions as the journal has them (ledger 3 manual, transactions; hledger manual, transactions).
use Rattle.std.specs.Prelude.{ℕ, ◌==◌, Bool, ◌&&◌, ◌||◌, not, if◌then◌else◌, List, [], ◌∷◌, ◌++◌, codes}
use Rattle.std.specs.Prelude.{ℤ, pos, negsuc, ◌-ℤ◌, int_lt, unsigned_abs, Option, Some, None}
use Rattle.std.specs.List.{flat_map}
use Rattle.std.specs.Option.{option_map_or}
use Rattle.std.specs.Ordering.{int_eq}
use Rattle.book_commodity.specs.Day.{day_text}
use Rattle.book_commodity.specs.Table.{value_of}
use Rattle.book_splits.specs.declared.split.Mark.{Mark}
use Rattle.book_splits.specs.declared.split.Mark.TheVariants.{New, Cleared, Reconciled, Voided}
use Rattle.book_splits.specs.declared.split.Split.{Split}
use Rattle.book_splits.specs.declared.transaction.Txn.{Txn}
use Rattle.book_splits.specs.declared.void.Void.{Void}
use Rattle.book_undo.specs.Book.{Book}
use Rattle.book_export.specs.Names.{journal_path}
use Rattle.book_export.specs.Symbols.{amount_in}
use Rattle.book_export.specs.Texts.{code, note, shown}
use Rattle.book_export.specs.declared.posting.Posting.{Posting}
use Rattle.book_export.specs.declared.texts.Place.TheVariants.{Description, Memo}

-- A mark as both programs have it: `!` for cleared, `*` for reconciled (GnuCash Manual, reconciling). They have none for
-- voided, whose amounts are zero.
abbrev pub mark_text : Mark → List ℕ
mark_text New = []
mark_text Cleared = codes "! "
mark_text Reconciled = codes "* "
mark_text Voided = []

-- The commodity of the account with a number; 0, where there is no such account.
abbrev pub commodity_of : Book → ℕ → ℕ
commodity_of book account = option_map_or (λ a. a.commodity) (value_of account book.accounts) 0

-- A posting of a quantity, without a cost.
abbrev pub plain_posting : ℤ → Posting
plain_posting quantity = record { quantity = quantity; cost = None }

-- A posting of a quantity that costs so much in the currency of its transaction: the size of the value.
abbrev pub posting_at : ℤ → ℤ → Posting
posting_at quantity value = record { quantity = quantity; cost = Some (pos (unsigned_abs value)) }

-- Whether a quantity can be given the value as its cost, which both programs read with the sign of the quantity: it
-- isn't zero, and the value hasn't the other sign.
abbrev pub fits_cost : ℤ → ℤ → Bool
fits_cost quantity value =
    (int_lt (pos 0) quantity && not (int_lt value (pos 0))) || (int_lt quantity (pos 0) && not (int_lt (pos 0) value))

-- One smallest unit with the sign of a value.
abbrev pub unit_toward : ℤ → ℤ
unit_toward value = if int_lt value (pos 0) then negsuc 0 else pos 1

-- The two postings of a quantity that can't be given the value as its cost: one smallest unit has it, and all the rest
-- of the quantity costs nothing (rule of this project). So the quantities sum to that of the split, and the costs to
-- its value.
abbrev pub postings_apart : ℤ → ℤ → List Posting
postings_apart quantity value =
    posting_at (unit_toward value) value ∷ posting_at (quantity -ℤ unit_toward value) (pos 0) ∷ []

-- Whether both amounts are zero.
abbrev pub are_zero : ℤ → ℤ → Bool
are_zero quantity value = int_eq quantity (pos 0) && int_eq value (pos 0)

-- The postings of an account that holds another commodity than the currency of the transaction.
abbrev pub postings_at_cost : ℤ → ℤ → List Posting
postings_at_cost quantity value =
    if are_zero quantity value then plain_posting quantity ∷ []
    else (if fits_cost quantity value then posting_at quantity value ∷ [] else postings_apart quantity value)

-- The postings of a split: on an account in the currency of the transaction one of the quantity, which is the value.
abbrev pub postings_of : Bool → Split → List Posting
postings_of in_currency split =
    if in_currency then plain_posting split.quantity ∷ [] else postings_at_cost split.quantity split.value

-- The cost of a posting, in total and without a sign.
abbrev pub cost_text : Book → Txn → Option ℤ → List ℕ
cost_text book transaction None = []
cost_text book transaction (Some cost) = codes " @@ " ++ amount_in book.commodities transaction.currency cost

-- How the line of a posting begins: the mark of its split and its account.
unfoldable pub posting_start : Book → Split → List ℕ
posting_start book split =
    codes "    " ++ mark_text split.mark ++ journal_path book.accounts split.account ++ codes "  "

-- How it goes on: its quantity, its cost and the memo of its split.
unfoldable pub posting_end : Book → Txn → Split → Posting → List ℕ
posting_end book transaction split posting =
    amount_in book.commodities (commodity_of book split.account) posting.quantity
    ++ cost_text book transaction posting.cost ++ note split.memo ++ 10 ∷ []

-- The line of a posting.
unfoldable pub posting_line : Book → Txn → Split → Posting → List ℕ
posting_line book transaction split posting = posting_start book split ++ posting_end book transaction split posting

-- The lines of a split.
abbrev pub split_lines : Book → Txn → Split → List ℕ
split_lines book transaction split =
    flat_map (posting_line book transaction split)
    (postings_of (commodity_of book split.account == transaction.currency) split)

-- The first line of a transaction, behind an empty one: its day, its num and its description.
unfoldable pub head_line : Txn → List ℕ
head_line transaction =
    10 ∷ day_text transaction.day ++ 32 ∷ code transaction.num transaction.description
    ++ shown Description transaction.description ++ 10 ∷ []

-- The line below it where a transaction is voided, and none of another: a comment that says so, and why. The splits of
-- a voided transaction are postings of zero, which both programs take.
unfoldable pub void_line : Option Void → List ℕ
void_line None = []
void_line (Some void) = codes "    ; voided : " ++ shown Memo void.reason ++ 10 ∷ []

-- The lines of a transaction.
unfoldable pub transaction_lines : Book → Txn → List ℕ
transaction_lines book transaction =
    (head_line transaction ++ void_line transaction.voided)
    ++ flat_map (split_lines book transaction) transaction.splits

-- Those of the transaction with a number.
abbrev pub lines_at : Book → ℕ → List ℕ
lines_at book number = option_map_or (transaction_lines book) (value_of number book.transactions) []

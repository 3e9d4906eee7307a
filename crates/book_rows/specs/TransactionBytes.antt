-- The bytes of transactions.
use Rattle.std.specs.Prelude.{◌≡◌, ℕ, ℤ, true, List, [], ◌∷◌, ◌++◌, Option, IfSome}
use Rattle.book_commodity.specs.Day.{IsDay}
use Rattle.book_codec.specs.Words.{number, signed, string, optional, listed}
use Rattle.book_rows.specs.Values.{IsNumber, IsSigned, IsString, AreItems}
use Rattle.book_splits.specs.TransactionRules.{is_not_voided}
use Rattle.book_splits.specs.declared.split.Mark.{Mark}
use Rattle.book_splits.specs.declared.split.Mark.TheVariants.{New, Cleared, Reconciled, Voided}
use Rattle.book_splits.specs.declared.split.Split.{Split}
use Rattle.book_splits.specs.declared.transaction.Txn.{Txn}
use Rattle.book_splits.specs.declared.void.KeptSplit.{KeptSplit}
use Rattle.book_splits.specs.declared.void.Void.{Void}
use Rattle.book_rows.specs.declared.format.RowFormat.{RowFormat}
use Rattle.book_rows.specs.declared.format.RowFormat.TheVariants.{One, Two}

-- The place of a mark in the list of them, from 1.
abbrev pub place_of_mark : Mark → ℕ
place_of_mark New = 1
place_of_mark Cleared = 2
place_of_mark Reconciled = 3
place_of_mark Voided = 4

-- A mark as one byte, its place.
abbrev pub mark_bytes : Mark → List ℕ
mark_bytes variant = place_of_mark variant ∷ []

-- Each mark has a spelling.
abbrev pub IsMark : Mark → Type 0
IsMark variant = Unit {0}

-- The bytes of the fields from `mark` on.
abbrev pub split_rest : Split → List ℕ
split_rest it =
    mark_bytes it.mark ++ (optional number it.recon ++ (signed it.value ++ signed it.quantity))

-- The fields from `mark` on have a spelling.
abbrev pub IsSplitRest : Split → Type 0
IsSplitRest it =
    IsMark it.mark × (IfSome it.recon IsNumber × (IsSigned it.value × IsSigned it.quantity))

-- A split: its number, its account, its memo, its action, its mark, its reconciliation, its value and its quantity.
abbrev pub split_bytes : Split → List ℕ
split_bytes it =
    number it.id ++ (number it.account ++ (string it.memo ++ (string it.action ++ split_rest it)))

-- A split that has a spelling: its texts are UTF-8, and its numbers and amounts are of 64 bits.
abbrev pub IsSplit : Split → Type 0
IsSplit it =
    IsNumber it.id × (IsNumber it.account × (IsString it.memo × (IsString it.action × IsSplitRest it)))

-- The split whose fields these are, in the order of its bytes.
abbrev pub split_made : (ℕ × (ℕ × (List ℕ × (List ℕ × (Mark × (Option ℕ × (ℤ × ℤ))))))) → Split
split_made fields =
    record {
      id = fields.0;
      account = fields.1.0;
      memo = fields.1.1.0;
      action = fields.1.1.1.0;
      mark = fields.1.1.1.1.0;
      recon = fields.1.1.1.1.1.0;
      value = fields.1.1.1.1.1.1.0;
      quantity = fields.1.1.1.1.1.1.1;
    }

-- What is kept of a voided split: its value and its quantity.
abbrev pub kept_bytes : KeptSplit → List ℕ
kept_bytes it =
    signed it.value ++ signed it.quantity

-- Both are of 64 bits.
abbrev pub IsKept : KeptSplit → Type 0
IsKept it =
    IsSigned it.value × IsSigned it.quantity

-- What is kept of a split, made of its fields in the order of its bytes.
abbrev pub kept_made : (ℤ × ℤ) → KeptSplit
kept_made fields =
    record { value = fields.0; quantity = fields.1 }

-- What is kept of a voided transaction: the reason, and what is kept of each split.
abbrev pub void_bytes : Void → List ℕ
void_bytes it =
    string it.reason ++ listed kept_bytes it.kept

-- The reason is UTF-8, and the amounts are of 64 bits.
abbrev pub IsVoid : Void → Type 0
IsVoid it =
    IsString it.reason × AreItems IsKept it.kept

-- What is kept of a transaction, made of its fields in the order of its bytes.
abbrev pub void_made : (List ℕ × List KeptSplit) → Void
void_made fields =
    record { reason = fields.0; kept = fields.1 }

-- The fields of a transaction that both formats have: its currency, its day, its number text, its description and its
-- splits.
abbrev pub txn_fields : Txn → List ℕ
txn_fields it =
    number it.currency ++ (signed it.day ++ (string it.num ++ (string it.description ++ listed split_bytes it.splits)))

-- A transaction in a format. In format 2 there follows what is kept of it, if it is voided.
abbrev pub txn_bytes : RowFormat → Txn → List ℕ
txn_bytes One it = txn_fields it
txn_bytes Two it = txn_fields it ++ optional void_bytes it.voided

-- The fields of both formats have a spelling: the texts are UTF-8, the day is one of 1900 to 2199, the currency is a
-- number of 64 bits, and the splits have a spelling.
abbrev pub DoFieldsFit : Txn → Type 0
DoFieldsFit it =
    IsNumber it.currency × (IsDay it.day × (IsString it.num × (IsString it.description × AreItems IsSplit it.splits)))

-- A transaction that has a spelling in a format: its fields have one, and what is kept of it. Format 1 has none for a
-- transaction that is voided, nor for a split that is.
abbrev pub IsTxn : RowFormat → Txn → Type 0
IsTxn One it = DoFieldsFit it × (is_not_voided it ≡ true)
IsTxn Two it = DoFieldsFit it × IfSome it.voided IsVoid

-- The transaction made of the fields of both formats, in the order of its bytes, and of what is kept of it.
abbrev pub txn_made : ((ℕ × (ℤ × (List ℕ × (List ℕ × List Split)))) × Option Void) → Txn
txn_made made =
    record {
      currency = made.0.0;
      day = made.0.1.0;
      num = made.0.1.1.0;
      description = made.0.1.1.1.0;
      splits = made.0.1.1.1.1;
      voided = made.1;
    }

-- The bytes of reconciliations.
use Rattle.std.specs.Prelude.{ℕ, ℤ, List, ◌++◌}
use Rattle.book_commodity.specs.Day.{IsDay}
use Rattle.book_codec.specs.Words.{number, signed, wide, listed}
use Rattle.book_rows.specs.Values.{IsNumber, IsSigned, IsWide, AreItems}
use Rattle.book_splits.specs.declared.reconciliation.MarkedSplit.{MarkedSplit}
use Rattle.book_splits.specs.declared.reconciliation.Recon.{Recon}

-- A marked split: its number and its quantity.
abbrev pub marked_split_bytes : MarkedSplit → List ℕ
marked_split_bytes it =
    number it.split ++ signed it.quantity

-- A marked split that has a spelling: its number and its quantity are of 64 bits.
abbrev pub IsMarkedSplit : MarkedSplit → Type 0
IsMarkedSplit it =
    IsNumber it.split × IsSigned it.quantity

-- The marked split whose fields these are, in the order of its bytes.
abbrev pub marked_split_made : (ℕ × ℤ) → MarkedSplit
marked_split_made fields =
    record { split = fields.0; quantity = fields.1 }

-- A reconciliation: its account, its day, its two balances and its marked splits.
abbrev pub recon_bytes : Recon → List ℕ
recon_bytes it =
    number it.account ++ (signed it.day ++ (wide it.opening ++ (signed it.closing
    ++ listed marked_split_bytes it.marked)))

-- A reconciliation that has a spelling: its day is one of 1900 to 2199, its opening balance is of 128 bits, its other
-- numbers are of 64, and so are those of its marked splits.
abbrev pub IsRecon : Recon → Type 0
IsRecon it =
    IsNumber it.account × (IsDay it.day × (IsWide it.opening × (IsSigned it.closing
    × AreItems IsMarkedSplit it.marked)))

-- The reconciliation whose fields these are, in the order of its bytes.
abbrev pub recon_made : (ℕ × (ℤ × (ℤ × (ℤ × List MarkedSplit)))) → Recon
recon_made fields =
    record {
      account = fields.0;
      day = fields.1.0;
      opening = fields.1.1.0;
      closing = fields.1.1.1.0;
      marked = fields.1.1.1.1;
    }

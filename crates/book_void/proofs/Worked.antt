-- A transaction that is voided and brought back, computed.
use Rattle.std.proofs.Common.{◌≡◌, ℕ, ℤ, pos, negsuc, List, [], ◌∷◌, Option, Some, None, codes, refl}
use Rattle.book_splits.specs.declared.split.Mark.{Mark}
use Rattle.book_splits.specs.declared.split.Mark.TheVariants.{New, Cleared, Reconciled, Voided}
use Rattle.book_splits.specs.declared.split.Split.{Split}
use Rattle.book_splits.specs.declared.transaction.Txn.{Txn}
use Rattle.book_splits.specs.declared.void.Void.{Void}
use Rattle.book_void.specs.Voiding.{restored, voided_for}

abbrev split : ℕ → ℕ → Mark → Option ℕ → ℤ → Split
split id account mark recon amount = record {
  id = id;
  account = account;
  memo = codes "rent";
  action = [];
  mark = mark;
  recon = recon;
  value = amount;
  quantity = amount;
}

abbrev transaction : List Split → Option Void → Txn
transaction splits voided = record {
  currency = 1;
  day = pos 19723;
  num = codes "7";
  description = codes "Rent";
  splits = splits;
  voided = voided;
}

-- a rent of 200.00, of which the split on the bank account is reconciled
abbrev rent : Txn
rent = transaction
    (split 14 3 Reconciled (Some 19) (negsuc 19999) ∷ split 15 4 Cleared None (pos 20000) ∷ []) None

-- what is kept of it once it is voided
abbrev kept : Void
kept = record {
  reason = codes "wrong";
  kept = record { value = negsuc 19999; quantity = negsuc 19999 }
      ∷ record { value = pos 20000; quantity = pos 20000 } ∷ [];
}

rent_voided :
    voided_for (codes "wrong") rent
    ≡ transaction (split 14 3 Voided None (pos 0) ∷ split 15 4 Voided None (pos 0) ∷ []) (Some kept)
rent_voided = refl

-- brought back, both splits are new
rent_back :
    restored (voided_for (codes "wrong") rent)
    ≡ transaction (split 14 3 New None (negsuc 19999) ∷ split 15 4 New None (pos 20000) ∷ []) None
rent_back = refl

-- of a purchase of ten shares for 500.00 the values and the quantities are kept apart
abbrev bought : Split → Split
bought of_shares = record of_shares { quantity = pos 10 }

shares_kept :
    (voided_for [] (transaction (bought (split 14 5 New None (pos 50000)) ∷ []) None)).voided
    ≡ Some (record { reason = []; kept = record { value = pos 50000; quantity = pos 10 } ∷ [] })
shares_kept = refl

shares_back :
    restored (voided_for [] (transaction (bought (split 14 5 Cleared None (pos 50000)) ∷ []) None))
    ≡ transaction (bought (split 14 5 New None (pos 50000)) ∷ []) None
shares_back = refl

-- one that is not voided stays as it is
rent_stays : restored rent ≡ rent
rent_stays = refl

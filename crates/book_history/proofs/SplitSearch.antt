-- What a walk over transactions finds that looks for the split with a number.
use Rattle.std.proofs.Common.{◌≡◌, ℕ, ◌+◌, ◌<◌, ◌==◌, List, length, drop, get_or, Option, ap, ◌∙◌}
use Rattle.std.specs.Option.{option_or}
use Rattle.std.proofs.lemmas.List.Folds.{find-append}
use Rattle.book_commodity.proofs.ListLemmas.{from-item}
use Rattle.book_splits.specs.Balance.{splits_of}
use Rattle.book_splits.specs.declared.split.Split.{Split}
use Rattle.book_splits.specs.declared.transaction.Txn.{Txn}
use Rattle.book_sound.specs.LineRules.{split_among, split_at}

-- from a place on, it is that of the transaction there, if that has it, and else that of those behind
pub split_from :
    (ts : List (ℕ × Txn)) (i : ℕ) (e : ℕ × Txn) (number : ℕ) (found : Option Split) → i < length ts
    → e ≡ get_or ts i e → split_among number e.1.splits ≡ found
    → split_at number (drop i ts) ≡ option_or found (split_at number (drop (i + 1) ts))
split_from ts i e number found below is has =
    let more = splits_of (drop (i + 1) ts) in
    ap (split_at number) (from-item ts i e below is)
    ∙ find-append (λ (s : Split). s.id == number) e.1.splits more
    ∙ ap (λ (o : Option Split). option_or o (split_among number more)) has

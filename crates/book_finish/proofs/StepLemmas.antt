-- What a loop over the rows of a register, part by part, has found so far.
use Rattle.std.proofs.Common.{◌≡◌, ℕ, ◌+◌, Bool, List, ◌++◌, filter, length, take, drop, sym, ap, ◌∙◌}
use Rattle.std.proofs.Math.Seq.{take-add}
use Rattle.std.proofs.lemmas.List.Elements.{filter-append}
use Rattle.book_register.specs.declared.entry.Entry.{Entry}

-- the rows up to a place that pass a test, and behind them those of the part that begins there
pub part-more : (test : Entry → Bool) (rows part : List Entry) (place : ℕ)
    → part ≡ take (length part) (drop place rows)
    → filter test (take place rows) ++ filter test part ≡ filter test (take (place + length part) rows)
part-more test rows part place is =
    ap (λ (l : List Entry). filter test (take place rows) ++ filter test l) is
    ∙ sym (filter-append test (take place rows) (take (length part) (drop place rows)))
    ∙ ap (filter test) (sym (take-add place (length part) rows))

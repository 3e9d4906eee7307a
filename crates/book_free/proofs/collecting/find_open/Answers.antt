-- A split has one transaction, which here is the nearest before it.
use Rattle.std.proofs.Common.{◌≡◌, ◌-◌, ℕ, true, List, ap, arith, sym, ◌∙◌}
use Rattle.std.specs.Option.{option_copied}
use Rattle.book_splits.specs.Balance.{splits_of}
use Rattle.book_splits.specs.TransactionRules.{are_once, numbers_of}
use Rattle.book_splits.specs.declared.transaction.Txn.{Txn}
use Rattle.book_sound.specs.LineRules.{split_among}
use Rattle.book_free.specs.FreeSplits.{open_at}
use Rattle.book_free.proofs.FreeAtLemmas.{open_at_place}
use Rattle.book_free.proofs.collecting.find_open.Goals as goal

pub returns-in-Some : goal.returns-in-Some
returns-in-Some c =
    let number = c.args.number in
    let entries = c.as_slice-entries.result.now in
    let same = c.as_slice-entries.ensures.entries in
    let once : are_once (numbers_of (splits_of entries)) ≡ true =
    ap (λ (es : List (ℕ × Txn)). are_once (numbers_of (splits_of es))) same ∙ c.requires in
    let found = ap (split_among number) (sym c.as_slice.ensures) ∙ sym c.find_split.ensures
    ∙ ap option_copied c.in-Some.is in
    c.open_split.ensures
    ∙ sym (open_at_place number entries (c.partition_point-place.result - 1) _ c.in-Some.split.now once
    (omega (arith, c.partition_point-place.ensures.bound, c.if-place-gt0.true)) found)
    ∙ ap (open_at number) same

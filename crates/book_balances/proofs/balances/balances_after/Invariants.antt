use Rattle.std.proofs.Common.{◌≡◌, map, take}
use Rattle.book_commodity.specs.Table.{with_entry}
use Rattle.book_splits.specs.Balance.{quantity_on, splits_of}
use Rattle.book_undo.specs.Book.{book_of}
use Rattle.book_balances.proofs.balances.balances_after.Given as goal

abbrev pub invariant-loop-split : goal.invariant-loop-split
invariant-loop-split l =
    let later = with_entry l.number l.transaction (book_of l.plain).transactions in
    l.balances.items ≡ map (λ split. quantity_on split.account (splits_of later)) (take l.split-index l.splits)

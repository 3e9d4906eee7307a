use Rattle.std.proofs.Common.{◌≡◌, ◌++◌, take}
use Rattle.std.specs.List.{flat_map}
use Rattle.book_undo.specs.Book.{book_of}
use Rattle.book_export.specs.Entries.{split_lines}
use Rattle.book_export.proofs.transactions.push_splits.Given as goal

-- the lines of the splits so far were added
abbrev pub invariant-loop-split : goal.invariant-loop-split
invariant-loop-split l =
    l.out.items
    ≡ l.fn.out.items ++ flat_map (split_lines (book_of l.book) l.transaction) (take l.split-index l.split-items)

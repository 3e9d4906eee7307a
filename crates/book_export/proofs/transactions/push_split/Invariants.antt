use Rattle.std.proofs.Common.{◌≡◌, ◌++◌, take}
use Rattle.std.specs.List.{flat_map}
use Rattle.book_undo.specs.Book.{book_of}
use Rattle.book_export.specs.Entries.{posting_line}
use Rattle.book_export.proofs.transactions.push_split.Given as goal

-- the lines of the postings so far were added
abbrev pub invariant-loop-posting : goal.invariant-loop-posting
invariant-loop-posting l =
    l.out.items
    ≡ l.fn.out.items
    ++ flat_map (posting_line (book_of l.book) l.transaction l.split) (take l.posting-index l.posting-items)

-- The number with which the program ends: those of `book`, and two that `book` doesn't have: 1 where the book has
-- nothing of the number asked for, and 10 where a copy was not made. The numbers are the code's own.
use Rattle.std.specs.Prelude.{ℕ}
use Rattle.book_copy.specs.declared.copying.CopyError.{CopyError}
use Rattle.book_copy.specs.declared.copying.CopyError.TheVariants as rows
use Rattle.book_files.specs.declared.copying.FileCopyError.{FileCopyError}
use Rattle.book_files.specs.declared.copying.FileCopyError.TheVariants as copying
use Rattle.book_show.specs.declared.opening.BookError.{BookError}
use Rattle.book_show.specs.declared.opening.BookError.TheVariants as fault
use Rattle.book_show.specs.declared.showing.ShowError.{ShowError}
use Rattle.book_show.specs.declared.showing.ShowError.TheVariants as error
use Rattle.bookshow.specs.declared.ended.Ended.{Ended}
use Rattle.bookshow.specs.declared.ended.Ended.TheVariants.{Done, NotThere, Usage, Memory, Closed, OutputFault}
use Rattle.bookshow.specs.declared.ended.Ended.TheVariants.{NotOpened, KeeperFault, BadRows, UnsoundBook, Refused}
use Rattle.bookshow.specs.declared.ended.Ended.TheVariants.{Damaged, TargetThere, PartThere, CopyFailed}

abbrev pub number_of : Ended → ℕ
number_of Done = 0
number_of NotThere = 1
number_of Usage = 2
number_of Memory = 3
number_of Closed = 5
number_of OutputFault = 5
number_of (NotOpened fault) = 6
number_of KeeperFault = 6
number_of (BadRows kind id) = 7
number_of (UnsoundBook broken) = 7
number_of Refused = 6
number_of Damaged = 7
number_of TargetThere = 10
number_of PartThere = 10
number_of CopyFailed = 10

-- The end where rows are refused.
abbrev pub end_of_opening : BookError → Ended
end_of_opening fault.Keeper = KeeperFault
end_of_opening fault.OutOfMemory = Memory
end_of_opening (fault.BadRows kind id) = BadRows kind id
end_of_opening (fault.UnsoundBook broken) = UnsoundBook broken

-- The end where nothing is shown, or not all.
abbrev pub end_of : ShowError → Ended
end_of error.Unknown = NotThere
end_of error.Output = OutputFault
end_of error.OutOfMemory = Memory
end_of (error.Open cause) = end_of_opening cause

-- The end where no row was copied.
abbrev pub end_of_rows : CopyError → Ended
end_of_rows rows.Source = KeeperFault
end_of_rows rows.Target = CopyFailed
end_of_rows (rows.NoBookRow kind id) = BadRows kind id
end_of_rows rows.OutOfMemory = Memory

-- The end where no copy was made.
abbrev pub end_of_copying : FileCopyError → Ended
end_of_copying copying.TargetThere = TargetThere
end_of_copying copying.PartThere = PartThere
end_of_copying (copying.Rows cause) = end_of_rows cause
end_of_copying copying.File = CopyFailed
end_of_copying copying.OutOfMemory = Memory

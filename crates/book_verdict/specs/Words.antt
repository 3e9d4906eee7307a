-- What is said of a file that is no book, or can't be used: what it is, and what a person does next. Each line ends by
-- a line feed.
use Rattle.std.specs.Prelude.{ℕ, List, ◌++◌, codes}
use Rattle.book_verdict.specs.declared.fault.FileFault.{FileFault}
use Rattle.book_verdict.specs.declared.fault.FileFault.TheVariants as fault

-- The words on a fault, line by line.
unfoldable pub words_on : FileFault → List ℕ
words_on fault.Missing =
    codes "There is no file at this path.\n"
    ++ (codes "Look for the book under another name, or in another folder.\n")
words_on fault.LogAlone =
    codes "The file is missing or empty, but its log stands there and may hold changes, as where the book was\n"
    ++ (codes "renamed after a run was killed.\n"
    ++ (codes "Give the file its old name again, and run `book` over it once. If its file is gone, or you want a new\n"
    ++ (codes "book under this name, move the log away.\n")))
words_on fault.Empty =
    codes "The file is empty: no book was kept in it.\n"
    ++ (codes "Look for the book under another name; a run of `book` over this file begins a new one.\n")
words_on fault.NoTable =
    codes "The file is a SQLite database without a table: no book was kept in it.\n"
    ++ (codes "Look for the book under another name; a run of `book` over this file begins a new one.\n")
words_on fault.Folder =
    codes "This is a folder.\n"
    ++ (codes "Name the file of the book that is in it.\n")
words_on fault.NoFile =
    codes "This is no file on a disk, but a device, a pipe or a socket.\n"
    ++ (codes "Name the file of the book.\n")
words_on fault.NoRight =
    codes "You are not allowed to read and write the file, its log or its folder.\n"
    ++ (codes "Ask whoever owns them, or change their rights; a copy that belongs to you can be opened too.\n")
words_on fault.ReadOnlyDisk =
    codes "The file is on a disk that can only be read, and a book is opened for writing, also where nothing is\n"
    ++ (codes "written.\n"
    ++ (codes "Copy the file, and its log if there is one, to another disk, and use the copy.\n"))
words_on fault.SecondName =
    codes "The file has a second name, a hard link, and a book has one name.\n"
    ++ (codes "Remove the other name, or use a copy of the file.\n")
words_on fault.Journal =
    codes "A rollback journal stands beside the file, its name with `-journal` behind: another program was\n"
    ++ (codes "stopped as it wrote.\n"
    ++ (codes "Open the file once with `sqlite3`, which undoes what was half written, and try again.\n"))
words_on fault.InUse =
    codes "Another run, or another program such as `sqlite3`, has the file open.\n"
    ++ (codes "End it, and try again.\n")
words_on fault.NoDatabase =
    codes "The file is no SQLite database, so it is no book.\n"
    ++ (codes "Look for the book under another name. If it was here, the file was overwritten: use your last copy.\n")
words_on fault.CutShort =
    codes "The file is cut short: it has fewer bytes than its first page says.\n"
    ++ (codes "Use your last copy.\n")
words_on fault.Damaged =
    codes "The file is a SQLite database, but a damaged one: its pages don't fit together, or not with the log\n"
    ++ (codes "beside it, the file of the same name with `-wal` behind.\n"
    ++ (codes "Save both elsewhere before any program opens them. If the log may be that of another book, move it\n"
    ++ (codes "away and check again; else use your last copy, where no log is beside it.\n")))
words_on fault.OtherDatabase =
    codes "The file is a SQLite database, but no book: it has other tables, an index, a trigger, or a row that\n"
    ++ (codes "is none of a book.\n"
    ++ (codes "It belongs to another program, or someone added these: then drop them. On a saved copy of the file\n"
    ++ (codes "`sqlite3 COPY .schema` shows what it has.\n")))
words_on fault.Failed =
    codes "The file could not be read: the disk or the system failed.\n"
    ++ (codes "Try again; if it fails again, copy the file to another disk, or use your last copy.\n")

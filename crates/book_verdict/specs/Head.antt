-- What the first 108 bytes of a file say of it (SQLite, Database File Format, "The Database Header" and "B-tree
-- Pages").
use Rattle.std.specs.Prelude.{ℕ, ◌+◌, ◌*◌, ◌==◌, ◌&&◌, ◌||◌, nat_lt, Bool, not, if◌then◌else◌, List, [], ◌∷◌, ◌++◌}
use Rattle.std.specs.Prelude.{codes, length, Option, Some, None, slice_get, take}
use Rattle.std.specs.Option.{option_map_or}
use Rattle.std.specs.Str.{bytes_eq}
use Rattle.book_verdict.specs.declared.fault.FileFault.{FileFault}
use Rattle.book_verdict.specs.declared.fault.FileFault.TheVariants.{CutShort, NoDatabase, NoTable, OtherDatabase}

-- The byte at a place; 0, where there is none. That a head which is too short reads as zeros is the code's own.
abbrev pub byte_at : ℕ → List ℕ → ℕ
byte_at place head = option_map_or (λ byte. byte) (slice_get head place) 0

-- The number that two bytes spell, the greater first.
abbrev pub pair_at : ℕ → List ℕ → ℕ
pair_at place head = byte_at place head * 256 + byte_at (place + 1) head

-- How many bytes a page has: the bytes 16 and 17, of which 1 stands for 65,536.
abbrev pub page_bytes : List ℕ → ℕ
page_bytes head = if pair_at 16 head == 1 then 65536 else pair_at 16 head

-- How many pages the file has: the bytes 28 to 31.
abbrev pub page_count : List ℕ → ℕ
page_count head = pair_at 28 head * 65536 + pair_at 30 head

-- A file is a SQLite database by its head: 100 bytes, of which the first are the text `SQLite format 3` and a zero.
abbrev pub is_database : List ℕ → Bool
is_database head = not (nat_lt (length head) 100) && bytes_eq (take 16 head) (codes "SQLite format 3" ++ 0 ∷ [])

-- A database has no table where its first page, whose head stands behind that of the database, is a leaf (13) without a
-- cell: the page lists all tables, indexes, views and triggers.
abbrev pub has_no_table : List ℕ → Bool
has_no_table head = (byte_at 100 head == 13) && (pair_at 103 head == 0)

-- A database lists another number of things than a book, which has a table and the index of its keys, where its first
-- page is a leaf with other than two cells, or stands above other pages (5).
abbrev pub has_other_things : List ℕ → Bool
has_other_things head = (byte_at 100 head == 5) || ((byte_at 100 head == 13) && not (pair_at 103 head == 2))

-- A file that is no database, or one that has fewer bytes than its pages have, or one without a table, or one that lists
-- another number of things than a book. The order of the four is the code's own.
abbrev pub fault_of_head : List ℕ → ℕ → Option FileFault
fault_of_head head size =
    if is_database head
    then (if nat_lt size (page_bytes head * page_count head) then Some CutShort
    else if has_no_table head then Some NoTable
    else if has_other_things head then Some OtherDatabase else None)
    else Some NoDatabase

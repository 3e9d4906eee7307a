-- The records of a BAI2 file by their codes: what a line is, and which record may follow which (BAI2, record types).
use Rattle.std.specs.Prelude.{ℕ, ◌+◌, ◌-◌, ◌*◌, ◌==◌, nat_le, Bool, true, false, ◌&&◌, ◌||◌, List, [], length, take}
use Rattle.std.specs.Prelude.{drop, slice_index, if◌then◌else◌}
use Rattle.std.specs.Char.{is_ascii_digit}
use Rattle.book_statement.specs.declared.level.Level.{Level}
use Rattle.book_statement.specs.declared.level.Level.TheVariants.{Account, Group}
use Rattle.bai2_read.specs.declared.kind.Kind.{Kind}
use Rattle.bai2_read.specs.declared.kind.Kind.TheVariants.{Blank, FileHeader, GroupHeader, AccountHeader, Detail}
use Rattle.bai2_read.specs.declared.kind.Kind.TheVariants.{AccountTrailer, Continuation, GroupTrailer, FileTrailer}
use Rattle.bai2_read.specs.declared.kind.Kind.TheVariants.{Unknown, NoRecord}

-- A line without one slash at its end, which ends the fields of a record.
abbrev pub without_slash : List ℕ → List ℕ
without_slash line = if slice_index line (length line - 1) == 47 then take (length line - 1) line else line

-- A record is a code of two digits, alone or with a comma behind it.
abbrev pub is_record : List ℕ → Bool
is_record content =
    nat_le 2 (length content) && (is_ascii_digit (slice_index content 0) && (is_ascii_digit (slice_index content 1)
    && (length content == 2 || slice_index content 2 == 44)))

-- The kind of a record by its code (BAI2, record codes).
abbrev pub kind_of_code : ℕ → Kind
kind_of_code code =
    if code == 1 then FileHeader else
    (if code == 2 then GroupHeader else
    (if code == 3 then AccountHeader else
    (if code == 16 then Detail else
    (if code == 49 then AccountTrailer else
    (if code == 88 then Continuation else
    (if code == 98 then GroupTrailer else
    (if code == 99 then FileTrailer else Unknown)))))))

-- What a line without its slash is, where it is not empty.
abbrev pub kind_of_content : List ℕ → Kind
kind_of_content content =
    if is_record content
    then kind_of_code ((slice_index content 0 - 48) * 10 + (slice_index content 1 - 48))
    else NoRecord

-- What a line is.
unfoldable pub kind_of : List ℕ → Kind
kind_of line = if length line == 0 then Blank else kind_of_content (without_slash line)

-- The fields of a record line, each behind its comma: all that stands behind the code. A line that is no record has
-- none.
abbrev pub body_of_content : List ℕ → List ℕ
body_of_content content = if is_record content then drop 2 content else []

-- The fields of a line, each behind its comma.
unfoldable pub body_of : List ℕ → List ℕ
body_of line = body_of_content (without_slash line)

-- An empty line, and what stands before the first record.
abbrev pub is_blank : Kind → Bool
is_blank Blank = true
is_blank _ = false

-- A detail, record 16.
abbrev pub is_detail : Kind → Bool
is_detail Detail = true
is_detail _ = false

-- The header of a file, record 01.
abbrev pub is_file_header : Kind → Bool
is_file_header FileHeader = true
is_file_header _ = false

-- The header of a group, record 02.
abbrev pub is_group_header : Kind → Bool
is_group_header GroupHeader = true
is_group_header _ = false

-- The header of an account, record 03.
abbrev pub is_account_header : Kind → Bool
is_account_header AccountHeader = true
is_account_header _ = false

-- The trailer of an account, record 49.
abbrev pub is_account_trailer : Kind → Bool
is_account_trailer AccountTrailer = true
is_account_trailer _ = false

-- The trailer of a file, record 99.
abbrev pub is_file_trailer : Kind → Bool
is_file_trailer FileTrailer = true
is_file_trailer _ = false

-- A continuation, record 88, may stand behind a header, a detail or another continuation.
abbrev pub continues : Kind → Bool
continues FileHeader = true
continues GroupHeader = true
continues AccountHeader = true
continues Detail = true
continues Continuation = true
continues _ = false

-- The records of a file, a group or an account are counted from its header on, and anew from each higher header on. An
-- account goes on up to its trailer: what stands from there on is none of its records.
abbrev pub counts_anew : Level → Kind → Bool
counts_anew _ FileHeader = true
counts_anew Account GroupHeader = true
counts_anew Group GroupHeader = true
counts_anew Account AccountHeader = true
counts_anew Account AccountTrailer = true
counts_anew _ _ = false

-- A group stands behind the file's header or another group.
abbrev pub ends_group : Kind → Bool
ends_group FileHeader = true
ends_group GroupTrailer = true
ends_group _ = false

-- An account, and the trailer of a group, stand behind the group's header or another account.
abbrev pub ends_account : Kind → Bool
ends_account GroupHeader = true
ends_account AccountTrailer = true
ends_account _ = false

-- A detail, and the trailer of an account, stand behind the account's header or another detail.
abbrev pub is_in_account : Kind → Bool
is_in_account AccountHeader = true
is_in_account Detail = true
is_in_account _ = false

-- Behind the last group stands the trailer of the file.
abbrev pub is_group_trailer : Kind → Bool
is_group_trailer GroupTrailer = true
is_group_trailer _ = false

-- The order of the records: 01, one or more of (02, any number of (03, any number of 16, 49), 98), 99. Blank stands
-- before the first. A line that is no record is asked for its form alone.
abbrev pub may_follow : Kind → Kind → Bool
may_follow before FileHeader = is_blank before
may_follow before GroupHeader = ends_group before
may_follow before AccountHeader = ends_account before
may_follow before GroupTrailer = ends_account before
may_follow before Detail = is_in_account before
may_follow before AccountTrailer = is_in_account before
may_follow before FileTrailer = is_group_trailer before
may_follow before NoRecord = true
may_follow before _ = false

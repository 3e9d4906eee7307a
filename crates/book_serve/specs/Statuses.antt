-- How each request of a link was answered, read from the status of its response.
use Rattle.std.specs.Prelude.{ℕ, ◌==◌, List, map, if◌then◌else◌}
use Rattle.book_lines.specs.Marks.{Mark, Answered, Memory, Keeper}

-- The mark of a status: 507 says that the machine was out of memory, 503 that what is kept could not be changed.
abbrev pub mark_of : ℕ → Mark
mark_of status = if status == 507 then Memory else (if status == 503 then Keeper else Answered)

-- The marks of the statuses.
abbrev pub marks : List ℕ → List Mark
marks statuses = map mark_of statuses

-- Which faults of a file are found before a keeper opens it, and which by opening it once more where no keeper could.
use Rattle.std.specs.Prelude.{Bool, true, false}
use Rattle.book_verdict.specs.declared.fault.FileFault.{FileFault}
use Rattle.book_verdict.specs.declared.fault.FileFault.TheVariants as fault

-- Those that are found before: by the kind of what stands at the path, its log, its first bytes and its length.
abbrev pub shows_before : FileFault → Bool
shows_before fault.Journal = false
shows_before fault.InUse = false
shows_before fault.Damaged = false
shows_before found = true

-- Those that are found by opening it: by the error of SQLite, and by what stands beside the file.
abbrev pub shows_behind : FileFault → Bool
shows_behind fault.Missing = true
shows_behind fault.NoRight = true
shows_behind fault.ReadOnlyDisk = true
shows_behind fault.Journal = true
shows_behind fault.InUse = true
shows_behind fault.Damaged = true
shows_behind fault.OtherDatabase = true
shows_behind fault.Failed = true
shows_behind found = false

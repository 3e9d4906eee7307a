use Rattle.std.proofs.Common.{◌≡◌, ◌++◌, IsUtf8, string_bytes}
use Rattle.std.specs.Str.Iter.{chars_rest}
use Rattle.book_reports.specs.Layout.{printed}
use Rattle.book_table.proofs.layout.add_printed.Given as goal

-- what was added, with the characters that are left, is the whole text
abbrev pub invariant-loop-letter : goal.invariant-loop-letter
invariant-loop-letter l = IsUtf8 (chars_rest l.letter-iterator)
    × (string_bytes l.out ++ printed (chars_rest l.letter-iterator) ≡ string_bytes l.fn.out ++ printed l.fn.text)

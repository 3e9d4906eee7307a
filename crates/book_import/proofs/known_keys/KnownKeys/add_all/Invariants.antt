-- The keys of the lines so far are known.
use Rattle.std.proofs.Common.{[], take}
use Rattle.book_import.specs.KnownKeys.{HasKeys}
use Rattle.book_import.proofs.known_keys.KnownKeys.add_all.Given as goal

abbrev pub invariant-loop-line : goal.invariant-loop-line
invariant-loop-line l = HasKeys l.fn.self [] → HasKeys l.self (take l.line-index l.lines)

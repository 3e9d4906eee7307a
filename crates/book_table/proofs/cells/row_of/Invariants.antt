use Rattle.std.proofs.Common.{◌≡◌, map, take}
use Rattle.book_table.proofs.cells.row_of.Given as goal

-- the words so far
abbrev pub invariant-loop-word : goal.invariant-loop-word
invariant-loop-word l = l.cells ≡ map (λ word. word.now) (take l.word-index l.words)

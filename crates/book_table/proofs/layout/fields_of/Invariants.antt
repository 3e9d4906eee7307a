use Rattle.std.proofs.Common.{◌≡◌, All, IsUtf8, map, take}
use Rattle.book_table.proofs.layout.fields_of.Given as goal

-- the bytes of the texts so far
abbrev pub invariant-loop-text : goal.invariant-loop-text
invariant-loop-text l =
    (map (λ field. field.now) l.fields.items ≡ take l.text-index l.row) × All IsUtf8 (take l.text-index l.row)

-- Sums of the amounts of lines.
use Rattle.std.specs.Prelude.{List, [], ◌∷◌, map, ℤ, pos, ◌+ℤ◌}
use Rattle.book_statement.specs.declared.statement_line.StatementLine.{StatementLine}

-- The sum of amounts.
abbrev pub total : List ℤ → ℤ
total [] = pos 0
total (amount ∷ more) = amount +ℤ total more

-- The sum of the amounts of lines.
abbrev pub total_of : List StatementLine → ℤ
total_of lines = total (map (λ line. line.amount) lines)

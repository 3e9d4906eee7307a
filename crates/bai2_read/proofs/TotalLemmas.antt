-- Sums over lists with one item more.
use Rattle.std.proofs.Common.{◌≡◌, ℕ, ◌+◌, ◌<◌, List, [], ◌∷◌, ◌++◌, length, take, get_or, sym, ap, ◌∙◌, arith, ◌+ℤ◌}
use Rattle.std.specs.Prelude.{ℤ}
use Rattle.std.proofs.lemmas.Int.{ints}
use Rattle.std.proofs.lemmas.List.{take_more}
use Rattle.book_statement.specs.declared.statement_line.StatementLine.{StatementLine}
use Rattle.bai2_read.specs.Statements.{sum_of_lines}
use Rattle.bai2_read.specs.Totals.{total_over}

-- a sum with one item more
pub total_over_push : {X : Type 0} (part : X → ℤ) (xs : List X) (x : X)
    → total_over part (xs ++ x ∷ []) ≡ total_over part xs +ℤ part x
total_over_push part [] x = omega (arith, ints)
total_over_push part (y ∷ ys) x = let more = total_over_push part ys x in omega (arith, ints, more)

-- the sum of lines with one line more
pub sum_of_lines_more :
    (lines : List StatementLine) (i : ℕ) (line : StatementLine) → i < length lines → line ≡ get_or lines i line
    → sum_of_lines (take (i + 1) lines) ≡ sum_of_lines (take i lines) +ℤ line.amount
sum_of_lines_more lines i line below is =
    ap (λ (l : List StatementLine). sum_of_lines l) (take_more lines i line below)
    ∙ total_over_push (λ (l : StatementLine). l.amount) (take i lines) (get_or lines i line)
    ∙ ap (λ (l : StatementLine). sum_of_lines (take i lines) +ℤ l.amount) (sym is)

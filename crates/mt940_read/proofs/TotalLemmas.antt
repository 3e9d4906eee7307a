-- The sum of the amounts of lines, and a list with its last item changed.
use Rattle.std.proofs.Common.{◌≡◌, ℕ, ◌+◌, ◌*◌, ◌^◌, ◌<◌, List, [], ◌∷◌, ◌++◌, length, take, get_or, refl, sym, ap}
use Rattle.std.proofs.Common.{◌∙◌, ℤ, pos, ◌+ℤ◌, ◌-ℤ◌, ◌≤ℤ◌}
use Rattle.std.proofs.Math.IntN.{+ℤ_assoc, +ℤ_idl, +ℤ_idr}
use Rattle.std.proofs.lemmas.List.{take_more}
use Rattle.book_statement.specs.declared.statement_line.StatementLine.{StatementLine}
use Rattle.book_statement.specs.Lists.{on_last}
use Rattle.mt940_read.specs.Totals.{total_of}

-- the amount is small enough to be the sum of so many amounts of 64 bits
abbrev pub IsWithin : ℕ → ℤ → Type 0
IsWithin count sum = ((pos 0 -ℤ pos (2 ^ 63 * count)) ≤ℤ sum) × (sum ≤ℤ pos (2 ^ 63 * count))

pub total_of-push : (lines : List StatementLine) (line : StatementLine)
    → total_of (lines ++ line ∷ []) ≡ total_of lines +ℤ line.amount
total_of-push [] line = +ℤ_idr line.amount ∙ sym (+ℤ_idl line.amount)
total_of-push (l ∷ ls) line =
    ap (λ z. l.amount +ℤ z) (total_of-push ls line) ∙ sym (+ℤ_assoc l.amount (total_of ls) line.amount)

pub total_of-take : (lines : List StatementLine) (i : ℕ) (line : StatementLine) → i < length lines
    → total_of (take (i + 1) lines) ≡ total_of (take i lines) +ℤ (get_or lines i line).amount
total_of-take lines i line h = ap total_of (take_more lines i line h)
    ∙ total_of-push (take i lines) (get_or lines i line)

pub on_last-push : {Y : Type 0} (change : Y → Y) (ys : List Y) (y : Y)
    → on_last change (ys ++ y ∷ []) ≡ ys ++ change y ∷ []
on_last-push change [] y = refl
on_last-push change (x ∷ []) y = refl
on_last-push change (x ∷ z ∷ zs) y = ap (λ l. x ∷ l) (on_last-push change (z ∷ zs) y)

-- The numbers of what an import adds rise, from the next number on.
use Rattle.std.proofs.Common.{◌≡◌, ℕ, ◌+◌, Bool, true, false, cond, List, [], ◌∷◌, ◌++◌, Option}
use Rattle.std.proofs.Common.{Some, None, unwrap_or, sym, subst, arith}
use Rattle.book_statement.specs.Keys.{keys_of}
use Rattle.book_statement.specs.declared.held.Held.{Held}
use Rattle.book_statement.specs.declared.line.Line.{Line}
use Rattle.book_statement.specs.declared.line_key.LineKey.{LineKey}
use Rattle.book_statement.specs.declared.statement_line.StatementLine.{StatementLine}
use Rattle.book_import.specs.Import.{Bound, has_key, held_of, imported, new_line, nothing_added, number_among, with_held}
use Rattle.book_import.specs.Import.{with_line, with_lines, with_statement, with_statements}
use Rattle.book_import.specs.Laws.{AreDrawn, HasDrawn}
use Rattle.book_import.specs.declared.added.Additions.{Additions}

drawn-push :
    {T : Type 0} (from next : ℕ) (entries : List (ℕ × T)) (value : T) → AreDrawn from next entries
    → AreDrawn from (next + 1) (entries ++ (next, value) ∷ [])
drawn-push from next [] value drawn = (drawn, omega arith)
drawn-push from next (entry ∷ more) value drawn = (drawn.0, drawn-push (entry.0 + 1) next more value drawn.1)

drawn-later :
    {T : Type 0} (from next : ℕ) (entries : List (ℕ × T)) → AreDrawn from next entries
    → AreDrawn from (next + 1) entries
drawn-later from next [] drawn = omega (arith, drawn)
drawn-later from next (entry ∷ more) drawn = (drawn.0, drawn-later (entry.0 + 1) next more drawn.1)

line-drawn :
    (from : ℕ) (lines : List (ℕ × Line)) (statement : ℕ) (key_ : LineKey) (body : StatementLine) (added : Additions)
    → HasDrawn from added → HasDrawn from (with_line lines statement key_ body added)
line-drawn from lines statement key_ body added drawn = go (has_key key_ (lines ++ added.lines))
  where
    go : (known : Bool) → HasDrawn from (cond known (record added { seen = added.seen + 1 }) (record added {
      lines = added.lines ++ (added.next, new_line statement key_ body) ∷ [];
      next = added.next + 1;
    }))
    go true = drawn
    go false = (
      drawn-later from added.next added.statements drawn.0,
      drawn-push from added.next added.lines (new_line statement key_ body) drawn.1,
    )

lines-drawn :
    (from : ℕ) (lines : List (ℕ × Line)) (statement : ℕ) (keys : List LineKey) (bodies : List StatementLine)
    (added : Additions) → HasDrawn from added → HasDrawn from (with_lines lines statement keys bodies added)
lines-drawn from lines statement [] bodies added drawn = drawn
lines-drawn from lines statement (key_ ∷ keys) [] added drawn = drawn
lines-drawn from lines statement (key_ ∷ keys) (body ∷ bodies) added drawn =
    lines-drawn from lines statement keys bodies (with_line lines statement key_ body added)
    (line-drawn from lines statement key_ body added drawn)

held-drawn :
    (from : ℕ) (there : Option ℕ) (held : Held) (added : Additions) → HasDrawn from added
    → HasDrawn from (with_held there held added)
held-drawn from (Some number) held added drawn = drawn
held-drawn from None held added drawn =
    (drawn-push from added.next added.statements held drawn.0, drawn-later from added.next added.lines drawn.1)

statements-drawn :
    (from : ℕ) (statements : List (ℕ × Held)) (lines : List (ℕ × Line)) (file : List Bound) (added : Additions)
    → HasDrawn from added → HasDrawn from (with_statements statements lines file added)
statements-drawn from statements lines [] added drawn = drawn
statements-drawn from statements lines (bound ∷ more) added drawn =
    statements-drawn from statements lines more (with_statement statements lines bound added)
    (lines-drawn from lines
    (unwrap_or (number_among (held_of bound) (statements ++ added.statements)) added.next)
    (keys_of bound.account bound.statement.lines) bound.statement.lines
    (with_held (number_among (held_of bound) (statements ++ added.statements)) (held_of bound) added)
    (held-drawn from (number_among (held_of bound) (statements ++ added.statements)) (held_of bound) added drawn))

-- the numbers of an import rise, from the next number on
pub imported-drawn :
    (statements : List (ℕ × Held)) (lines : List (ℕ × Line)) (file : List Bound) (next : ℕ)
    → HasDrawn next (imported statements lines file next)
imported-drawn statements lines file next =
    statements-drawn next statements lines file (nothing_added next) (omega arith, omega arith)

pub drawn-by :
    (statements : List (ℕ × Held)) (lines : List (ℕ × Line)) (file : List Bound) (next : ℕ) (added : Additions)
    → added ≡ imported statements lines file next → HasDrawn next added
drawn-by statements lines file next added is =
    subst (HasDrawn next) (sym is) (imported-drawn statements lines file next)

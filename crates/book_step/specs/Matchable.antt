-- The lines of an account that may be matched with splits.
use Rattle.std.specs.Prelude.{ℕ, ◌==◌, Bool, ◌&&◌, List, filter, map}
use Rattle.book_statement.specs.declared.line.Line.{Line}
use Rattle.book_match.specs.declared.views.LineView.{LineView}
use Rattle.book_step.specs.BankLines.{is_open}

-- A line as it is matched. Its number there is its own reference, as that of a check (GnuCash Manual, import matcher).
abbrev pub line_view : ℕ × Line → LineView
line_view entry = record {
  line = entry.0;
  day = entry.1.body.day;
  amount = entry.1.body.amount;
  number = entry.1.body.ref_own;
}

-- Whether a line stands in an account and is open.
abbrev pub is_open_on : ℕ → ℕ × Line → Bool
is_open_on account entry = (entry.1.account == account) && is_open entry.1.state

-- The open lines of an account, as they are matched.
abbrev pub open_lines : ℕ → List (ℕ × Line) → List LineView
open_lines account lines = map line_view (filter (is_open_on account) lines)

-- Keys of a statement's lines, by which a line is known when its file is imported again.
use Rattle.std.specs.Prelude.{ℕ, ℤ, nat_eq, Bool, ◌&&◌, List, [], ◌∷◌, count_by}
use Rattle.std.specs.Ordering.{int_eq}
use lib.Pointwise.{pointwise}
use Rattle.book_statement.specs.declared.line_key.LineKey.{LineKey}
use Rattle.book_statement.specs.declared.statement_line.StatementLine.{StatementLine}
use Rattle.book_statement.specs.Lists.{each_after}

-- two texts that are the same
abbrev pub same_text : List ℕ → List ℕ → Bool
same_text = pointwise nat_eq

-- whether a line has this day, amount, type, these references and this text
abbrev pub has_parts : ℤ → ℤ → List ℕ → List ℕ → List ℕ → List ℕ → StatementLine → Bool
has_parts day amount kind own bank text line =
    int_eq line.day day && (int_eq line.amount amount && (same_text line.kind kind
    && (same_text line.ref_own own && (same_text line.ref_bank bank && same_text line.text text))))

-- whether another line is equal to this one in day, amount, type, references and text
abbrev pub is_twin : StatementLine → StatementLine → Bool
is_twin line = has_parts line.day line.amount line.kind line.ref_own line.ref_bank line.text

-- the key of a line with this ordinal
abbrev pub key : ℕ → StatementLine → ℕ → LineKey
key account line ordinal = record {
  account = account;
  day = line.day;
  amount = line.amount;
  kind = line.kind;
  ref_own = line.ref_own;
  ref_bank = line.ref_bank;
  text = line.text;
  ordinal = ordinal;
}

-- the keys of a statement's lines: the ordinal of a line is how many lines before it are equal to it
unfoldable pub keys_of : ℕ → List StatementLine → List LineKey
keys_of account lines = each_after (λ before line. key account line (count_by (is_twin line) before) ∷ []) [] lines

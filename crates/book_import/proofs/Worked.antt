-- Imports whose additions are known, computed from the definition.
use Rattle.std.proofs.Common.{◌≡◌, ℕ, ℤ, pos, negsuc, List, [], ◌∷◌, Some, true, codes, refl}
use Rattle.book_statement.specs.Keys.{keys_of}
use Rattle.book_statement.specs.declared.line.Line.{Line}
use Rattle.book_statement.specs.declared.line_state.LineState.{LineState}
use Rattle.book_statement.specs.declared.line_state.LineState.TheVariants.{Open, Dismissed}
use Rattle.book_statement.specs.declared.statement_line.StatementLine.{StatementLine}
use Rattle.book_import.specs.Import.{Bound, held_of, imported}

-- a line without value day of its own, category and parts
abbrev line_of : ℤ → ℤ → List ℕ → List ℕ → List ℕ → List ℕ → StatementLine
line_of day amount kind own bank text = record {
  day = day;
  value_day = day;
  amount = amount;
  kind = kind;
  ref_own = own;
  ref_bank = bank;
  text = text;
  category = [];
  parts = [];
}

-- the rent of 2024-01-05 and a refund of 2024-01-08
abbrev rent : StatementLine
rent = line_of (pos 19727) (negsuc 19999) (codes "NTRF") (codes "RENT") (codes "B77") (codes "January rent")

abbrev refund : StatementLine
refund = line_of (pos 19730) (pos 5000) (codes "NTRF") (codes "NONREF") [] []

-- a coffee of 2024-02-09
abbrev coffee : StatementLine
coffee = line_of (pos 19762) (negsuc 299) (codes "NMSC") (codes "COFFEE") [] []

-- a statement of the account 3, with opening and closing balance, its day and its lines
abbrev statement_of : ℤ → ℤ → ℤ → List StatementLine → Bound
statement_of opening closing day lines = record {
  account = 3;
  statement = record {
    account_text = codes "NL01BANK0123456789";
    number = codes "1";
    currency = codes "EUR";
    opening = Some opening;
    closing = Some closing;
    day = day;
    ties = Some true;
    lines = lines;
  };
}

-- the statement of January, which ends on 2024-01-31
abbrev january : Bound
january = statement_of (pos 100000) (pos 85000) (pos 19753) (rent ∷ refund ∷ [])

-- that of February, which ends on 2024-02-28, with two equal lines
abbrev february : Bound
february = statement_of (pos 85000) (pos 84400) (pos 19781) (coffee ∷ coffee ∷ [])

abbrev kept : ℕ → ℕ → StatementLine → LineState → Line
kept statement ordinal body state =
    record { account = 3; statement = statement; ordinal = ordinal; body = body; state = state }

-- in an empty book, at the next number 6, the statement draws 6, and its lines 7 and 8
first : imported [] [] (january ∷ []) 6 ≡ record {
  statements = (6, held_of january) ∷ [];
  lines = (7, kept 6 0 rent Open) ∷ (8, kept 6 0 refund Open) ∷ [];
  seen = 0;
  next = 9;
}
unfolding keys_of
first = refl

-- the same file again adds nothing, and both lines were seen, whatever became of them
again : imported ((6, held_of january) ∷ []) ((7, kept 6 0 rent Dismissed) ∷ (8, kept 6 0 refund Open) ∷ [])
    (january ∷ []) 12 ≡ record { statements = []; lines = []; seen = 2; next = 12 }
unfolding keys_of
again = refl

-- two equal lines in one statement are two lines, with the ordinals 0 and 1
twins : imported ((6, held_of january) ∷ []) ((7, kept 6 0 rent Dismissed) ∷ (8, kept 6 0 refund Open) ∷ [])
    (february ∷ []) 12 ≡ record {
      statements = (12, held_of february) ∷ [];
      lines = (13, kept 12 0 coffee Open) ∷ (14, kept 12 1 coffee Open) ∷ [];
      seen = 0;
      next = 15;
    }
unfolding keys_of
twins = refl

-- a statement twice in one file is one: the lines of the second were seen
twice : imported [] [] (january ∷ january ∷ []) 6 ≡ record {
  statements = (6, held_of january) ∷ [];
  lines = (7, kept 6 0 rent Open) ∷ (8, kept 6 0 refund Open) ∷ [];
  seen = 2;
  next = 9;
}
unfolding keys_of
twice = refl

-- equal lines of one day in two statements are one line
across : imported [] [] (february ∷ statement_of (pos 84400) (pos 84100) (pos 19782) (coffee ∷ []) ∷ []) 6 ≡ record {
  statements = (6, held_of february) ∷ (9, held_of (statement_of (pos 84400) (pos 84100) (pos 19782) [])) ∷ [];
  lines = (7, kept 6 0 coffee Open) ∷ (8, kept 6 1 coffee Open) ∷ [];
  seen = 1;
  next = 10;
}
unfolding keys_of
across = refl

-- after an undo of the import the same file is added again, under new numbers
undone : imported [] [] (january ∷ []) 9 ≡ record {
  statements = (9, held_of january) ∷ [];
  lines = (10, kept 9 0 rent Open) ∷ (11, kept 9 0 refund Open) ∷ [];
  seen = 0;
  next = 12;
}
unfolding keys_of
undone = refl

-- where the statement is in the book and one of its lines isn't, the line that is added names the statement there
named : imported ((6, held_of january) ∷ []) ((7, kept 6 0 rent Open) ∷ []) (january ∷ []) 12 ≡ record {
  statements = [];
  lines = (12, kept 6 0 refund Open) ∷ [];
  seen = 1;
  next = 13;
}
unfolding keys_of
named = refl

-- pages of one statement come from the reader as one statement of two lines, so they are imported as one; where a
-- reader gives two, these are two statements, and each names its own lines
paged : imported [] [] (statement_of (pos 100000) (pos 80000) (pos 19753) (rent ∷ [])
    ∷ statement_of (pos 80000) (pos 85000) (pos 19753) (refund ∷ []) ∷ []) 6 ≡ record {
      statements = (6, held_of (statement_of (pos 100000) (pos 80000) (pos 19753) []))
          ∷ (8, held_of (statement_of (pos 80000) (pos 85000) (pos 19753) [])) ∷ [];
      lines = (7, kept 6 0 rent Open) ∷ (9, kept 8 0 refund Open) ∷ [];
      seen = 0;
      next = 10;
    }
unfolding keys_of
paged = refl

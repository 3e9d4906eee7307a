-- The bytes of the head.
use Rattle.std.specs.Prelude.{ℕ, List, ◌++◌}
use Rattle.book_codec.specs.Words.{number}
use Rattle.book_rows.specs.Values.{IsNumber}
use Rattle.book_rows.specs.declared.head.Head.{Head}

-- The bytes of the fields from `later` on.
abbrev pub head_rest : Head → List ℕ
head_rest it =
    number it.later ++ number it.currency

-- The fields from `later` on have a spelling.
abbrev pub IsHeadRest : Head → Type 0
IsHeadRest it =
    IsNumber it.later × IsNumber it.currency

-- A head: the next number, the version, the position, the counts of steps before and later, and the currency.
abbrev pub head_bytes : Head → List ℕ
head_bytes it =
    number it.next ++ (number it.version ++ (number it.position ++ (number it.past ++ head_rest it)))

-- A head that has a spelling: its numbers are of 64 bits.
abbrev pub IsHead : Head → Type 0
IsHead it =
    IsNumber it.next × (IsNumber it.version × (IsNumber it.position × (IsNumber it.past × IsHeadRest it)))

-- The head whose fields these are, in the order of its bytes.
abbrev pub head_made : (ℕ × (ℕ × (ℕ × (ℕ × (ℕ × ℕ))))) → Head
head_made fields =
    record {
      next = fields.0;
      version = fields.1.0;
      position = fields.1.1.0;
      past = fields.1.1.1.0;
      later = fields.1.1.1.1.0;
      currency = fields.1.1.1.1.1;
    }

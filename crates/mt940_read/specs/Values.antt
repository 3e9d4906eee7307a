-- The reader's own: what it keeps of the fields of a message that it has read, and how one field more changes that. No
-- public clause rests on this; what a message says stands in Messages.
use Rattle.std.specs.Prelude.{ℕ, Bool, false, List, [], ◌∷◌, ◌++◌, Option, Some, None, unwrap_or, if◌then◌else◌, ℤ}
use Rattle.std.specs.Prelude.{pos, ◌+ℤ◌}
use Rattle.book_commodity.specs.declared.commodity.Commodity.{Commodity}
use Rattle.book_statement.specs.Lists.{on_last}
use Rattle.mt940_read.specs.declared.message.Message.{Message}
use Rattle.mt940_read.specs.declared.tag.Tag.{Tag}
use Rattle.mt940_read.specs.declared.tag.Tag.TheVariants.{
  Reference,
  Related,
  Account,
  Number,
  Opening,
  Line,
  Text,
  Closing,
  Available,
  Forward,
}
use Rattle.mt940_read.specs.Balances.{balance, balance_currency, balance_day}
use Rattle.mt940_read.specs.Entries.{fraction_in, fraction_behind, last_tag}
use Rattle.mt940_read.specs.LineField.{line, add_text}
use Rattle.mt940_read.specs.Messages.{
  account_of,
  number_of,
  number_part,
  currency_of,
  opening_of,
  opens_page,
  closing_of,
  closes_page,
  day_of,
  lines_in,
}
use Rattle.mt940_read.specs.Order.{is_line}
use Rattle.mt940_read.specs.Totals.{total_of}
use Rattle.mt940_read.specs.Tree.{FieldLines}

-- What is kept of a message with these fields.
abbrev pub values : List (ℕ × Commodity) → List FieldLines → Message
values known fields = record {
  last = last_tag fields;
  account = account_of fields;
  number = number_of fields;
  currency = currency_of fields;
  fraction = fraction_behind known fields;
  opening = opening_of known fields;
  opens_page = opens_page fields;
  closing = closing_of known fields;
  closes_page = closes_page fields;
  day = day_of fields;
  lines = lines_in known fields;
}

-- The closing balance that the opening balance and the lines kept give.
abbrev pub reckoned : Message → ℤ
reckoned message = unwrap_or message.opening (pos 0) +ℤ total_of message.lines

-- Whether the last field is a 61.
abbrev pub ends_in_line : Option Tag → Bool
ends_in_line None = false
ends_in_line (Some tag) = is_line tag

-- What is kept with one field more.
abbrev pub after : List (ℕ × Commodity) → Message → Tag → List ℕ → Message
after known m Reference text = record m { last = Some Reference }
after known m Related text = record m { last = Some Related }
after known m Account text = record m { last = Some Account; account = text }
after known m Number text = record m { last = Some Number; number = number_part text }
after known m (Opening goes_on) text = record m {
  last = Some (Opening goes_on);
  currency = balance_currency text;
  fraction = fraction_in known (balance_currency text);
  opening = Some (balance (fraction_in known (balance_currency text)) text);
  opens_page = goes_on;
}
after known m Line text = record m { last = Some Line; lines = m.lines ++ line m.fraction text [] ∷ [] }
after known m Text text = record m {
  last = Some Text;
  lines = if ends_in_line m.last then on_last (add_text text) m.lines else m.lines;
}
after known m (Closing goes_on) text = record m {
  last = Some (Closing goes_on);
  closing = Some (balance m.fraction text);
  closes_page = goes_on;
  day = balance_day text;
}
after known m Available text = record m { last = Some Available }
after known m Forward text = record m { last = Some Forward }

-- What is kept with one further line behind a field that is a 61 or its text.
abbrev pub after_more : Message → List ℕ → Message
after_more m piece = record m { lines = on_last (add_text piece) m.lines }

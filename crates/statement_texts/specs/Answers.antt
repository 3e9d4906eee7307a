-- What a file is answered: what it says in the format that is asked for, and the rows of that.
use Rattle.std.specs.Prelude.{ℕ, Bool, true, false, List, [], Result, Ok, Err, codes}
use Rattle.book_commodity.specs.declared.commodity.Commodity.{Commodity}
use Rattle.book_statement.specs.declared.fault.StatementFault.{StatementFault}
use Rattle.book_statement.specs.declared.statement.Statement.{Statement}
use Rattle.book_statement.specs.Texts.{text_of_bytes}
use Rattle.bai2_read.specs.Reading as bai2
use Rattle.mt940_read.specs.Reading as mt940
use Rattle.qif_read.specs.Qif as qif
use Rattle.statement_texts.specs.declared.asked.Format.{Format}
use Rattle.statement_texts.specs.declared.asked.Format.TheVariants.{Mt940, Bai2, Qif}
use Rattle.statement_texts.specs.Faults.{fault_row}
use Rattle.statement_texts.specs.Rows.{counts, statement_rows}

-- the currency with this code and this fraction
abbrev pub currency : List ℕ → ℕ → Commodity
currency code fraction = record { space = codes "CURRENCY"; name = code; full_name = []; fraction = fraction }

-- what the bytes of a file say in a format, where these currencies are known
abbrev pub said : Format → List (ℕ × Commodity) → List ℕ → Result (List Statement) StatementFault
said Mt940 known bytes = mt940.reading known (text_of_bytes bytes)
said Bai2 known bytes = bai2.reading known (text_of_bytes bytes)
said (Qif order code fraction) known bytes = qif.reading (currency code.now fraction) order (text_of_bytes bytes)

-- the rows of statements, or the row of their counts alone
abbrev pub rows_or_counts : Bool → List Statement → List ℕ
rows_or_counts true statements = counts statements
rows_or_counts false statements = statement_rows statements

-- the text that answers what a file says
abbrev pub answer_of : Bool → Result (List Statement) StatementFault → List ℕ
answer_of alone (Ok statements) = rows_or_counts alone statements
answer_of alone (Err fault) = fault_row fault

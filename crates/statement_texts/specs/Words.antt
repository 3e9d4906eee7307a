-- The fraction that the words of the program name for a QIF file.
use Rattle.std.specs.Prelude.{⊤}
use Rattle.book_statement.specs.Currencies.{IsFraction}
use Rattle.statement_texts.specs.declared.asked.Format.{Format}
use Rattle.statement_texts.specs.declared.asked.Format.TheVariants.{Mt940, Bai2, Qif}

-- A QIF file is read in a currency with a fraction from 1 to 10^9.
abbrev pub HasFraction : Format → Type 0
HasFraction Mt940 = ⊤
HasFraction Bai2 = ⊤
HasFraction (Qif order code fraction) = IsFraction fraction

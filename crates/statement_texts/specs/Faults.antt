-- The line that the program writes of a fault: its line in the file, its name, and what is said and what is reckoned.
use Rattle.std.specs.Prelude.{ℕ, ℤ, List, [], ◌∷◌, ◌++◌, codes, decimal}
use Rattle.std.specs.Fmt.{signed_decimal}
use Rattle.book_statement.specs.declared.bad.Bad.{Bad}
use Rattle.book_statement.specs.declared.bad.Bad.TheVariants.{
  NoStatement,
  FieldOrder,
  RecordOrder,
  FieldForm,
  DateForm,
  AmountForm,
  TooManyDecimals,
  UnknownCurrency,
  CurrencyDiffers,
  PageOrder,
  Version,
  GroupStatus,
  BalanceMismatch,
  ControlTotal,
  Count,
  SplitSum,
  CutOff,
  TooMany,
}
use Rattle.book_statement.specs.declared.count_of.CountOf.{CountOf}
use Rattle.book_statement.specs.declared.count_of.CountOf.TheVariants as of
use Rattle.book_statement.specs.declared.fault.StatementFault.{StatementFault}
use Rattle.book_statement.specs.declared.level.Level.{Level}
use Rattle.book_statement.specs.declared.level.Level.TheVariants as level

-- The name of what is wrong.
abbrev pub name_of : Bad → List ℕ
name_of NoStatement = codes "NoStatement"
name_of FieldOrder = codes "FieldOrder"
name_of RecordOrder = codes "RecordOrder"
name_of FieldForm = codes "FieldForm"
name_of DateForm = codes "DateForm"
name_of AmountForm = codes "AmountForm"
name_of TooManyDecimals = codes "TooManyDecimals"
name_of UnknownCurrency = codes "UnknownCurrency"
name_of CurrencyDiffers = codes "CurrencyDiffers"
name_of PageOrder = codes "PageOrder"
name_of Version = codes "Version"
name_of GroupStatus = codes "GroupStatus"
name_of (BalanceMismatch said reckoned) = codes "BalanceMismatch"
name_of (ControlTotal which said reckoned) = codes "ControlTotal"
name_of (Count what said reckoned) = codes "Count"
name_of (SplitSum said reckoned) = codes "SplitSum"
name_of CutOff = codes "CutOff"
name_of TooMany = codes "TooMany"

-- The level of a total, behind a space (BAI2: account, group and file).
abbrev pub level_name : Level → List ℕ
level_name level.Account = codes " Account"
level_name level.Group = codes " Group"
level_name level.File = codes " File"

-- What a count is of, behind a space (BAI2 records 49, 98 and 99).
abbrev pub count_name : CountOf → List ℕ
count_name of.AccountRecords = codes " AccountRecords"
count_name of.GroupAccounts = codes " GroupAccounts"
count_name of.GroupRecords = codes " GroupRecords"
count_name of.FileGroups = codes " FileGroups"
count_name of.FileRecords = codes " FileRecords"

-- What is said and what is reckoned.
abbrev pub sums : ℤ → ℤ → List ℕ
sums said reckoned = codes " said " ++ signed_decimal said ++ codes " reckoned " ++ signed_decimal reckoned

-- What stands behind the name.
abbrev pub details : Bad → List ℕ
details (BalanceMismatch said reckoned) = sums said reckoned
details (ControlTotal which said reckoned) = level_name which ++ sums said reckoned
details (Count what said reckoned) = count_name what ++ sums said reckoned
details (SplitSum said reckoned) = sums said reckoned
details _ = []

-- The line of a fault.
abbrev pub fault_row : StatementFault → List ℕ
fault_row fault =
    codes "line " ++ decimal fault.line ++ codes ": " ++ name_of fault.bad ++ details fault.bad ++ 10 ∷ []

-- The rule that a broken statement file breaks, with what is wrong and where.
use Rattle.std.specs.Prelude.{ℕ, ℤ, List, [], ◌∷◌, codes}
use Rattle.serde_json.specs.Data.{Data, Members, string}
use Rattle.book_statement.specs.declared.bad.Bad.{Bad}
use Rattle.book_statement.specs.declared.bad.Bad.TheVariants.{NoStatement, FieldOrder, RecordOrder, FieldForm}
use Rattle.book_statement.specs.declared.bad.Bad.TheVariants.{DateForm, AmountForm, TooManyDecimals}
use Rattle.book_statement.specs.declared.bad.Bad.TheVariants.{UnknownCurrency, CurrencyDiffers, PageOrder, Version}
use Rattle.book_statement.specs.declared.bad.Bad.TheVariants.{GroupStatus, BalanceMismatch, ControlTotal, Count}
use Rattle.book_statement.specs.declared.bad.Bad.TheVariants.{SplitSum, CutOff, TooMany}
use Rattle.book_statement.specs.declared.count_of.CountOf.{CountOf}
use Rattle.book_statement.specs.declared.count_of.CountOf.TheVariants.{AccountRecords, GroupAccounts, GroupRecords}
use Rattle.book_statement.specs.declared.count_of.CountOf.TheVariants.{FileGroups, FileRecords}
use Rattle.book_statement.specs.declared.fault.StatementFault.{StatementFault}
use Rattle.book_statement.specs.declared.level.Level.{Level}
use Rattle.book_statement.specs.declared.level.Level.TheVariants.{Account, Group, File}
use Rattle.book_texts.specs.Fields.{broken}
use Rattle.book_texts.specs.Shown.{number_data, sum_data}

-- The word for what is wrong.
abbrev pub bad_word : Bad → List ℕ
bad_word NoStatement = codes "NoStatement"
bad_word FieldOrder = codes "FieldOrder"
bad_word RecordOrder = codes "RecordOrder"
bad_word FieldForm = codes "FieldForm"
bad_word DateForm = codes "DateForm"
bad_word AmountForm = codes "AmountForm"
bad_word TooManyDecimals = codes "TooManyDecimals"
bad_word UnknownCurrency = codes "UnknownCurrency"
bad_word CurrencyDiffers = codes "CurrencyDiffers"
bad_word PageOrder = codes "PageOrder"
bad_word Version = codes "Version"
bad_word GroupStatus = codes "GroupStatus"
bad_word (BalanceMismatch said reckoned) = codes "BalanceMismatch"
bad_word (ControlTotal level said reckoned) = codes "ControlTotal"
bad_word (Count what said reckoned) = codes "Count"
bad_word (SplitSum said reckoned) = codes "SplitSum"
bad_word CutOff = codes "CutOff"
bad_word TooMany = codes "TooMany"

-- The word for what a control total is the total of.
abbrev pub level_word : Level → List ℕ
level_word Account = codes "Account"
level_word Group = codes "Group"
level_word File = codes "File"

-- What a control total is the total of, by its word.
abbrev pub level_data : Level → Data
level_data level = string (level_word level)

-- The word for what a count counts.
abbrev pub count_word : CountOf → List ℕ
count_word AccountRecords = codes "AccountRecords"
count_word GroupAccounts = codes "GroupAccounts"
count_word GroupRecords = codes "GroupRecords"
count_word FileGroups = codes "FileGroups"
count_word FileRecords = codes "FileRecords"

-- What a count counts, by its word.
abbrev pub count_data : CountOf → Data
count_data what = string (count_word what)

-- What the file says, and what its other parts give.
abbrev pub sums : ℤ → ℤ → List (List ℕ × Data)
sums said reckoned = (codes "said", sum_data said) ∷ (codes "reckoned", sum_data reckoned) ∷ []

-- The fields of what is wrong.
abbrev pub bad_members : Bad → List (List ℕ × Data)
bad_members (BalanceMismatch said reckoned) = sums said reckoned
bad_members (ControlTotal level said reckoned) = (codes "level", level_data level) ∷ sums said reckoned
bad_members (Count what said reckoned) = (codes "what", count_data what) ∷ sums said reckoned
bad_members (SplitSum said reckoned) = sums said reckoned
bad_members _ = []

-- What is wrong, its line, and its fields, with the version, which stays.
abbrev pub bad_statement : StatementFault → ℕ → Members
bad_statement fault =
    broken (codes "BadStatement")
    ((codes "bad", string (bad_word fault.bad))
    ∷ (codes "line", number_data fault.line)
    ∷ bad_members fault.bad)

-- The security account on whose lots a report is asked.
use Rattle.std.specs.Prelude.{ℕ, if◌then◌else◌, Bool, false, List, Option, Some, None}
use Rattle.std.specs.Option.{option_map_or}
use Rattle.book_accounts.specs.Group.{is_security}
use Rattle.book_accounts.specs.declared.account.Account.{Account}
use Rattle.book_command.specs.declared.command.Report.{Report}
use Rattle.book_command.specs.declared.command.Report.TheVariants.{Gains, Lots}
use Rattle.book_command.specs.declared.command.What.{What}
use Rattle.book_command.specs.declared.command.What.TheVariants as what
use Rattle.book_commodity.specs.Table.{value_of}

-- Whether one of these accounts with a number is a security account.
abbrev pub is_security_in : List (ℕ × Account) → ℕ → Bool
is_security_in accounts number = option_map_or (λ found. is_security found.kind) (value_of number accounts) false

-- The account of whose lots a report is made, if it is a report on lots.
abbrev pub account_of_lots : Report → Option ℕ
account_of_lots (Lots account csv) = Some account
account_of_lots (Gains account from to) = Some account
account_of_lots _ = None

-- A number, where one of these accounts with it is a security account.
abbrev pub only_security : List (ℕ × Account) → Option ℕ → Option ℕ
only_security accounts None = None
only_security accounts (Some number) = if is_security_in accounts number then Some number else None

-- The security account, among these accounts, on whose lots a report is asked, if there is one.
abbrev pub lots_asked : List (ℕ × Account) → What → Option ℕ
lots_asked accounts (what.Report report) = only_security accounts (account_of_lots report)
lots_asked accounts _ = None

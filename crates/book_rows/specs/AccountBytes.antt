-- The bytes of accounts.
use Rattle.std.specs.Prelude.{ℕ, Bool, List, [], ◌∷◌, ◌++◌, Option, IfSome}
use Rattle.book_codec.specs.Words.{number, flag, string, optional}
use Rattle.book_rows.specs.Values.{IsNumber, IsFlag, IsString}
use Rattle.book_accounts.specs.declared.kind.AccountKind.{AccountKind}
use Rattle.book_accounts.specs.declared.kind.AccountKind.TheVariants.{Root, Asset, Bank, Cash, Credit, Liability}
use Rattle.book_accounts.specs.declared.kind.AccountKind.TheVariants.{Stock, Mutual, Receivable, Payable, Income}
use Rattle.book_accounts.specs.declared.kind.AccountKind.TheVariants.{Expense, Equity}
use Rattle.book_accounts.specs.declared.account.Account.{Account}

-- The place of a kind of account in the list of them, from 1.
abbrev pub place_of_account_kind : AccountKind → ℕ
place_of_account_kind Root = 1
place_of_account_kind Asset = 2
place_of_account_kind Bank = 3
place_of_account_kind Cash = 4
place_of_account_kind Credit = 5
place_of_account_kind Liability = 6
place_of_account_kind Stock = 7
place_of_account_kind Mutual = 8
place_of_account_kind Receivable = 9
place_of_account_kind Payable = 10
place_of_account_kind Income = 11
place_of_account_kind Expense = 12
place_of_account_kind Equity = 13

-- A kind of account as one byte, its place.
abbrev pub account_kind_bytes : AccountKind → List ℕ
account_kind_bytes variant = place_of_account_kind variant ∷ []

-- Each kind of account has a spelling.
abbrev pub IsAccountKind : AccountKind → Type 0
IsAccountKind variant = Unit {0}

-- The bytes of the fields from `code` on.
abbrev pub account_rest : Account → List ℕ
account_rest it =
    string it.code ++ (string it.note ++ (flag it.hidden ++ (flag it.placeholder ++ optional number it.basis)))

-- The fields from `code` on have a spelling.
abbrev pub IsAccountRest : Account → Type 0
IsAccountRest it =
    IsString it.code × (IsString it.note × (IsFlag it.hidden × (IsFlag it.placeholder × IfSome it.basis IsNumber)))

-- An account: its name, its kind, its commodity, its parent, its code, its note, whether it is hidden, whether it is a
-- placeholder, and its basis.
abbrev pub account_bytes : Account → List ℕ
account_bytes it =
    string it.name ++ (account_kind_bytes it.kind ++ (number it.commodity ++ (optional number it.parent
    ++ account_rest it)))

-- An account that has a spelling: its texts are UTF-8, and its numbers are of 64 bits.
abbrev pub IsAccount : Account → Type 0
IsAccount it =
    IsString it.name × (IsAccountKind it.kind × (IsNumber it.commodity × (IfSome it.parent IsNumber
    × IsAccountRest it)))

-- The account whose fields these are, in the order of its bytes.
abbrev pub account_made : (List ℕ × (AccountKind × (ℕ × (Option ℕ × (List ℕ × (List ℕ × (Bool × (Bool
    × Option ℕ)))))))) → Account
account_made fields =
    record {
      name = fields.0;
      kind = fields.1.0;
      commodity = fields.1.1.0;
      parent = fields.1.1.1.0;
      code = fields.1.1.1.1.0;
      note = fields.1.1.1.1.1.0;
      hidden = fields.1.1.1.1.1.1.0;
      placeholder = fields.1.1.1.1.1.1.1.0;
      basis = fields.1.1.1.1.1.1.1.1;
    }

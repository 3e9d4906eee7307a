-- The words of the kinds of accounts.
use Rattle.std.specs.Prelude.{ℕ, List, [], ◌∷◌, codes}
use Rattle.book_accounts.specs.declared.kind.AccountKind.{AccountKind}
use Rattle.book_accounts.specs.declared.kind.AccountKind.TheVariants.{Root, Asset, Bank, Cash, Credit, Liability}
use Rattle.book_accounts.specs.declared.kind.AccountKind.TheVariants.{Stock, Mutual, Receivable, Payable, Income}
use Rattle.book_accounts.specs.declared.kind.AccountKind.TheVariants.{Expense, Equity}
use Rattle.book_json.specs.Members.{Form}
use Rattle.book_json.specs.Forms.{among}

-- The words of the kinds of accounts.
abbrev pub account_kinds : List (List ℕ × AccountKind)
account_kinds =
    (codes "ROOT", Root)
    ∷ (codes "ASSET", Asset)
    ∷ (codes "BANK", Bank)
    ∷ (codes "CASH", Cash)
    ∷ (codes "CREDIT", Credit)
    ∷ (codes "LIABILITY", Liability)
    ∷ (codes "STOCK", Stock)
    ∷ (codes "MUTUAL", Mutual)
    ∷ (codes "RECEIVABLE", Receivable)
    ∷ (codes "PAYABLE", Payable)
    ∷ (codes "INCOME", Income)
    ∷ (codes "EXPENSE", Expense)
    ∷ (codes "EQUITY", Equity)
    ∷ []

-- The text of a kind's word.
unfoldable pub kind_form : Form AccountKind
kind_form = among account_kinds

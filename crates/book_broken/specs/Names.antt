-- What the tests of each kind are called, in the order of these tests.
use Rattle.std.specs.Prelude.{ℕ, not, Bool, List, [], ◌∷◌, Option, Some, None}
use Rattle.book_commodity.specs.Rules.{first_broken, stands_before}
use Rattle.book_commodity.specs.declared.commodity.Commodity.{Commodity}
use Rattle.book_commodity.specs.declared.kind.Kind.TheVariants as kind
use Rattle.book_accounts.specs.declared.account.Account.{Account}
use Rattle.book_splits.specs.Check.{txn_rules}
use Rattle.book_splits.specs.TransactionRules.{are_once, numbers_of, share_numbers}
use Rattle.book_splits.specs.declared.reconciliation.Recon.{Recon}
use Rattle.book_splits.specs.declared.rule.TxnRule.{TxnRule}
use Rattle.book_splits.specs.declared.transaction.Txn.{Txn}
use Rattle.book_splits.specs.declared.void.Void.{Void}
use Rattle.book_undo.specs.declared.schedule.Schedule.{Schedule}
use Rattle.book_void.specs.Voiding.{keeps_as_many, restored}
use Rattle.book_sound.specs.MarkedTransactionRules.{are_rightly_marked}
use Rattle.book_sound.specs.Tests.{passes_check}
use Rattle.book_broken.specs.declared.rule.BrokenRule.{BrokenRule}
use Rattle.book_broken.specs.declared.rule.BrokenRule.TheVariants as rule

-- Those of `head_rules`.
abbrev pub book_names : List BrokenRule
book_names =
    rule.CurrencyIsNone ∷ rule.NoRoot ∷ rule.NumberNotDrawn kind.Commodity ∷ rule.NumberNotDrawn kind.Account
    ∷ rule.NumberNotDrawn kind.Transaction ∷ rule.NumberNotDrawn kind.Price ∷ rule.NumberNotDrawn kind.Schedule
    ∷ rule.NumberNotDrawn kind.Statement ∷ rule.NumberNotDrawn kind.Line ∷ rule.NumberNotDrawn kind.Binding
    ∷ rule.NumberNotDrawn kind.Reconciliation ∷ rule.NumberNotDrawn kind.Split ∷ rule.MarkedNotDrawn
    ∷ rule.MadeNotDrawn ∷ []

-- The same behind those of the head's own counts.
abbrev pub head_names : List BrokenRule
head_names = rule.PositionAboveVersion ∷ rule.StepCounts ∷ book_names

-- Those of `commodity_rules`.
abbrev pub commodity_names : List BrokenRule
commodity_names = rule.SameCommodity ∷ rule.Fraction ∷ []

-- Those of `account_rules`.
abbrev pub account_names : List BrokenRule
account_names =
    rule.UnknownCommodity ∷ rule.Basis ∷ rule.Parent ∷ rule.RootTakesSplits ∷ rule.SecondRoot ∷ rule.ParentKind
    ∷ rule.SameName ∷ rule.NotUnderRoot ∷ []

-- The name of the check of transactions, which is the rule that it reports.
abbrev pub name_of_check : Option TxnRule → BrokenRule
name_of_check (Some broken) = rule.Transaction broken
name_of_check None = rule.TooMany

-- The same for a transaction among these commodities and accounts.
abbrev pub check_name : List (ℕ × Commodity) → List (ℕ × Account) → Txn → BrokenRule
check_name commodities accounts transaction = name_of_check (first_broken (txn_rules commodities accounts transaction))

-- The name of that check where a transaction is asked as it would be brought back: it says so where it is voided.
abbrev pub name_of_restored : Option Void → Option TxnRule → BrokenRule
name_of_restored None broken = name_of_check broken
name_of_restored (Some void) None = rule.TooMany
name_of_restored (Some void) (Some broken) = rule.Restored broken

-- The rules of a transaction in the order in which their names are told: whether it can be brought back comes before
-- what it is then.
abbrev pub told_rules :
    List (ℕ × Commodity) → List (ℕ × Account) → List (ℕ × Recon) → List (ℕ × Txn) → ℕ → Txn → List Bool
told_rules commodities accounts reconciliations transactions number transaction =
    keeps_as_many transaction.voided transaction.splits
    ∷ passes_check commodities accounts (restored transaction)
    ∷ are_once (numbers_of transaction.splits)
    ∷ not (stands_before (share_numbers transaction) number transactions)
    ∷ are_rightly_marked reconciliations transaction.voided transaction.splits
    ∷ []

-- The names of `told_rules`.
abbrev pub transaction_names : List (ℕ × Commodity) → List (ℕ × Account) → Txn → List BrokenRule
transaction_names commodities accounts transaction =
    rule.Kept
    ∷ name_of_restored transaction.voided (first_broken (txn_rules commodities accounts (restored transaction)))
    ∷ rule.SplitTwice ∷ rule.SplitElsewhere ∷ rule.Mark ∷ []

-- Those of `price_rules`.
abbrev pub price_names : List BrokenRule
price_names = rule.UnknownCommodity ∷ rule.CurrencyIsNone ∷ rule.Ratio ∷ rule.OneCommodity ∷ rule.SameDay ∷ []

-- Those of `schedule_rules`.
abbrev pub schedule_names : List (ℕ × Commodity) → List (ℕ × Account) → Schedule → List BrokenRule
schedule_names commodities accounts schedule =
    rule.Multiplier ∷ rule.RecurrenceCount ∷ rule.NoOccurrence ∷ rule.Advance
    ∷ check_name commodities accounts schedule.template ∷ rule.TemplateSplit
    ∷ rule.TemplateVoided ∷ []

-- Those of `statement_rules`.
abbrev pub statement_names : List BrokenRule
statement_names = rule.UnknownAccount ∷ rule.SameStatement ∷ []

-- Those of `line_rules`.
abbrev pub line_names : List BrokenRule
line_names =
    rule.UnknownAccount ∷ rule.UnknownStatement ∷ rule.Amount ∷ rule.SameKey ∷ rule.MatchedSplit ∷ rule.MatchedTwice
    ∷ []

-- Those of `binding_rules`.
abbrev pub binding_names : List BrokenRule
binding_names = rule.SameText ∷ rule.AccountTakesNone ∷ []

-- Those of `reconciliation_rules`.
abbrev pub reconciliation_names : List BrokenRule
reconciliation_names = rule.UnknownAccount ∷ rule.MarkedTwice ∷ rule.NotClosed ∷ []

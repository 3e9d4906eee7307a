-- What is said of a broken rule, behind a colon. Each line ends by a line feed.
use Rattle.std.specs.Prelude.{ℕ, List, ◌++◌, codes}
use Rattle.book_commodity.specs.declared.kind.Kind.{Kind}
use Rattle.book_commodity.specs.declared.kind.Kind.TheVariants as kind
use Rattle.book_splits.specs.declared.rule.TxnRule.{TxnRule}
use Rattle.book_splits.specs.declared.rule.TxnRule.TheVariants as broken
use Rattle.book_broken.specs.declared.rule.BrokenRule.{BrokenRule}
use Rattle.book_broken.specs.declared.rule.BrokenRule.TheVariants as rule

-- That the number of a thing of a kind isn't drawn yet.
unfoldable pub number_words : Kind → List ℕ
number_words kind.Commodity = codes "the number of a commodity is not below the next number.\n"
number_words kind.Account = codes "the number of an account is not below the next number.\n"
number_words kind.Transaction = codes "the number of a transaction is not below the next number.\n"
number_words kind.Split = codes "the number of a split is not below the next number.\n"
number_words kind.Price = codes "the number of a price is not below the next number.\n"
number_words kind.Schedule = codes "the number of a schedule is not below the next number.\n"
number_words kind.Statement = codes "the number of a statement is not below the next number.\n"
number_words kind.Line = codes "the number of a line is not below the next number.\n"
number_words kind.Binding = codes "the number of a binding is not below the next number.\n"
number_words kind.Reconciliation = codes "the number of a reconciliation is not below the next number.\n"

-- That a transaction, or a template, breaks a rule of transactions.
unfoldable pub transaction_words : TxnRule → List ℕ
transaction_words (broken.SplitCount count) =
    codes "it has no split, or more than 500.\n"
transaction_words (broken.Unknown kind id) =
    codes "its currency or the account of one of its splits is not in the book.\n"
transaction_words (broken.WrongCurrency commodity) =
    codes "its currency is no currency.\n"
transaction_words (broken.Placeholder account) =
    codes "one of its splits is on an account that takes none.\n"
transaction_words (broken.Limit which at) =
    codes "the value or the quantity of one of its splits is above 10,000,000,000,000 in size.\n"
transaction_words (broken.Basis account) =
    codes "one of its splits is on a security account whose basis is not its currency.\n"
transaction_words (broken.ValueNotQuantity place) =
    codes "one of its splits is on an account in its currency, and its value is not its quantity.\n"
transaction_words (broken.Unbalanced sum) =
    codes "the values of its splits do not sum to zero.\n"

-- That a voided transaction, as it would be brought back, breaks a rule of transactions.
unfoldable pub restored_words : TxnRule → List ℕ
restored_words (broken.SplitCount count) =
    codes "as it would be brought back, it has no split, or more than 500.\n"
restored_words (broken.Unknown kind id) =
    codes "as it would be brought back, its currency or the account of one of its splits is not in the book.\n"
restored_words (broken.WrongCurrency commodity) =
    codes "as it would be brought back, its currency is no currency.\n"
restored_words (broken.Placeholder account) =
    codes "as it would be brought back, one of its splits is on an account that takes none.\n"
restored_words (broken.Limit which at) =
    codes "as it would be brought back, the value or the quantity of one of its splits is above 10,000,000,000,000 in size.\n"
restored_words (broken.Basis account) =
    codes "as it would be brought back, one of its splits is on a security account whose basis is not its currency.\n"
restored_words (broken.ValueNotQuantity place) =
    codes "as it would be brought back, one of its splits is on an account in its currency, and its value is not its quantity.\n"
restored_words (broken.Unbalanced sum) =
    codes "as it would be brought back, the values of its splits do not sum to zero.\n"

-- The words on a rule.
unfoldable pub words_on : BrokenRule → List ℕ
words_on rule.PositionAboveVersion =
    codes "its position is above its version.\n"
words_on rule.StepCounts =
    codes "it counts more steps before than its position, or more than 256 steps in all.\n"
words_on rule.CurrencyIsNone =
    codes "its currency is not in the book, or is no currency.\n"
words_on rule.NoRoot =
    codes "no account is the root.\n"
words_on (rule.NumberNotDrawn kind) = number_words kind
words_on rule.MarkedNotDrawn =
    codes "the number of a marked split is not below the next number.\n"
words_on rule.MadeNotDrawn =
    codes "the number made of a schedule is not below the next number.\n"
words_on rule.SameCommodity =
    codes "another commodity has its space and its name.\n"
words_on rule.Fraction =
    codes "its fraction is not from 1 to 1,000,000,000.\n"
words_on rule.UnknownCommodity =
    codes "its commodity is not in the book.\n"
words_on rule.Basis =
    codes "it is a security account without a currency as its basis, or another account with a basis.\n"
words_on rule.Parent =
    codes "it has no parent and is not the root, or is a root and has a parent.\n"
words_on rule.RootTakesSplits =
    codes "it is a root, and takes splits.\n"
words_on rule.SecondRoot =
    codes "it is a root, and another account is the root.\n"
words_on rule.ParentKind =
    codes "its parent is not in the book, or is of a kind that may not be above it.\n"
words_on rule.SameName =
    codes "another account under the same parent has its name.\n"
words_on rule.NotUnderRoot =
    codes "its parents do not lead up to the root.\n"
words_on (rule.Transaction broken) = transaction_words broken
words_on (rule.Restored broken) = restored_words broken
words_on rule.SplitTwice =
    codes "two of its splits have the same number.\n"
words_on rule.SplitElsewhere =
    codes "a split of another transaction has the number of one of its splits.\n"
words_on rule.Mark =
    codes "one of its splits is reconciled, and no reconciliation of its account has marked it so;\n"
    ++ (codes "or it is not reconciled, and names a reconciliation; or it is voided, and the transaction is not;\n"
    ++ (codes "or the transaction is voided, and the split is not, or has amounts or a reconciliation.\n"))
words_on rule.Kept =
    codes "it is voided, and what is kept is not one value and one quantity for each of its splits.\n"
words_on rule.Ratio =
    codes "its num or its denom is not from 1 to 1,000,000,000.\n"
words_on rule.OneCommodity =
    codes "its commodity is its currency.\n"
words_on rule.SameDay =
    codes "another price has its commodity, its currency and its day.\n"
words_on rule.Multiplier =
    codes "one of its recurrences is not every 1 to 10,000.\n"
words_on rule.RecurrenceCount =
    codes "it has no recurrence, or more than 12.\n"
words_on rule.NoOccurrence =
    codes "it ends after no occurrence.\n"
words_on rule.Advance =
    codes "it is made more than 366 days in advance.\n"
words_on rule.TemplateSplit =
    codes "a split of its template has a number, is not new, or names a reconciliation.\n"
words_on rule.TemplateVoided =
    codes "its template is voided.\n"
words_on rule.UnknownAccount =
    codes "its account is not in the book.\n"
words_on rule.SameStatement =
    codes "another statement is equal to it in all fields.\n"
words_on rule.UnknownStatement =
    codes "its statement is not in the book.\n"
words_on rule.Amount =
    codes "its amount is above 1,000,000,000,000 in size.\n"
words_on rule.SameKey =
    codes "another line has its key: its account, day, amount, type, references, text and ordinal.\n"
words_on rule.MatchedSplit =
    codes "the split that it is matched with is not in the book, has another account or quantity, or is voided.\n"
words_on rule.MatchedTwice =
    codes "another line is matched with the same split.\n"
words_on rule.SameText =
    codes "another binding has its text.\n"
words_on rule.AccountTakesNone =
    codes "its account is not in the book, or takes no splits.\n"
words_on rule.MarkedTwice =
    codes "a split stands twice in its list.\n"
words_on rule.NotClosed =
    codes "its opening balance and the marked quantities do not sum to its closing balance.\n"
words_on rule.StepBack =
    codes "from the book after it the step back can't be taken, or leads to a book that is not sound.\n"
words_on rule.StepForth =
    codes "from the book before it the step forth can't be taken, or leads to a book that is not sound.\n"
words_on rule.TooMany =
    codes "a book has no more of its kind, or no more splits, than stand before it.\n"

-- The words of commands, for kinds of things and for what has a limit.
use Rattle.std.specs.Prelude.{ℕ, List, [], ◌∷◌, codes}
use denote.Enum.Bare.{sameb}
use Rattle.serde_json.specs.Data.{Data, string}
use Rattle.book_commodity.specs.declared.counted.Counted.{Counted}
use Rattle.book_commodity.specs.declared.counted.Counted.TheVariants.{Amount, Transactions, Splits, Accounts}
use Rattle.book_commodity.specs.declared.counted.Counted.TheVariants.{Commodities, Prices, Schedules, Lines}
use Rattle.book_commodity.specs.declared.counted.Counted.TheVariants.{Statements, Bindings, Recons, Days, Window}
use Rattle.book_commodity.specs.declared.counted.Counted.TheVariants.{Numbers}
use Rattle.book_commodity.specs.declared.kind.Kind.{Kind}
use Rattle.book_commodity.specs.declared.kind.Kind.TheVariants.{Commodity, Account, Transaction, Split, Price}
use Rattle.book_commodity.specs.declared.kind.Kind.TheVariants.{Schedule, Statement, Line, Binding, Reconciliation}
use Rattle.book_commodity.specs.contracts.counted.Counted as counted
use Rattle.book_commodity.specs.contracts.kind.Kind as kind
use Rattle.book_json.specs.Words.{word_of}
use Rattle.book_command.specs.Words.{words}
use Rattle.book_command.specs.declared.word.Word.{Word}
use Rattle.book_command.specs.contracts.word.Word as command

-- The text of a command's word; two words are one where they have one name.
unfoldable pub word_text : Word → List ℕ
word_text = word_of (sameb command.the_type) words

-- The words for kinds of things.
abbrev pub kinds : List (List ℕ × Kind)
kinds =
    (codes "commodity", Commodity)
    ∷ (codes "account", Account)
    ∷ (codes "transaction", Transaction)
    ∷ (codes "split", Split)
    ∷ (codes "price", Price)
    ∷ (codes "schedule", Schedule)
    ∷ (codes "statement", Statement)
    ∷ (codes "line", Line)
    ∷ (codes "binding", Binding)
    ∷ (codes "reconciliation", Reconciliation)
    ∷ []

-- The word for a kind of thing; two kinds are one where they have one name.
unfoldable pub kind_word : Kind → List ℕ
kind_word = word_of (sameb kind.the_type) kinds

-- A kind of thing, by its word.
abbrev pub kind_data : Kind → Data
kind_data kind = string (kind_word kind)

-- The words for what has a limit.
abbrev pub limits : List (List ℕ × Counted)
limits =
    (codes "amount", Amount)
    ∷ (codes "transactions", Transactions)
    ∷ (codes "splits", Splits)
    ∷ (codes "accounts", Accounts)
    ∷ (codes "commodities", Commodities)
    ∷ (codes "prices", Prices)
    ∷ (codes "schedules", Schedules)
    ∷ (codes "lines", Lines)
    ∷ (codes "statements", Statements)
    ∷ (codes "bindings", Bindings)
    ∷ (codes "recons", Recons)
    ∷ (codes "days", Days)
    ∷ (codes "window", Window)
    ∷ (codes "numbers", Numbers)
    ∷ []

-- The word for what has a limit.
unfoldable pub limit_word : Counted → List ℕ
limit_word = word_of (sameb counted.the_type) limits

-- What has a limit, by its word.
abbrev pub limit_data : Counted → Data
limit_data which = string (limit_word which)

-- Rules of the tree and of transactions, as rules of commands.
use Rattle.book_commodity.specs.declared.kind.Kind.TheVariants as kind
use Rattle.book_accounts.specs.declared.rule.TreeRule.{TreeRule}
use Rattle.book_accounts.specs.declared.rule.TreeRule.TheVariants as tree
use Rattle.book_splits.specs.declared.rule.TxnRule.{TxnRule}
use Rattle.book_splits.specs.declared.rule.TxnRule.TheVariants as transaction
use Rattle.book_command.specs.declared.rule.Rule.{Rule}
use Rattle.book_command.specs.declared.rule.Rule.TheVariants.{Unknown, NameTaken, Cycle, ParentKind, SplitCount}
use Rattle.book_command.specs.declared.rule.Rule.TheVariants.{WrongCurrency, Placeholder, Limit, Basis}
use Rattle.book_command.specs.declared.rule.Rule.TheVariants.{ValueNotQuantity, Unbalanced}

-- A rule of the tree has the same name and the same fields.
abbrev pub of_tree_rule : TreeRule → Rule
of_tree_rule (tree.UnknownAccount id) = Unknown kind.Account id
of_tree_rule (tree.NameTaken id) = NameTaken id
of_tree_rule tree.Cycle = Cycle
of_tree_rule tree.ParentKind = ParentKind

-- So has a rule of transactions.
abbrev pub of_txn_rule : TxnRule → Rule
of_txn_rule (transaction.SplitCount count) = SplitCount count
of_txn_rule (transaction.Unknown kind id) = Unknown kind id
of_txn_rule (transaction.WrongCurrency commodity) = WrongCurrency commodity
of_txn_rule (transaction.Placeholder account) = Placeholder account
of_txn_rule (transaction.Limit which at) = Limit which at
of_txn_rule (transaction.Basis account) = Basis account
of_txn_rule (transaction.ValueNotQuantity place) = ValueNotQuantity place
of_txn_rule (transaction.Unbalanced sum) = Unbalanced sum

-- The splits that an index has for an account, as they are matched.
use Rattle.std.specs.Prelude.{ℕ, ◌==◌, Bool, List, [], filter, map, Option, option_map, unwrap_or}
use Rattle.std.specs.List.{find}
use Rattle.book_splits.specs.TransactionRules.{is_among, numbers_of}
use Rattle.book_splits.specs.declared.transaction.Txn.{Txn}
use Rattle.book_match.specs.declared.free.Free.{Free}
use Rattle.book_match.specs.declared.views.SplitView.{SplitView}

-- Whether a transaction has the split with a number.
abbrev pub has_split : ℕ → ℕ × Txn → Bool
has_split split entry = is_among (numbers_of entry.1.splits) split

-- The number text of the transaction that has the split with a number; none where no transaction has it.
abbrev pub num_of : ℕ → List (ℕ × Txn) → Option (List ℕ)
num_of split transactions = option_map (λ entry. entry.1.num) (find (has_split split) transactions)

-- A split of the index as it is matched: with the number text of its transaction; empty, where no transaction has it.
abbrev pub view_of : List (ℕ × Txn) → Free → SplitView
view_of transactions free = record {
  split = free.split;
  day = free.day;
  quantity = free.amount;
  num = unwrap_or (num_of free.split transactions) [];
}

-- The splits that the index has for an account, as they are matched.
abbrev pub views_on : ℕ → List Free → List (ℕ × Txn) → List SplitView
views_on account entries transactions =
    map (view_of transactions) (filter (λ entry. entry.account == account) entries)

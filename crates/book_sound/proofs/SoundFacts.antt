-- What follows from the rules that the things of a sound book keep.
use Rattle.std.proofs.Common.{◌≡◌, ℕ, ◌^◌, ◌&&◌, nat_lt, Bool, true, false, List, [], ◌∷◌, Some}
use Rattle.std.proofs.Common.{◌*◌, ◌≤◌, ℤ, pos, negsuc, ◌-ℤ◌, ◌≤ℤ◌, unsigned_abs, All, length, map, filter, not, refl}
use Rattle.std.proofs.Common.{sym, ap, ◌∙◌, arith}
use Rattle.std.proofs.lemmas.Bool.{and_parts, not-true, or_parts}
use Rattle.std.proofs.lemmas.Bool.Decides.{nat_tests}
use Rattle.std.proofs.lemmas.Int.{ints}
use Rattle.std.proofs.lemmas.List.{length-map}
use Rattle.std.proofs.lemmas.List.Elements.{All-append, All-filter, All-head, All-map, All-nil, All-tail, All-weaker}
use Rattle.std.proofs.lemmas.List.Filters.{length-filter_both}
use Rattle.book_commodity.specs.Rules.{IsSoundTable, stands_before}
use Rattle.book_commodity.specs.Table.{Rises, value_of}
use Rattle.book_commodity.specs.declared.commodity.Commodity.{Commodity}
use Rattle.book_accounts.specs.Soundness.{IsTree}
use Rattle.book_accounts.specs.Tree.{IsRooted}
use Rattle.book_accounts.proofs.RootLemmas.{rooted_of, tree_of}
use Rattle.book_limits.specs.Limits.{largest_split_amount, largest_sum}
use Rattle.book_splits.specs.Balance.{splits_of, total}
use Rattle.book_splits.specs.Check as transaction
use Rattle.book_splits.specs.declared.split.Split.{Split}
use Rattle.book_splits.specs.declared.transaction.Txn.{Txn}
use Rattle.book_splits.proofs.CheckLemmas.{sound_of}
use Rattle.book_splits.proofs.TransactionRuleLemmas.{is_none_of}
use Rattle.book_void.specs.Voiding.{restored}
use Rattle.book_prices.specs.Rate.{AreKept, AreOnce, IsSound, is_same}
use Rattle.book_prices.specs.declared.price.Price.{Price}
use Rattle.book_undo.specs.Book.{Book, IsRising}
use Rattle.book_sound.specs.PriceRules.{price_rules}
use Rattle.book_sound.specs.Soundness.{IsSoundBook}
use Rattle.book_sound.specs.Tests.{is_within}
use Rattle.book_sound.proofs.OwnFrames.{all_of_each}
use Rattle.book_sound.proofs.SplitFrames.{above_there}
use Rattle.book_sound.proofs.VoidFrames.{sound_as_restored}

-- The numbers of each table of a sound book rise.
pub tables_rise : (book : Book) → IsSoundBook book → IsRising book
tables_rise book is = record {
  commodities = is.commodities.rise;
  accounts = is.accounts.rise;
  transactions = is.transactions.rise;
  prices = is.prices.rise;
  schedules = is.schedules.rise;
  statements = is.statements.rise;
  lines = is.lines.rise;
  bindings = is.bindings.rise;
  reconciliations = is.reconciliations.rise;
}

-- The accounts of a sound book form one tree.
pub accounts_are_one_tree : (book : Book) → IsSoundBook book → IsTree book.accounts
accounts_are_one_tree book is = tree_of book.commodities book.accounts is.accounts.rise is.accounts.keep

-- Each of them has a way up.
pub accounts_are_rooted : (book : Book) → IsSoundBook book → IsRooted book.accounts
accounts_are_rooted book is = rooted_of book.commodities book.accounts is.accounts.rise is.accounts.keep

-- Each transaction of a sound book has 1 to 500 splits, whose values sum to zero and whose amounts are within the
-- limit.
pub transactions_balance :
    (book : Book) (n : ℕ) (t : Txn) → IsSoundBook book → value_of n book.transactions ≡ Some t
    → transaction.IsSound t.splits
transactions_balance book n t is there =
    let kept = is.transactions.keep.each n t there in
    let restored_sound = sound_of book.commodities book.accounts (restored t) (is_none_of _ kept.0) in
    sound_as_restored book.reconciliations t restored_sound kept.1.1.1.0 kept.1.1.1.1.0

-- ---- sums

-- An amount is at most so much in size.
abbrev pub IsAtMost : ℕ → ℤ → Type 0
IsAtMost most amount = ((pos 0 -ℤ pos most) ≤ℤ amount) × (amount ≤ℤ pos most)

most_of_size : (most : ℕ) (amount : ℤ) → unsigned_abs amount ≤ most → IsAtMost most amount
most_of_size most (pos n) small = (omega (arith, ints, small), omega (arith, ints, small))
most_of_size most (negsuc n) small = (omega (arith, ints, small), omega (arith, ints, small))

-- The sum of some amounts that are as small as those of splits.
pub sum_is_small :
    (amounts : List ℤ) → All (λ (a : ℤ). unsigned_abs a ≤ largest_split_amount) amounts
    → IsAtMost (largest_split_amount * length amounts) (total amounts)
sum_is_small [] small = (omega (arith, ints), omega (arith, ints))
sum_is_small (a ∷ amounts) small =
    let Small : ℤ → Type 0 = λ x. unsigned_abs x ≤ largest_split_amount in
    let first = most_of_size largest_split_amount a (All-head Small a amounts small) in
    let rest = sum_is_small amounts (All-tail Small a amounts small) in
    (omega (arith, ints, first.0, rest.0), omega (arith, ints, first.1, rest.1))

all_splits_small :
    (ts : List (ℕ × Txn)) → All (λ (e : ℕ × Txn). All transaction.HasAmounts e.1.splits) ts
    → All transaction.HasAmounts (splits_of ts)
all_splits_small [] all = All-nil transaction.HasAmounts
all_splits_small (e ∷ ts) all =
    let Small : ℕ × Txn → Type 0 = λ x. All transaction.HasAmounts x.1.splits in
    All-append transaction.HasAmounts e.1.splits (splits_of ts) (All-head Small e ts all)
    (all_splits_small ts (All-tail Small e ts all))

-- The amounts of each split of a sound book are within the limit.
pub amounts_are_small : (book : Book) → IsSoundBook book → All transaction.HasAmounts (splits_of book.transactions)
amounts_are_small book is =
    all_splits_small book.transactions
    (all_of_each (λ (e : ℕ × Txn). All transaction.HasAmounts e.1.splits) book.transactions is.transactions.rise
    (λ k t there. (transactions_balance book k t is there).amounts))

-- So the sum of the quantities of splits that pass a test, as of those on an account, is at most the largest
-- sum in size.
pub sums_are_small :
    (book : Book) (test : Split → Bool) → IsSoundBook book
    → IsAtMost largest_sum (total (map (λ (s : Split). s.quantity) (filter test (splits_of book.transactions))))
sums_are_small book test is =
    let splits = splits_of book.transactions in
    let Small : ℤ → Type 0 = λ a. unsigned_abs a ≤ largest_split_amount in
    let quantity : Split → ℤ = λ s. s.quantity in
    let picked = filter test splits in
    let kept = All-filter test transaction.HasAmounts splits (amounts_are_small book is) in
    let quantities = All-map Small quantity picked
    (All-weaker transaction.HasAmounts (λ (s : Split). Small s.quantity) (λ s small. small.1) picked kept) in
    let sum = sum_is_small (map quantity picked) quantities in
    let same : length (map quantity picked) ≡ length picked = length-map picked quantity in
    let fewer = length-filter_both test (λ s. not (test s)) (λ s. refl) splits in (
      omega (arith, ints, sum.0, same, fewer, is.few_splits),
      omega (arith, ints, sum.1, same, fewer, is.few_splits),
    )

-- ---- prices

-- a price of a later number is none of the pair and day of the first, nor of one between
apart_from_first :
    (first : ℕ × Price) (prices : List (ℕ × Price)) (k : ℕ) (x : Price) → Rises (first ∷ prices)
    → value_of k prices ≡ Some x
    → ((k : ℕ) (x : Price) → value_of k (first ∷ prices) ≡ Some x
    → stands_before (is_same x) k (first ∷ prices) ≡ false)
    → (is_same x first.1 ≡ false) × (stands_before (is_same x) k prices ≡ false)
apart_from_first first prices k x r there each =
    let past = above_there first.0 k x prices r.0 there in
    let found : value_of k (first ∷ prices) ≡ Some x = grind (arith, nat_tests, past, there) in
    let parts = or_parts (nat_lt first.0 k && is_same x first.1) (stands_before (is_same x) k prices)
    (each k x found) in
    let before : nat_lt first.0 k ≡ true = grind (arith, nat_tests, past) in
    (sym (ap (λ (b : Bool). b && is_same x first.1) before) ∙ parts.0, parts.1)

-- prices that have none of their pair and day before them are once for each
once_of :
    (prices : List (ℕ × Price)) → Rises prices
    → ((k : ℕ) (x : Price) → value_of k prices ≡ Some x → stands_before (is_same x) k prices ≡ false)
    → AreOnce prices
once_of [] r each = tt
once_of (e ∷ prices) r each = (
  all_of_each (λ (other : ℕ × Price). is_same other.1 e.1 ≡ false) prices r.1
      (λ k x there. (apart_from_first e prices k x r there each).0),
  once_of prices r.1 (λ k x there. (apart_from_first e prices k x r there each).1),
)

-- The prices of a sound book are those from which rates are reckoned.
pub prices_are_kept :
    (commodities : List (ℕ × Commodity)) (most : ℕ) (prices : List (ℕ × Price))
    → IsSoundTable (price_rules commodities prices) most prices → AreKept prices
prices_are_kept commodities most prices is =
    let ratio = λ (k : ℕ) (x : Price) (there : value_of k prices ≡ Some x). and_parts (is_within 1 (10 ^ 9) x.num)
    (is_within 1 (10 ^ 9) x.denom) (is.keep.each k x there).1.1.0 in (
      all_of_each (λ (e : ℕ × Price). IsSound e.1) prices is.rise
          (λ k x there.
          let num = not-true _ (ratio k x there).0 in
          let denom = not-true _ (ratio k x there).1 in (
            (grind (arith, nat_tests, num), grind (arith, nat_tests, num)),
            (grind (arith, nat_tests, denom), grind (arith, nat_tests, denom)),
          )),
      once_of prices is.rise (λ k x there. not-true _ (is.keep.each k x there).1.1.1.1.0),
    )

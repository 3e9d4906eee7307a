-- Which rule is broken, on a small book with one thing changed.
use Rattle.std.proofs.Common.{◌≡◌, ℕ, ℤ, pos, negsuc, Bool, true, false, List, [], ◌∷◌, Option, Some, None, codes, refl}
use Rattle.book_commodity.specs.declared.commodity.Commodity.{Commodity}
use Rattle.book_commodity.specs.declared.counted.Counted.TheVariants.{Amount}
use Rattle.book_commodity.specs.declared.kind.Kind.TheVariants as kind
use Rattle.book_accounts.specs.Tree.{nearest_parents}
use Rattle.book_accounts.specs.declared.account.Account.{Account}
use Rattle.book_accounts.specs.declared.kind.AccountKind.{AccountKind}
use Rattle.book_accounts.specs.declared.kind.AccountKind.TheVariants.{Root, Asset, Expense}
use Rattle.book_splits.specs.declared.rule.TxnRule.TheVariants as transaction
use Rattle.book_splits.specs.declared.split.Mark.TheVariants.{New, Voided}
use Rattle.book_splits.specs.declared.split.Split.{Split}
use Rattle.book_splits.specs.declared.transaction.Txn.{Txn}
use Rattle.book_splits.specs.declared.void.KeptSplit.{KeptSplit}
use Rattle.book_prices.specs.declared.price.Price.{Price}
use Rattle.book_undo.specs.Book.{Book}
use Rattle.book_opening.specs.State.{State}
use Rattle.book_broken.specs.Broken.{broken_at, broken_thing}
use Rattle.book_broken.specs.Words.{restored_words, transaction_words, words_on}
use Rattle.book_broken.specs.declared.rule.BrokenRule.{BrokenRule}
use Rattle.book_broken.specs.declared.rule.BrokenRule.TheVariants as rule

abbrev commodities : List (ℕ × Commodity)
commodities =
    (1, record { space = codes "CURRENCY"; name = codes "EUR"; full_name = []; fraction = 100 })
    ∷ (7, record { space = codes "NYSE"; name = codes "ACME"; full_name = []; fraction = 1 }) ∷ []

abbrev account : List ℕ → AccountKind → Option ℕ → Bool → Account
account name kind parent placeholder = record {
  name = name;
  kind = kind;
  commodity = 1;
  parent = parent;
  code = [];
  note = [];
  hidden = false;
  placeholder = placeholder;
  basis = None;
}

abbrev split : ℕ → ℕ → ℤ → Split
split id account value = record {
  id = id;
  account = account;
  memo = [];
  action = [];
  mark = New;
  recon = None;
  value = value;
  quantity = value;
}

abbrev txn : List Split → Txn
txn splits =
    record { currency = 1; day = pos 19723; num = []; description = []; splits = splits; voided = None }

abbrev rent : Txn
rent = txn (split 11 3 (negsuc 199) ∷ split 12 4 (pos 200) ∷ [])

abbrev price : Price
price = record { commodity = 7; currency = 1; day = pos 19723; num = 150; denom = 100 }

abbrev book : Book
book = record {
  commodities = commodities;
  accounts = (2, account (codes "Root") Root None true) ∷ (3, account (codes "Cash") Asset (Some 2) false)
      ∷ (4, account (codes "Rent") Expense (Some 2) false) ∷ [];
  transactions = (10, rent) ∷ [];
  prices = (8, price) ∷ [];
  schedules = [];
  statements = [];
  lines = [];
  bindings = [];
  reconciliations = [];
  currency = 1;
}

abbrev state : Book → State
state book = record {
  book = book;
  next = 20;
  version = 5;
  position = 5;
  past = 0;
  later = 0;
  back = [];
  forth = [];
}

-- The rule that a book breaks at the row of a kind and an id.
abbrev broken : Book → ℕ → ℕ → Option BrokenRule
broken changed kind id = broken_at (state changed) (record { kind = kind; id = id })

nothing_there : broken book 4 11 ≡ None
unfolding broken_at broken_thing
nothing_there = refl

values_sum_to_five :
    broken (record book { transactions = (10, txn (split 11 3 (negsuc 194) ∷ split 12 4 (pos 200) ∷ [])) ∷ [] }) 4 10
    ≡ Some (rule.Transaction (transaction.Unbalanced (pos 5)))
unfolding broken_at broken_thing
values_sum_to_five = refl

on_no_account :
    broken (record book { transactions = (10, txn (split 11 9 (pos 0) ∷ [])) ∷ [] }) 4 10
    ≡ Some (rule.Transaction (transaction.Unknown kind.Account 9))
unfolding broken_at broken_thing
on_no_account = refl

split_of_another_transaction :
    broken (record book { transactions = (10, rent) ∷ (13, rent) ∷ [] }) 4 13 ≡ Some rule.SplitElsewhere
unfolding broken_at broken_thing
split_of_another_transaction = refl

abbrev with_rent : Txn → Book
with_rent changed = record book { transactions = (10, changed) ∷ [] }

-- a voided split in a transaction of which nothing is kept, and a transaction of which something is
with_a_voided_split :
    broken (with_rent (txn (record (split 11 3 (pos 0)) { mark = Voided } ∷ split 12 4 (pos 0) ∷ []))) 4 10
    ≡ Some rule.Mark
unfolding broken_at broken_thing
with_a_voided_split = refl

abbrev keeping : List KeptSplit → Txn
keeping kept = record rent { voided = Some (record { reason = []; kept = kept }) }

nothing_kept : broken (with_rent (keeping [])) 4 10 ≡ Some rule.Kept
unfolding broken_at broken_thing
nothing_kept = refl

-- one cent is kept of the first split, and nothing of the other
kept_out_of_balance :
    broken
    (with_rent (keeping (record { value = pos 1; quantity = pos 1 } ∷ record { value = pos 0; quantity = pos 0 } ∷ []))) 4
    10
    ≡ Some (rule.Restored (transaction.Unbalanced (pos 1)))
unfolding broken_at broken_thing
kept_out_of_balance = refl

-- the amounts are kept, and the splits have theirs still
splits_not_voided :
    broken
    (with_rent (keeping (record { value = pos 0; quantity = pos 0 } ∷ record { value = pos 0; quantity = pos 0 } ∷ []))) 4
    10
    ≡ Some rule.Mark
unfolding broken_at broken_thing
splits_not_voided = refl

price_of_the_same_day : broken (record book { prices = (8, price) ∷ (9, price) ∷ [] }) 5 9 ≡ Some rule.SameDay
unfolding broken_at broken_thing
price_of_the_same_day = refl

price_in_a_share :
    broken (record book { prices = (8, record price { currency = 7 }) ∷ [] }) 5 8 ≡ Some rule.CurrencyIsNone
unfolding broken_at broken_thing
price_in_a_share = refl

own_parent :
    broken (record book {
      accounts = (2, account (codes "Root") Root None true)
          ∷ (6, account (codes "Cash") Asset (Some 6) false) ∷ [];
    }) 3 6
    ≡ Some rule.NotUnderRoot
unfolding broken_at broken_thing nearest_parents
own_parent = refl

price_not_drawn : broken (record book { prices = (20, price) ∷ [] }) 1 0 ≡ Some (rule.NumberNotDrawn kind.Price)
unfolding broken_at
price_not_drawn = refl

-- A price that keeps each rule is asked where it is past the limit.
price_past_the_limit : broken book 5 8 ≡ Some rule.TooMany
unfolding broken_at broken_thing
price_past_the_limit = refl

-- ---- words

at_the_limit :
    words_on (rule.Transaction (transaction.Limit Amount 10000000000000))
    ≡ codes "the value or the quantity of one of its splits is above 10,000,000,000,000 in size.\n"
unfolding words_on transaction_words
at_the_limit = refl

out_of_balance_when_brought_back :
    words_on (rule.Restored (transaction.Unbalanced (pos 1)))
    ≡ codes "as it would be brought back, the values of its splits do not sum to zero.\n"
unfolding words_on restored_words
out_of_balance_when_brought_back = refl

matched_with_a_voided_split :
    words_on rule.MatchedSplit
    ≡ codes "the split that it is matched with is not in the book, has another account or quantity, or is voided.\n"
unfolding words_on
matched_with_a_voided_split = refl

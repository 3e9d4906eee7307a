-- A change of one table leaves a book sound, where what is put keeps its rules and the rules that look at it are kept.
-- Which rules look at what of which table, besides those before it in their own:
--
--     rules of          commodities           accounts                transactions             others
--     a commodity
--     an account        its own, its basis    those above it
--     a transaction     its currency          those of its splits                              its reconciliations
--     a price           its own, its currency
--     a schedule        its currency          those of its template
--     a statement                             its own
--     a line                                  its own                 its split                its statement
--     a binding                               its own
--     a reconciliation                        its own
--     the book          its currency          the root                the count of splits
--
-- So a new commodity asks nothing of the others, since what was there stays; another account in the place of one asks
-- that the kinds stay, and that it takes splits as that did where it is in use; a new transaction asks that its splits
-- have numbers of their own; and where a transaction changes or goes, the lines that lose their splits are dismissed.
-- What is put into the other tables stands in BookChanges, and what only marks splits in MarkFrames.
use Rattle.std.proofs.Common.{◌≡◌, ℕ, ◌+◌, ◌≤◌, true, false, List, [], length, Some, None, IsTrue}
use Rattle.std.proofs.Common.{is_some, find, refl, ap, ◌∙◌, arith}
use Rattle.std.proofs.Math.ListN.{length-append}
use Rattle.std.proofs.lemmas.Bool.{not-true, or_left, or_right}
use Rattle.book_commodity.specs.CommodityRules.{has_fraction, has_same_pair}
use Rattle.book_commodity.specs.Currency.{is_currency_of}
use Rattle.book_commodity.specs.Table.{value_of, with_entry, without_entry}
use Rattle.book_commodity.specs.declared.commodity.Commodity.{Commodity}
use Rattle.book_commodity.proofs.CommodityRuleLemmas.{commodities_with, currency_stays}
use Rattle.book_commodity.proofs.DrawnLemmas.{drawn_free, length_drawn, length_left, stays_with, value_here}
use Rattle.book_commodity.proofs.TableLemmas.{rises_with, rises_without}
use Rattle.book_accounts.specs.AccountRules.{is_root}
use Rattle.book_accounts.specs.Tree.{children_of}
use Rattle.book_accounts.specs.declared.account.Account.{Account}
use Rattle.book_accounts.proofs.AccountRuleLemmas as accounts
use Rattle.book_accounts.proofs.AccountRuleLemmas.{accounts_beside}
use Rattle.book_accounts.proofs.RootLemmas.{rooted_of}
use Rattle.book_splits.specs.Balance.{has_splits, splits_of}
use Rattle.book_splits.specs.TransactionRules.{numbers_of}
use Rattle.book_splits.specs.declared.transaction.Txn.{Txn}
use Rattle.book_splits.proofs.BalanceLemmas.{splits_last}
use Rattle.book_splits.proofs.CountLemmas.{splits-without}
use Rattle.book_splits.proofs.SuitsLemmas.{suits_stays}
use Rattle.book_splits.proofs.TransactionRuleLemmas.{Suits, TakesAs}
use Rattle.book_undo.specs.Book.{Book}
use Rattle.book_sound.specs.Dismissal.{lines_after}
use Rattle.book_sound.specs.Naming.{binding_names, has_thing, is_in_use, line_names, reconciliation_names}
use Rattle.book_sound.specs.Naming.{schedule_names, statement_names}
use Rattle.book_sound.specs.Soundness.{IsSoundBook, AreDrawn}
use Rattle.book_sound.proofs.DismissalFrames.{IsReplaced, lines_left, lines_replaced}
use Rattle.book_sound.proofs.LineFrames.{lines_on, lines_posted}
use Rattle.book_sound.proofs.PriceFrames.{prices_beside}
use Rattle.book_sound.proofs.ScheduleFrames.{schedules_beside, schedules_on}
use Rattle.book_sound.proofs.StatementFrames.{bindings_on, reconciliations_on, statements_on}
use Rattle.book_sound.proofs.TableFrames.{suits_dropped, suits_edited}
use Rattle.book_sound.proofs.TransactionFrames as transaction
use Rattle.book_sound.proofs.TransactionFrames.{transactions_beside, transactions_dropped, transactions_on}
use Rattle.book_sound.proofs.TransactionFrames.{transactions_posted, transactions_replaced}

-- ---- another currency of the book

pub currency_set :
    (book : Book) (n : ℕ) → IsTrue (is_currency_of (value_of n book.commodities)) → IsSoundBook book
    → IsSoundBook (record book { currency = n })
currency_set book n new is = record {
  commodities = is.commodities;
  accounts = is.accounts;
  transactions = is.transactions;
  prices = is.prices;
  schedules = is.schedules;
  statements = is.statements;
  lines = is.lines;
  bindings = is.bindings;
  reconciliations = is.reconciliations;
  few_splits = is.few_splits;
  root = is.root;
  currency = new;
}

-- ---- a commodity under a drawn number

pub commodity_put :
    (book : Book) (n : ℕ) (new : Commodity) → AreDrawn book n
    → find (λ (e : ℕ × Commodity). has_same_pair new e.1) book.commodities ≡ None → has_fraction new ≡ true
    → length book.commodities + 1 ≤ 10000 → IsSoundBook book
    → IsSoundBook (record book { commodities = with_entry n new book.commodities })
commodity_put book n new are free fraction few is =
    let later = with_entry n new book.commodities in
    let stays = stays_with n new book.commodities (drawn_free n book.commodities are.commodities) in
    let longer = length_drawn n new book.commodities is.commodities.rise are.commodities in
    record {
      commodities = record {
        rise = rises_with n new book.commodities is.commodities.rise;
        keep = commodities_with n new book.commodities are.commodities free fraction is.commodities.keep;
        few = omega (arith, few, longer);
      };
      accounts = record {
        rise = is.accounts.rise;
        keep = accounts_beside book.commodities later book.accounts stays is.accounts.keep;
        few = is.accounts.few;
      };
      transactions = transactions_beside book.commodities later book.accounts book.reconciliations 200000
          book.transactions stays is.transactions;
      prices = prices_beside book.commodities later 1000000 book.prices stays is.prices;
      schedules = schedules_beside book.commodities later book.accounts 1000 book.schedules stays is.schedules;
      statements = is.statements;
      lines = is.lines;
      bindings = is.bindings;
      reconciliations = is.reconciliations;
      few_splits = is.few_splits;
      root = is.root;
      currency = currency_stays (value_of book.currency book.commodities) (value_of book.currency later)
          (stays.each book.currency) is.currency;
    }

-- ---- accounts: what names one has it in use

-- Each account in use takes splits as before.
pub record AllSuit (book : Book) (later : List (ℕ × Account)) : Type 0 where
  pub each : (m : ℕ) → is_in_use book m ≡ true → Suits (value_of m book.accounts) (value_of m later)

-- What of a book looks at its accounts, where these have changed.
record Looks (book : Book) (later : List (ℕ × Account)) : Type 0 where
  pub transactions : (m : ℕ) → has_splits book.transactions m ≡ true
      → Suits (value_of m book.accounts) (value_of m later)
  pub schedules : (m : ℕ) → has_thing (schedule_names m) book.schedules ≡ true
      → Suits (value_of m book.accounts) (value_of m later)
  pub statements : (m : ℕ) → has_thing (statement_names m) book.statements ≡ true
      → Suits (value_of m book.accounts) (value_of m later)
  pub lines : (m : ℕ) → has_thing (line_names m) book.lines ≡ true
      → Suits (value_of m book.accounts) (value_of m later)
  pub bindings : (m : ℕ) → has_thing (binding_names m) book.bindings ≡ true
      → Suits (value_of m book.accounts) (value_of m later)
  pub reconciliations : (m : ℕ) → has_thing (reconciliation_names m) book.reconciliations ≡ true
      → Suits (value_of m book.accounts) (value_of m later)

looks_at : (book : Book) (later : List (ℕ × Account)) → AllSuit book later → Looks book later
looks_at book later all =
    let splits = λ (m : ℕ). has_splits book.transactions m in
    let schedules = λ (m : ℕ). has_thing (schedule_names m) book.schedules in
    let statements = λ (m : ℕ). has_thing (statement_names m) book.statements in
    let lines = λ (m : ℕ). has_thing (line_names m) book.lines in
    let bindings = λ (m : ℕ). has_thing (binding_names m) book.bindings in
    record {
      transactions = λ m has. all.each m (or_left (splits m) _ has);
      schedules = λ m has. all.each m (or_right (splits m) _ (or_left (schedules m) _ has));
      statements = λ m has.
          all.each m (or_right (splits m) _ (or_right (schedules m) _ (or_left (statements m) _ has)));
      lines = λ m has.
          all.each m
          (or_right (splits m) _ (or_right (schedules m) _ (or_right (statements m) _ (or_left (lines m) _ has))));
      bindings = λ m has.
          all.each m
          (or_right (splits m) _ (or_right (schedules m) _ (or_right (statements m) _ (or_right (lines m) _
          (or_left (bindings m) _ has)))));
      reconciliations = λ m has.
          all.each m
          (or_right (splits m) _ (or_right (schedules m) _ (or_right (statements m) _ (or_right (lines m) _
          (or_right (bindings m) _ has)))));
    }

-- ---- an account, under a drawn number or in the place of one

pub account_put :
    (book : Book) (n : ℕ) (new : Account) → accounts.IsFit book.commodities book.accounts n new
    → AllSuit book (with_entry n new book.accounts)
    → length (with_entry n new book.accounts) ≤ 10000 → IsSoundBook book
    → IsSoundBook (record book { accounts = with_entry n new book.accounts })
account_put book n new fit suits few is =
    let later = with_entry n new book.accounts in
    let root = accounts.root_stays_with book.commodities book.accounts n new fit in
    let look = looks_at book later suits in
    record {
      commodities = is.commodities;
      accounts = record {
        rise = rises_with n new book.accounts is.accounts.rise;
        keep = accounts.accounts_with book.commodities book.accounts n new is.accounts.rise fit is.accounts.keep;
        few = few;
      };
      transactions = transactions_on book.commodities book.accounts later book.reconciliations 200000
          book.transactions look.transactions is.transactions;
      prices = is.prices;
      schedules = schedules_on book.commodities book.accounts later 1000 book.schedules look.schedules is.schedules;
      statements = statements_on book.accounts later 100000 book.statements look.statements is.statements;
      lines = lines_on book.accounts later book.statements book.transactions 1000000 book.lines look.lines is.lines;
      bindings = bindings_on book.accounts later 10000 book.bindings look.bindings is.bindings;
      reconciliations = reconciliations_on book.accounts later 100000 book.reconciliations look.reconciliations
          is.reconciliations;
      few_splits = is.few_splits;
      root = ap is_some root ∙ is.root;
      currency = is.currency;
    }

-- under a number that no account has
pub all_suit_with :
    (book : Book) (n : ℕ) (new : Account) → value_of n book.accounts ≡ None
    → AllSuit book (with_entry n new book.accounts)
all_suit_with book n new free = record {
  each = λ m used.
      suits_stays book.accounts (with_entry n new book.accounts) m (stays_with n new book.accounts free);
}

-- in the place of one, as which it takes splits if that is in use
pub all_suit_edited :
    (book : Book) (n : ℕ) (old new : Account) → value_of n book.accounts ≡ Some old
    → (is_in_use book n ≡ true → TakesAs old new)
    → AllSuit book (with_entry n new book.accounts)
all_suit_edited book n old new there takes = record {
  each = suits_edited (λ m. is_in_use book m ≡ true) book.accounts n old new there takes;
}

-- ---- an account that is taken: it isn't the root, has no account under it, and isn't in use

pub account_taken :
    (book : Book) (n : ℕ) (old : Account) → value_of n book.accounts ≡ Some old → is_root old.kind ≡ false
    → children_of book.accounts (Some n) ≡ [] → is_in_use book n ≡ false → IsSoundBook book
    → IsSoundBook (record book { accounts = without_entry n book.accounts })
account_taken book n old there other none unused is =
    let r = is.accounts.rise in
    let later = without_entry n book.accounts in
    let root = accounts.root_stays_without book.accounts n old there other in
    let look = looks_at book later
    (record { each = suits_dropped (λ m. is_in_use book m ≡ true) book.accounts n r (λ used. absurd cc) }) in
    record {
      commodities = is.commodities;
      accounts = record {
        rise = rises_without n book.accounts r;
        keep = accounts.accounts_without book.commodities book.accounts n r
            (rooted_of book.commodities book.accounts r is.accounts.keep) root none is.accounts.keep;
        few = omega (arith, is.accounts.few, length_left n book.accounts);
      };
      transactions = transactions_on book.commodities book.accounts later book.reconciliations 200000
          book.transactions look.transactions is.transactions;
      prices = is.prices;
      schedules = schedules_on book.commodities book.accounts later 1000 book.schedules look.schedules is.schedules;
      statements = statements_on book.accounts later 100000 book.statements look.statements is.statements;
      lines = lines_on book.accounts later book.statements book.transactions 1000000 book.lines look.lines is.lines;
      bindings = bindings_on book.accounts later 10000 book.bindings look.bindings is.bindings;
      reconciliations = reconciliations_on book.accounts later 100000 book.reconciliations look.reconciliations
          is.reconciliations;
      few_splits = is.few_splits;
      root = ap is_some root ∙ is.root;
      currency = is.currency;
    }

-- ---- a transaction under a drawn number

pub transaction_put :
    (book : Book) (n : ℕ) (new : Txn) → AreDrawn book n
    → transaction.IsFit book.commodities book.accounts book.reconciliations n [] new
    → length book.transactions + 1 ≤ 200000 → length (splits_of book.transactions) + length new.splits ≤ 1000000
    → IsSoundBook book
    → IsSoundBook (record book { transactions = with_entry n new book.transactions })
transaction_put book n new are fit few splits is =
    let last = ap length (splits_last n new book.transactions are.transactions) in
    record {
      commodities = is.commodities;
      accounts = is.accounts;
      transactions = transactions_posted book.commodities book.accounts book.reconciliations n new 200000
          book.transactions are.transactions are.splits
          (transaction.right_of_fit book.commodities book.accounts book.reconciliations n [] new fit) few
          is.transactions;
      prices = is.prices;
      schedules = is.schedules;
      statements = is.statements;
      lines = lines_posted book.accounts book.statements n new book.transactions 1000000 book.lines are.transactions
          is.lines;
      bindings = is.bindings;
      reconciliations = is.reconciliations;
      few_splits = omega (arith, splits, last, length-append (splits_of book.transactions) new.splits);
      root = is.root;
      currency = is.currency;
    }

-- ---- a transaction in the place of one

pub transaction_changed :
    (book : Book) (n limit : ℕ) (old new : Txn) → value_of n book.transactions ≡ Some old → AreDrawn book limit
    → transaction.IsRight book.commodities book.accounts book.reconciliations limit (numbers_of old.splits) new
    → length (splits_of (with_entry n new book.transactions)) ≤ 1000000 → IsSoundBook book
    → IsSoundBook
    (record book {
      transactions = with_entry n new book.transactions;
      lines = lines_after old.splits new.splits book.lines;
    })
transaction_changed book n limit old new there are fit few is =
    let later = with_entry n new book.transactions in
    let replaced = transactions_replaced book.commodities book.accounts book.reconciliations limit n old new 200000
    book.transactions there are.splits fit is.transactions in
    let was = is.transactions.keep.each n old there in
    let own = replaced.keep.each n new (value_here n n new book.transactions refl) in
    let stays : IsReplaced limit n old new book.transactions = record {
      rise = is.transactions.rise;
      there = there;
      was_free = not-true _ was.1.1.0;
      is_free = not-true _ own.1.1.0;
      below = are.splits;
      from = fit.from;
    } in
    record {
      commodities = is.commodities;
      accounts = is.accounts;
      transactions = replaced;
      prices = is.prices;
      schedules = is.schedules;
      statements = is.statements;
      lines = lines_replaced book.accounts book.statements limit n old new book.transactions 1000000 book.lines stays
          is.lines;
      bindings = is.bindings;
      reconciliations = is.reconciliations;
      few_splits = few;
      root = is.root;
      currency = is.currency;
    }

-- The same of one that is not voided.
pub transaction_replaced :
    (book : Book) (n limit : ℕ) (old new : Txn) → value_of n book.transactions ≡ Some old → AreDrawn book limit
    → transaction.IsFit book.commodities book.accounts book.reconciliations limit (numbers_of old.splits) new
    → length (splits_of (with_entry n new book.transactions)) ≤ 1000000 → IsSoundBook book
    → IsSoundBook
    (record book {
      transactions = with_entry n new book.transactions;
      lines = lines_after old.splits new.splits book.lines;
    })
transaction_replaced book n limit old new there are fit =
    transaction_changed book n limit old new there are
    (transaction.right_of_fit book.commodities book.accounts book.reconciliations limit (numbers_of old.splits) new fit)

-- ---- a transaction that is taken

pub transaction_taken :
    (book : Book) (n : ℕ) (old : Txn) → value_of n book.transactions ≡ Some old → IsSoundBook book
    → IsSoundBook
    (record book {
      transactions = without_entry n book.transactions;
      lines = lines_after old.splits [] book.lines;
    })
transaction_taken book n old there is =
    let was = is.transactions.keep.each n old there in
    record {
      commodities = is.commodities;
      accounts = is.accounts;
      transactions = transactions_dropped book.commodities book.accounts book.reconciliations n 200000
          book.transactions is.transactions;
      prices = is.prices;
      schedules = is.schedules;
      statements = is.statements;
      lines = lines_left book.accounts book.statements n old book.transactions 1000000 book.lines
          is.transactions.rise there (not-true _ was.1.1.0) is.lines;
      bindings = is.bindings;
      reconciliations = is.reconciliations;
      few_splits = omega (arith, is.few_splits, splits-without n book.transactions);
      root = is.root;
      currency = is.currency;
    }

-- A book stays sound where splits of a transaction are marked: their numbers, accounts and amounts stay, so that no
-- line loses its split.
use Rattle.std.proofs.Common.{◌≡◌, ℕ, ◌+◌, ◌≤◌, ◌==◌, ◌||◌, nat_lt, ℤ, pos, not, Bool, true, false, cond, All, List, []}
use Rattle.std.proofs.Common.{◌∷◌, ◌++◌, length, map, Option, Some, None, IsTrue, inl, is_none, refl, sym, ap, subst}
use Rattle.std.proofs.Common.{◌∙◌, eq-eqb, arith}
use Rattle.std.specs.Prelude.{⊤}
use Rattle.std.specs.List.{list_all}
use Rattle.std.specs.Ordering.{int_eq}
use Rattle.std.proofs.lemmas.Bool.{and_from, and_parts, not_from_false, not_from_true, or_left, or_right}
use Rattle.std.proofs.lemmas.Bool.Decides.{Decides-int_eq}
use Rattle.std.proofs.lemmas.List.Elements.{All-cons, All-head, All-nil, All-tail, All-weaker}
use Rattle.book_commodity.specs.Rules.{broken_where, first_broken}
use Rattle.book_commodity.specs.Table.{value_of, with_entry}
use Rattle.book_commodity.specs.declared.commodity.Commodity.{Commodity}
use Rattle.book_accounts.specs.declared.account.Account.{Account}
use Rattle.book_splits.specs.Balance.{splits_of, total}
use Rattle.book_splits.specs.Check.{currency_rules, rules_at, rules_of_splits, split_count, txn_rules, unbalanced}
use Rattle.book_splits.specs.SplitCount.{splits_in}
use Rattle.book_splits.specs.TransactionRules.{are_once, is_among, numbers_of}
use Rattle.book_splits.specs.declared.reconciliation.Recon.{Recon}
use Rattle.book_splits.specs.declared.rule.TxnRule.{TxnRule}
use Rattle.book_splits.specs.declared.rule.TxnRule.TheVariants.{SplitCount, Unbalanced}
use Rattle.book_splits.specs.declared.split.Split.{Split}
use Rattle.book_splits.specs.declared.transaction.Txn.{Txn}
use Rattle.book_splits.proofs.CountLemmas.{splits-with}
use Rattle.book_splits.proofs.ReplacedLemmas.{IsFrom}
use Rattle.book_statement.specs.declared.line.Line.{Line}
use Rattle.book_undo.specs.Book.{Book}
use Rattle.book_sound.specs.Dismissal.{dismissed_if, is_lost, is_lost_split, lines_after, loses_split}
use Rattle.book_sound.specs.LineRules.{matched_split, split_among}
use Rattle.book_sound.specs.MarkedTransactionRules.{is_rightly_marked}
use Rattle.book_sound.specs.Soundness.{IsSoundBook, AreDrawn}
use Rattle.book_sound.specs.Tests.{passes_check}
use Rattle.book_sound.proofs.BookFrames.{transaction_replaced}
use Rattle.book_sound.proofs.MarkLemmas.{right_is_unvoided}
use Rattle.book_sound.proofs.VoidFrames.{restored_unvoided}

-- A split is marked otherwise: its number, its account and its amounts stay.
pub record IsRemarked (old new : Split) : Type 0 where
  pub id : old.id ≡ new.id
  pub account : old.account ≡ new.account
  pub value : old.value ≡ new.value
  pub quantity : old.quantity ≡ new.quantity

-- All splits are, each in its place.
abbrev pub AreRemarked : List Split → List Split → Type 0
AreRemarked [] [] = ⊤
AreRemarked [] (new ∷ more) = ⊥
AreRemarked (old ∷ olds) [] = ⊥
AreRemarked (old ∷ olds) (new ∷ news) = IsRemarked old new × AreRemarked olds news

-- ---- numbers and counts

pub same_numbers : (olds news : List Split) → AreRemarked olds news → numbers_of olds ≡ numbers_of news
same_numbers [] [] stay = refl
same_numbers [] (new ∷ news) stay = absurd stay
same_numbers (old ∷ olds) [] stay = absurd stay
same_numbers (old ∷ olds) (new ∷ news) stay =
    ap (λ (n : ℕ). n ∷ numbers_of olds) stay.0.id
    ∙ ap (λ (ns : List ℕ). new.id ∷ ns) (same_numbers olds news stay.1)

pub same_length : (olds news : List Split) → AreRemarked olds news → length olds ≡ length news
same_length [] [] stay = refl
same_length [] (new ∷ news) stay = absurd stay
same_length (old ∷ olds) [] stay = absurd stay
same_length (old ∷ olds) (new ∷ news) stay = let rest = same_length olds news stay.1 in omega (arith, rest)

-- each number of a list is among them
pub all_among : (numbers : List ℕ) → All (λ (n : ℕ). is_among numbers n ≡ true) numbers
all_among [] = All-nil (λ (n : ℕ). is_among [] n ≡ true)
all_among (m ∷ numbers) =
    All-cons (λ (n : ℕ). is_among (m ∷ numbers) n ≡ true) m numbers (or_left _ _ (eq-eqb m m refl))
    (All-weaker (λ (n : ℕ). is_among numbers n ≡ true) (λ (n : ℕ). is_among (m ∷ numbers) n ≡ true)
    (λ n among. or_right (m == n) _ among) numbers (all_among numbers))

-- ---- the check of transactions

same_rules :
    (accounts : List (ℕ × Account)) (currency place : ℕ) (old new : Split) → IsRemarked old new
    → rules_at accounts currency place old ≡ rules_at accounts currency place new
same_rules accounts currency place old new stays =
    let on_account : Split = record old { account = new.account } in
    let with_value : Split = record on_account { value = new.value } in
    ap (λ (a : ℕ). rules_at accounts currency place (record old { account = a })) stays.account
    ∙ ap (λ (v : ℤ). rules_at accounts currency place (record on_account { value = v })) stays.value
    ∙ ap (λ (q : ℤ). rules_at accounts currency place (record with_value { quantity = q })) stays.quantity

all_same_rules :
    (accounts : List (ℕ × Account)) (currency place : ℕ) (olds news : List Split) → AreRemarked olds news
    → rules_of_splits accounts currency place olds ≡ rules_of_splits accounts currency place news
all_same_rules accounts currency place [] [] stay = refl
all_same_rules accounts currency place [] (new ∷ news) stay = absurd stay
all_same_rules accounts currency place (old ∷ olds) [] stay = absurd stay
all_same_rules accounts currency place (old ∷ olds) (new ∷ news) stay =
    ap (λ (rules : List (Option TxnRule)). rules ++ rules_of_splits accounts currency (place + 1) olds)
    (same_rules accounts currency place old new stay.0)
    ∙ ap (λ (rules : List (Option TxnRule)). rules_at accounts currency place new ++ rules)
    (all_same_rules accounts currency (place + 1) olds news stay.1)

same_values :
    (olds news : List Split) → AreRemarked olds news
    → map (λ (s : Split). s.value) olds ≡ map (λ (s : Split). s.value) news
same_values [] [] stay = refl
same_values [] (new ∷ news) stay = absurd stay
same_values (old ∷ olds) [] stay = absurd stay
same_values (old ∷ olds) (new ∷ news) stay =
    ap (λ (v : ℤ). v ∷ map (λ (s : Split). s.value) olds) stay.0.value
    ∙ ap (λ (vs : List ℤ). new.value ∷ vs) (same_values olds news stay.1)

-- The rule of the count of splits, and that of their sum.
abbrev count_rule : ℕ → Option TxnRule
count_rule count = broken_where (nat_lt count 1 || nat_lt 500 count) (SplitCount count)

abbrev balance_rule : List ℤ → Option TxnRule
balance_rule values = broken_where (not (int_eq (total values) (pos 0))) (Unbalanced (total values))

-- A transaction passes the check where another does whose splits are marked otherwise.
pub same_check :
    (commodities : List (ℕ × Commodity)) (accounts : List (ℕ × Account)) (old new : Txn) → old.currency ≡ new.currency
    → AreRemarked old.splits new.splits → IsTrue (passes_check commodities accounts old)
    → IsTrue (passes_check commodities accounts new)
same_check commodities accounts old new currency stay passes =
    let known = λ (c : ℕ). currency_rules c (value_of c commodities) in
    let count : split_count old.splits ≡ split_count new.splits = ap (λ (n : ℕ). count_rule n)
    (same_length old.splits new.splits stay) in
    let rules : rules_of_splits accounts old.currency 0 old.splits
    ≡ rules_of_splits accounts new.currency 0 new.splits =
    all_same_rules accounts old.currency 0 old.splits new.splits stay
    ∙ ap (λ (c : ℕ). rules_of_splits accounts c 0 new.splits) currency in
    let balance : unbalanced old.splits ≡ unbalanced new.splits = ap balance_rule
    (same_values old.splits new.splits stay) in
    let all : txn_rules commodities accounts old ≡ txn_rules commodities accounts new =
    ap (λ (rule : Option TxnRule). rule ∷ (known old.currency ++ (rules_of_splits accounts old.currency 0 old.splits
    ++ (unbalanced old.splits ∷ [])))) count
    ∙ ap (λ (c : ℕ). split_count new.splits ∷ (known c ++ (rules_of_splits accounts old.currency 0 old.splits
    ++ (unbalanced old.splits ∷ [])))) currency
    ∙ ap (λ (l : List (Option TxnRule)). split_count new.splits ∷ (known new.currency ++ (l
    ++ (unbalanced old.splits ∷ [])))) rules
    ∙ ap (λ (rule : Option TxnRule). split_count new.splits ∷ (known new.currency
    ++ (rules_of_splits accounts new.currency 0 new.splits ++ (rule ∷ [])))) balance in
    ap (λ (l : List (Option TxnRule)). is_none (first_broken l)) (sym all) ∙ passes

-- ---- no line loses its split

none_lost :
    (reconciliations : List (ℕ × Recon)) (id : ℕ) (olds news : List Split) → AreRemarked olds news
    → list_all (is_rightly_marked reconciliations) news ≡ true
    → is_lost_split (split_among id olds) (split_among id news) ≡ false
none_lost reconciliations id [] [] stay marks = refl
none_lost reconciliations id [] (new ∷ news) stay marks = absurd stay
none_lost reconciliations id (old ∷ olds) [] stay marks = absurd stay
none_lost reconciliations id (old ∷ olds) (new ∷ news) stay marks =
    let right = and_parts (is_rightly_marked reconciliations new) (list_all (is_rightly_marked reconciliations) news)
    marks in
    let same : (old.id == id) ≡ (new.id == id) = ap (λ (n : ℕ). n == id) stay.0.id in
    let rest = none_lost reconciliations id olds news stay.1 right.1 in
    let account : (new.account == old.account) ≡ true = eq-eqb new.account old.account (sym stay.0.account) in
    let quantity : int_eq new.quantity old.quantity ≡ true = (Decides-int_eq new.quantity old.quantity).1
    (sym stay.0.quantity) in
    let unvoided = not_from_false _ (right_is_unvoided reconciliations new right.0) in
    let here = not_from_true _ (and_from _ _ account (and_from _ _ quantity unvoided)) in
    let Here : Bool → Type 0 = λ b. is_lost_split (cond b (Some old) (split_among id olds))
    (cond b (Some new) (split_among id news)) ≡ false in
    let both : Here (new.id == id) = elim (new.id == id) as Here [ true ↦ here | false ↦ rest ] in
    subst (λ (b : Bool). is_lost_split (cond b (Some old) (split_among id olds))
    (cond (new.id == id) (Some new) (split_among id news)) ≡ false) (sym same) both

no_line_loses :
    (reconciliations : List (ℕ × Recon)) (olds news : List Split) (matched : Option ℕ) → AreRemarked olds news
    → list_all (is_rightly_marked reconciliations) news ≡ true → is_lost olds news matched ≡ false
no_line_loses reconciliations olds news None stay marks = refl
no_line_loses reconciliations olds news (Some id) stay marks = none_lost reconciliations id olds news stay marks

-- Lines stay as they are where none loses its split.
pub none_dismissed :
    (olds news : List Split) (lines : List (ℕ × Line))
    → All (λ (e : ℕ × Line). loses_split olds news e.1 ≡ false) lines → lines_after olds news lines ≡ lines
none_dismissed olds news [] none = refl
none_dismissed olds news (e ∷ lines) none =
    let Keeps : ℕ × Line → Type 0 = λ e. loses_split olds news e.1 ≡ false in
    ap (λ (b : Bool). (e.0, dismissed_if b e.1) ∷ lines_after olds news lines) (All-head Keeps e lines none)
    ∙ ap (λ (more : List (ℕ × Line)). e ∷ more) (none_dismissed olds news lines (All-tail Keeps e lines none))

none_loses :
    (reconciliations : List (ℕ × Recon)) (olds news : List Split) (lines : List (ℕ × Line)) → AreRemarked olds news
    → list_all (is_rightly_marked reconciliations) news ≡ true
    → All (λ (e : ℕ × Line). loses_split olds news e.1 ≡ false) lines
none_loses reconciliations olds news [] stay marks = All-nil (λ (e : ℕ × Line). loses_split olds news e.1 ≡ false)
none_loses reconciliations olds news (e ∷ lines) stay marks =
    All-cons (λ (e : ℕ × Line). loses_split olds news e.1 ≡ false) e lines
    (no_line_loses reconciliations olds news (matched_split e.1.state) stay marks)
    (none_loses reconciliations olds news lines stay marks)

-- A book stays sound where splits of a transaction are marked otherwise, and rightly.
pub transaction_marked :
    (book : Book) (n limit : ℕ) (old new : Txn) → value_of n book.transactions ≡ Some old → AreDrawn book limit
    → old.currency ≡ new.currency → is_none old.voided ≡ true → is_none new.voided ≡ true
    → AreRemarked old.splits new.splits
    → list_all (is_rightly_marked book.reconciliations) new.splits ≡ true → IsSoundBook book
    → IsSoundBook (record book { transactions = with_entry n new book.transactions })
transaction_marked book n limit old new there are currency was unvoided stay marks is =
    let kept = is.transactions.keep.each n old there in
    let numbers = same_numbers old.splits new.splits stay in
    let From = IsFrom limit (numbers_of old.splits) in
    let among = All-weaker (λ (m : ℕ). is_among (numbers_of old.splits) m ≡ true) From (λ m among. inl among)
    (numbers_of old.splits) (all_among (numbers_of old.splits)) in
    let count = splits-with n new book.transactions is.transactions.rise in
    let had : splits_in (value_of n book.transactions) ≡ length old.splits = ap splits_in there in
    let few : length (splits_of (with_entry n new book.transactions)) ≤ 1000000 =
    omega (arith, is.few_splits, count, had, same_length old.splits new.splits stay) in
    let replaced = transaction_replaced book n limit old new there are
    (record {
      check = same_check book.commodities book.accounts old new currency stay
          (ap (passes_check book.commodities book.accounts) (sym (restored_unvoided old was)) ∙ kept.0);
      once = subst (λ (ns : List ℕ). are_once ns ≡ true) numbers kept.1.0;
      from = subst (λ (ns : List ℕ). All From ns) numbers among;
      marks = marks;
      unvoided = unvoided;
    }) few is in
    subst (λ (lines : List (ℕ × Line)).
    IsSoundBook (record book { transactions = with_entry n new book.transactions; lines = lines }))
    (none_dismissed old.splits new.splits book.lines
    (none_loses book.reconciliations old.splits new.splits book.lines stay marks)) replaced

-- A sound book stays sound where a transaction is put that fits under its number.
use Rattle.std.proofs.Common.{◌≡◌, ◌≢◌, ℕ, ◌+◌, ◌<◌, ◌≤◌, ◌==◌, nat_lt, ◌||◌, not, Bool, true, false, ◌&&◌, All}
use Rattle.std.proofs.Common.{cond, if◌then◌else◌, List, [], ◌∷◌, ◌++◌, length, Option, Some, None, is_none, refl}
use Rattle.std.proofs.Common.{sym, ap, subst, ◌∙◌, eq-eqb, arith}
use Rattle.std.specs.List.{list_all, list_any}
use Rattle.std.specs.Ordering.{int_eq}
use Rattle.std.proofs.lemmas.Bool.{and_parts, eqb-true, ltb-true, ne_eqb, not-false, not-true, not_from_false, or_from}
use Rattle.std.proofs.lemmas.Bool.{or_left, or_parts}
use Rattle.std.proofs.lemmas.Bool.Decides.{Decides-int_eq, nat_tests}
use Rattle.std.proofs.lemmas.List.Elements.{All-cons, All-nil}
use Rattle.book_commodity.specs.Rules.{IsSoundTable, stands_before}
use Rattle.book_commodity.specs.Table.{AllAbove, Rises, value_of, with_entry, without_entry}
use Rattle.book_commodity.proofs.DrawnLemmas.{value_here}
use Rattle.book_commodity.proofs.RuleLemmas.{none_before_with}
use Rattle.book_commodity.proofs.TableLemmas.{above_value, length_with, rises_with}
use Rattle.book_splits.specs.Balance.{splits_of}
use Rattle.book_splits.specs.TransactionRules.{are_once, is_among, is_voided, numbers_of, share_numbers}
use Rattle.book_splits.specs.declared.split.Split.{Split}
use Rattle.book_splits.specs.declared.transaction.Txn.{Txn}
use Rattle.book_splits.proofs.CountLemmas.{splits-with}
use Rattle.book_splits.proofs.ReplacedLemmas.{fails_among}
use Rattle.book_void.specs.Voiding.{keeps_as_many, restored}
use Rattle.book_statement.specs.declared.line.Line.{Line}
use Rattle.book_statement.specs.declared.line_state.LineState.{LineState}
use Rattle.book_sound.specs.Dismissal.{is_lost, is_lost_split, loses_split}
use Rattle.book_sound.specs.LineRules.{matched_split, split_among, split_at}
use Rattle.book_sound.specs.MarkedTransactionRules.{are_rightly_marked, marked_transaction_rules}
use Rattle.book_sound.specs.Soundness.{AreDrawn, IsSoundBook}
use Rattle.book_sound.specs.Tests.{passes_check}
use Rattle.book_sound.proofs.DrawnFrames.{transaction_drawn}
use Rattle.book_sound.proofs.LineFrames.{SplitSuits, lines_matched}
use Rattle.book_sound.proofs.OwnFrames.{none_of_others, sound_with}
use Rattle.book_sound.proofs.SplitFrames.{found_among, split_beside, split_of_one, split_past}
use Rattle.book_sound.proofs.WalkLemmas.{passes_there}
use Rattle.book_undo.specs.Book.{Book}
use Rattle.book_history.specs.Leaving.{none_loses}
use Rattle.book_history.specs.Placing.{are_drawn, fits_under, has_place, has_room, is_apart, keeps_own_rules}
use Rattle.book_history.specs.Placing.{splits_found}

-- ---- numbers of splits

any_weaker :
    {X : Type 0} (p q : X → Bool) (xs : List X) → ((x : X) → p x ≡ false → q x ≡ false) → list_any p xs ≡ false
    → list_any q xs ≡ false
any_weaker p q [] follows none = refl
any_weaker p q (x ∷ xs) follows none =
    let parts = or_parts (p x) (list_any p xs) none in
    or_from (q x) _ (follows x parts.0) (any_weaker p q xs follows parts.1)

-- what some numbers have that share none with others is not among these
not_among_others :
    (m : ℕ) (xs ys : List ℕ) → is_among ys m ≡ true → list_any (is_among ys) xs ≡ false → is_among xs m ≡ false
not_among_others m xs ys among none =
    let Among : Bool → Type 0 = λ t. is_among xs m ≡ t → is_among xs m ≡ false in
    elim (is_among xs m) as Among [
      | true ↦ λ is. absurd (let fails = fails_among (is_among ys) m xs is none in cc)
      | false ↦ λ is. is
    ] refl

-- sharing numbers goes both ways
none_shared : (xs ys : List ℕ) → list_any (is_among ys) xs ≡ false → list_any (is_among xs) ys ≡ false
none_shared xs [] none = refl
none_shared xs (y ∷ ys) none =
    or_from (is_among xs y) _ (not_among_others y xs (y ∷ ys) (or_left _ _ (eq-eqb y y refl)) none)
    (none_shared xs ys
    (any_weaker (is_among (y ∷ ys)) (is_among ys) xs (λ m free. (or_parts (y == m) (is_among ys m) free).1) none))

-- another transaction shares no number with one that stands apart
shares_none :
    (n k : ℕ) (new x : Txn) (ts : List (ℕ × Txn)) → is_apart n new ts ≡ true → k ≢ n → value_of k ts ≡ Some x
    → share_numbers new x ≡ false
shares_none n k new x ts apart other there =
    let passes = passes_there (λ (e : ℕ × Txn). (e.0 == n) || not (share_numbers new e.1)) k x ts apart there in
    let differs : (k == n) ≡ false = ne_eqb k n other in
    not-true _ (sym (ap (λ (t : Bool). t || not (share_numbers new x)) differs) ∙ passes)

-- ---- the table of transactions

-- What a transaction brings that fits under a number.
record IsPut (next : ℕ) (book : Book) (n : ℕ) (new : Txn) : Type 0 where
  below : n < next
  drawn : are_drawn next new.splits ≡ true
  check : passes_check book.commodities book.accounts (restored new) ≡ true
  once : are_once (numbers_of new.splits) ≡ true
  marks : are_rightly_marked book.reconciliations new.voided new.splits ≡ true
  keeps : keeps_as_many new.voided new.splits ≡ true
  few : length book.transactions < 200000
  few_splits : length (splits_of book.transactions) + length new.splits ≤ 1000000
  apart : is_apart n new book.transactions ≡ true
  kept : none_loses (splits_found (value_of n book.transactions)) new.splits book.lines ≡ true

put_of : (next : ℕ) (book : Book) (n : ℕ) (new : Txn) → fits_under next book n new ≡ true → IsPut next book n new
put_of next book n new fits =
    let ts = book.transactions in
    let parts = and_parts (has_place next book n new) (keeps_own_rules book new) fits in
    let number = and_parts (nat_lt n next) _ parts.0 in
    let drawn = and_parts (are_drawn next new.splits) _ number.1 in
    let check = and_parts (passes_check book.commodities book.accounts (restored new)) _ parts.1 in
    let splits = and_parts (are_once (numbers_of new.splits)) _ check.1 in
    let marks = and_parts (are_rightly_marked book.reconciliations new.voided new.splits)
    (keeps_as_many new.voided new.splits) splits.1 in
    let room = and_parts (has_room ts (length new.splits)) _ drawn.1 in
    let count = and_parts (nat_lt (length ts) 200000) _ room.0 in
    let others = and_parts (is_apart n new ts) _ room.1 in
    let few = not-true (nat_lt 1000000 (length (splits_of ts) + length new.splits)) count.1 in
    record {
      below = ltb-true n next number.0;
      drawn = drawn.0;
      check = check.0;
      once = splits.0;
      marks = marks.0;
      keeps = marks.1;
      few = ltb-true (length ts) 200000 count.0;
      few_splits = grind (arith, nat_tests, few);
      apart = others.0;
      kept = others.1;
    }

-- no transaction before it shares a number with it
own_free :
    (n : ℕ) (new : Txn) (ts : List (ℕ × Txn)) → Rises ts → is_apart n new ts ≡ true
    → stands_before (share_numbers new) n (with_entry n new ts) ≡ false
own_free n new ts r apart =
    none_before_with (share_numbers new) n n new ts (λ before. absurd (omega (arith, before)))
    (none_of_others (share_numbers new) n ts r (λ k x other there. shares_none n k new x ts apart other there))

one_more : (found : Option Txn) (count : ℕ) → count + (if is_none found then 1 else 0) ≤ count + 1
one_more None count = omega arith
one_more (Some t) count = omega arith

transactions_put :
    (next : ℕ) (book : Book) (n : ℕ) (new : Txn) → IsPut next book n new
    → IsSoundTable (marked_transaction_rules book.commodities book.accounts book.reconciliations book.transactions)
    200000 book.transactions
    → IsSoundTable
    (marked_transaction_rules book.commodities book.accounts book.reconciliations
    (with_entry n new book.transactions)) 200000 (with_entry n new book.transactions)
transactions_put next book n new fit is =
    let ts = book.transactions in
    let later = with_entry n new ts in
    let free = own_free n new ts is.rise fit.apart in
    let count = length_with n new ts is.rise in
    let more = one_more (value_of n ts) (length ts) in
    let few : length later ≤ 200000 = omega (arith, count, more, fit.few) in
    sound_with (marked_transaction_rules book.commodities book.accounts book.reconciliations ts)
    (marked_transaction_rules book.commodities book.accounts book.reconciliations later) 200000 n new ts
    (fit.check, (fit.once, (not_from_false _ free, (fit.marks, (fit.keeps, tt)))))
    (λ k x other there kept.
    let apart = none_shared (numbers_of new.splits) (numbers_of x.splits)
    (shares_none n k new x ts fit.apart other there) in
    let once = none_before_with (share_numbers x) k n new ts (λ before. apart) (not-true _ kept.1.1.0) in
    (kept.0, (kept.1.0, (not_from_false _ once, kept.1.1.1))))
    few is

-- ---- the splits with which lines are matched

without_absent : {T : Type 0} (n : ℕ) (es : List (ℕ × T)) → value_of n es ≡ None → without_entry n es ≡ es
without_absent n [] none = refl
without_absent {T} n (e ∷ es) none =
    let rest = λ (later : value_of n es ≡ None). without_absent n es later in grind (arith, nat_tests, none, rest)

-- splits that don't have a number are passed over where it is sought
passed_over :
    (id : ℕ) (xs ys : List Split) → is_among (numbers_of xs) id ≡ false
    → split_among id (xs ++ ys) ≡ split_among id ys
passed_over id [] ys none = refl
passed_over id (x ∷ xs) ys none =
    let parts = or_parts (x.id == id) (is_among (numbers_of xs) id) none in
    ap (λ (t : Bool). cond t (Some x) (split_among id (xs ++ ys))) parts.0 ∙ passed_over id xs ys parts.1

-- a number of a split that is none of the transaction's there is none of the new one's
not_new :
    (n id : ℕ) (new : Txn) (s : Split) (ts : List (ℕ × Txn)) → Rises ts → is_apart n new ts ≡ true
    → ((x : Txn) → value_of n ts ≡ Some x → is_among (numbers_of x.splits) id ≡ false)
    → split_at id ts ≡ Some s → is_among (numbers_of new.splits) id ≡ false
not_new n id new s [] r apart others found = absurd cc
not_new n id new s (e ∷ ts) r apart others found =
    let parts = and_parts ((e.0 == n) || not (share_numbers new e.1)) _ apart in
    let Among : Bool → Type 0 = λ t. is_among (numbers_of e.1.splits) id ≡ t
    → is_among (numbers_of new.splits) id ≡ false in
    elim (is_among (numbers_of e.1.splits) id) as Among [
      | true ↦ λ among.
          let Place : Bool → Type 0 = λ t. (n == e.0) ≡ t → is_among (numbers_of new.splits) id ≡ false in
          elim (n == e.0) as Place [
            | true ↦ λ same.
                let none = others e.1 (ap (λ (t : Bool). if t then Some e.1 else value_of n ts) same) in
                absurd (let both = sym among ∙ none in cc)
            | false ↦ λ other.
                let differs : (e.0 == n) ≡ false = grind (arith, nat_tests, other) in
                let apart_here = not-true _
                (sym (ap (λ (t : Bool). t || not (share_numbers new e.1)) differs) ∙ parts.0) in
                not_among_others id (numbers_of new.splits) (numbers_of e.1.splits) among apart_here
          ] refl
      | false ↦ λ none.
          not_new n id new s ts r.1 parts.1
          (λ x there.
          let Place : Bool → Type 0 = λ t. (n == e.0) ≡ t → is_among (numbers_of x.splits) id ≡ false in
          elim (n == e.0) as Place [
            | true ↦ λ same.
                let above = subst (λ (m : ℕ). AllAbove m ts) (sym (eqb-true n e.0 same)) r.0 in
                absurd (let both = sym (above_value n ts above) ∙ there in cc)
            | false ↦ λ other. others x (ap (λ (t : Bool). if t then Some e.1 else value_of n ts) other ∙ there)
          ] refl)
          (sym (passed_over id e.1.splits (splits_of ts) none) ∙ found)
    ] refl

-- a split that isn't lost is found again, with its account and its quantity, and it is not voided
found_again :
    (found later : Option Split) (split : Split) → found ≡ Some split → is_lost_split found later ≡ false
    → (new : Split) × (later ≡ Some new) × (new.account ≡ split.account) × (new.quantity ≡ split.quantity)
    × (is_voided split.mark ≡ false → is_voided new.mark ≡ false)
found_again None later split there kept = absurd cc
found_again (Some s) None split there kept = absurd cc
found_again (Some s) (Some new) split there kept =
    let same = and_parts (new.account == s.account) _ (not-false _ kept) in
    let more = and_parts (int_eq new.quantity s.quantity) (not (is_voided new.mark)) same.1 in
    let one : s ≡ split = cc in (
      new,
      refl,
      eqb-true new.account s.account same.0 ∙ ap (λ (x : Split). x.account) one,
      (Decides-int_eq new.quantity s.quantity).0 more.0 ∙ ap (λ (x : Split). x.quantity) one,
      λ was. not-true _ more.1,
    )

-- where no transaction stood there
split_alone :
    (n id : ℕ) (new : Txn) (ts : List (ℕ × Txn)) → Rises ts → value_of n ts ≡ None → is_apart n new ts ≡ true
    → SplitSuits (split_at id ts) (split_at id (with_entry n new ts))
split_alone n id new ts r none apart = record {
  each = λ split found.
      let other = not_new n id new split ts r apart (λ x there. absurd (let both = sym none ∙ there in cc)) found in (
        split,
        split_beside n id new ts r other ∙ ap (split_at id) (without_absent n ts none) ∙ found,
        refl,
        refl,
        λ unvoided. unvoided,
      );
}

-- where one stood there, of which this split is not lost
split_in_place :
    (n id : ℕ) (old new : Txn) (ts : List (ℕ × Txn)) → Rises ts → value_of n ts ≡ Some old
    → stands_before (share_numbers old) n ts ≡ false → is_apart n new ts ≡ true
    → is_lost_split (split_among id old.splits) (split_among id new.splits) ≡ false
    → SplitSuits (split_at id ts) (split_at id (with_entry n new ts))
split_in_place n id old new ts r there free apart kept = record {
  each = λ split found.
      let later = with_entry n new ts in
      let Among : Bool → Type 0 = λ t. is_among (numbers_of old.splits) id ≡ t
      → (s : Split) × (split_at id later ≡ Some s) × (s.account ≡ split.account) × (s.quantity ≡ split.quantity)
      × (is_voided split.mark ≡ false → is_voided s.mark ≡ false) in
      elim (is_among (numbers_of old.splits) id) as Among [
        | true ↦ λ among.
            let own = sym (split_of_one n id old ts r there free among) ∙ found in
            let s = found_again (split_among id old.splits) (split_among id new.splits) split own kept in
            let after = split_of_one n id new later (rises_with n new ts r) (value_here n n new ts refl)
            (own_free n new ts r apart) (found_among id new.splits s.0 s.1) in
            (s.0, after ∙ s.1, s.2, s.3, s.4)
        | false ↦ λ none.
            let other = not_new n id new split ts r apart
            (λ x is. subst (λ (t : Txn). is_among (numbers_of t.splits) id ≡ false)
            (let both : Some old ≡ Some x = sym there ∙ is in let one : old ≡ x = cc in one) none) found in (
              split,
              split_beside n id new ts r other ∙ sym (split_past n id old ts r there none) ∙ found,
              refl,
              refl,
              λ unvoided. unvoided,
            )
      ] refl;
}

split_put :
    (n id : ℕ) (new : Txn) (found : Option Txn) (ts : List (ℕ × Txn)) → Rises ts → value_of n ts ≡ found
    → ((old : Txn) → found ≡ Some old → stands_before (share_numbers old) n ts ≡ false) → is_apart n new ts ≡ true
    → is_lost_split (split_among id (splits_found found)) (split_among id new.splits) ≡ false
    → SplitSuits (split_at id ts) (split_at id (with_entry n new ts))
split_put n id new None ts r there free apart kept = split_alone n id new ts r there apart
split_put n id new (Some old) ts r there free apart kept =
    split_in_place n id old new ts r there (free old refl) apart kept

-- ---- the book

-- numbers that are drawn by a test are drawn
all_drawn :
    (next : ℕ) (splits : List Split) → are_drawn next splits ≡ true → All (λ (s : Split). s.id < next) splits
all_drawn next [] are = All-nil (λ (s : Split). s.id < next)
all_drawn next (s ∷ splits) are =
    let parts = and_parts (nat_lt s.id next) (are_drawn next splits) are in
    All-cons (λ (x : Split). x.id < next) s splits (ltb-true s.id next parts.0) (all_drawn next splits parts.1)

sound_put :
    (next : ℕ) (book : Book) (n : ℕ) (new : Txn) → IsPut next book n new → IsSoundBook book
    → IsSoundBook (record book { transactions = with_entry n new book.transactions })
sound_put next book n new fit is =
    let ts = book.transactions in
    let later = with_entry n new ts in
    let olds = splits_found (value_of n ts) in
    let count = splits-with n new ts is.transactions.rise in
    record {
      commodities = is.commodities;
      accounts = is.accounts;
      transactions = transactions_put next book n new fit is.transactions;
      prices = is.prices;
      schedules = is.schedules;
      statements = is.statements;
      lines = lines_matched book.accounts book.statements ts later 1000000 book.lines
          (λ k line split there matched.
          let stays = passes_there (λ (e : ℕ × Line). not (loses_split olds new.splits e.1)) k line book.lines
          fit.kept there in
          let Lost : LineState → Type 0 = λ state. is_lost olds new.splits (matched_split state) ≡ false in
          split_put n split new (value_of n ts) ts is.transactions.rise refl
          (λ old found. not-true _ (is.transactions.keep.each n old found).1.1.0) fit.apart
          (subst Lost matched (not-true _ stays))) is.lines;
      bindings = is.bindings;
      reconciliations = is.reconciliations;
      few_splits = omega (arith, count, fit.few_splits);
      root = is.root;
      currency = is.currency;
    }

pub transaction_placed :
    (book : Book) (n next : ℕ) (new : Txn) → fits_under next book n new ≡ true → IsSoundBook book
    → AreDrawn book next
    → IsSoundBook (record book { transactions = with_entry n new book.transactions })
    × AreDrawn (record book { transactions = with_entry n new book.transactions }) next
transaction_placed book n next new fits is are =
    let fit = put_of next book n new fits in (
      sound_put next book n new fit is,
      transaction_drawn book n next new fit.below (all_drawn next new.splits fit.drawn) are,
    )

-- What becomes of the rows where those of one transaction are taken out and those of another put in.
use Rattle.std.proofs.Common.{◌≡◌, ℕ, ◌+◌, ◌≤◌, ◌==◌, ◌&&◌, nat_lt, Bool, true, false, cond, if◌then◌else◌}
use Rattle.std.proofs.Common.{List, length, Option, Some, None, slice_get, refl, sym, ap, ◌∙◌}
use Rattle.std.proofs.Common.{arith, inl, inr, ℤ}
use Rattle.std.specs.Option.{option_and_then, option_or}
use Rattle.std.specs.Ordering.{int_eq}
use Rattle.std.proofs.lemmas.Bool.{cases_order, eqb-true, and_parts}
use Rattle.std.proofs.lemmas.Bool.Decides.{nat_tests, Decides-int_eq}
use Rattle.std.proofs.lemmas.Int.{ints}
use Rattle.std.proofs.lemmas.Option.{slice_get_past}
use Rattle.book_commodity.specs.Table.{Rises, value_of, with_entry, without_entry}
use Rattle.book_commodity.proofs.TableLemmas.{value_of_with, value_of_without}
use Rattle.book_register.specs.Register.{has_key, key_of}
use Rattle.book_ledger.specs.Page.{Page}
use Rattle.book_register.specs.declared.entry.Entry.{Entry}
use Rattle.book_register.specs.declared.entry.Mark2.{Mark2}
use Rattle.book_register.specs.declared.entry.Mark2.TheVariants.{Plain, Cleared, Reconciled}
use Rattle.book_register.specs.Register.{RowKey}
use Rattle.book_splits.specs.TransactionRules.{is_voided}
use Rattle.book_splits.specs.declared.split.Split.{Split}
use Rattle.book_splits.specs.declared.transaction.Txn.{Txn}
use Rattle.book_ledger.specs.Change.{row_at, placed, placed_split, is_same_mark, is_same, left_of, left_at, pick, left_before, cut}
use Rattle.book_ledger.specs.Change.{row_in, Holds, IsTaken, IsPut, AllPut, AllTaken, AreTaken, ArePut, IsChanged}
use Rattle.book_ledger.specs.Ledger.{row_of}
use Rattle.book_ledger.proofs.FoundLemmas.{false_of, key_is, key_itself, or_assoc, or_none, place_is, txn_is}

-- ---- the same rows
mark_is : (one other : Mark2) → is_same_mark one other ≡ true → one ≡ other
mark_is Plain Plain is = refl
mark_is Cleared Cleared is = refl
mark_is Reconciled Reconciled is = refl
mark_is Plain Cleared is = absurd cc
mark_is Plain Reconciled is = absurd cc
mark_is Cleared Plain is = absurd cc
mark_is Cleared Reconciled is = absurd cc
mark_is Reconciled Plain is = absurd cc
mark_is Reconciled Cleared is = absurd cc

mark_itself : (mark : Mark2) → is_same_mark mark mark ≡ true
mark_itself Plain = refl
mark_itself Cleared = refl
mark_itself Reconciled = refl

day_is : (x y : ℤ) → int_eq x y ≡ true → x ≡ y
day_is x y is = grind (arith, ints, Decides-int_eq)

abbrev made : RowKey → ℕ → ℕ → ℤ → ℤ → Mark2 → Entry
made key split currency quantity value mark = record {
  day = key.day;
  txn = key.txn;
  place = key.place;
  split = split;
  currency = currency;
  quantity = quantity;
  value = value;
  mark = mark;
}

pub same_is : (one other : Entry) → is_same one other ≡ true → one ≡ other
same_is one other is =
    let key_test = has_key (key_of one) other in
    let split_test = one.split == other.split in
    let currency_test = one.currency == other.currency in
    let quantity_test = int_eq one.quantity other.quantity in
    let value_test = int_eq one.value other.value in
    let marks = and_parts (key_test && split_test && currency_test && quantity_test && value_test)
    (is_same_mark one.mark other.mark) is in
    let values = and_parts (key_test && split_test && currency_test && quantity_test) value_test marks.0 in
    let quantities = and_parts (key_test && split_test && currency_test) quantity_test values.0 in
    let currencies = and_parts (key_test && split_test) currency_test quantities.0 in
    let keys = and_parts key_test split_test currencies.0 in
    let key = key_is (key_of one) other keys.0 in
    let split = eqb-true one.split other.split keys.1 in
    let currency = eqb-true one.currency other.currency currencies.1 in
    let quantity = day_is one.quantity other.quantity quantities.1 in
    let value = day_is one.value other.value values.1 in
    let mark = mark_is one.mark other.mark marks.1 in
    ap (λ (k : RowKey). made k one.split one.currency one.quantity one.value one.mark) key
    ∙ ap (λ (n : ℕ). made (key_of other) n one.currency one.quantity one.value one.mark) split
    ∙ ap (λ (n : ℕ). made (key_of other) other.split n one.quantity one.value one.mark) currency
    ∙ ap (λ z. made (key_of other) other.split other.currency z one.value one.mark) quantity
    ∙ ap (λ z. made (key_of other) other.split other.currency other.quantity z one.mark) value
    ∙ ap (λ m. made (key_of other) other.split other.currency other.quantity other.value m) mark

pub same_itself : (row : Entry) → is_same row row ≡ true
same_itself row =
    let key = key_itself row in
    let split : (row.split == row.split) ≡ true = grind (arith, nat_tests) in
    let currency : (row.currency == row.currency) ≡ true = grind (arith, nat_tests) in
    let quantity : int_eq row.quantity row.quantity ≡ true = grind (arith, ints, Decides-int_eq) in
    let value : int_eq row.value row.value ≡ true = grind (arith, ints, Decides-int_eq) in
    all_true (has_key (key_of row) row) (row.split == row.split) (row.currency == row.currency)
    (int_eq row.quantity row.quantity) (int_eq row.value row.value) (is_same_mark row.mark row.mark) key split
    currency quantity value (mark_itself row.mark)
  where
    all_true :
        (a b c d e f : Bool) → a ≡ true → b ≡ true → c ≡ true → d ≡ true → e ≡ true → f ≡ true
        → (a && b && c && d && e && f) ≡ true
    all_true true true true true true true a b c d e f = refl
    all_true false b c d e f is p q r s t = absurd cc
    all_true true false c d e f p is q r s t = absurd cc
    all_true true true false d e f p q is r s t = absurd cc
    all_true true true true false e f p q r is s t = absurd cc
    all_true true true true true false f p q r s is t = absurd cc
    all_true true true true true true false p q r s t is = absurd cc

-- ---- the row that a transaction has at a place
-- a row at a place is picked at no key of another place,
placed_apart :
    (account : ℕ) (key : RowKey) (number place : ℕ) (t : Option Txn) → (key.place ≡ place → ⊥)
    → pick account key (placed number t place) ≡ None
placed_apart account key number place None other = refl
placed_apart account key number place (Some t) other = here (slice_get t.splits place)
  where
    fails : (s u : Bool) (x : Entry) → u ≡ false → cond (s && u) (Some x) None ≡ None
    fails true u x is = ap (λ b. cond b (Some x) None) is
    fails false u x is = refl

    here : (o : Option Split) → pick account key (option_and_then (placed_split number t place) o) ≡ None
    here None = refl
    here (Some split) =
        let row = row_of number t place split in
        elim (is_voided split.mark) as
        (λ v. pick account key (if v then None else Some (split.account, row)) ≡ None) [
          | true ↦ refl
          | false ↦
              fails (split.account == account) (has_key key row) row
              (false_of (has_key key row) (λ is. other (place_is key row is)))
        ]

-- and none of another transaction
pub placed_other :
    (account : ℕ) (key : RowKey) (number place : ℕ) (t : Option Txn) → (key.txn ≡ number → ⊥)
    → pick account key (placed number t place) ≡ None
placed_other account key number place None other = refl
placed_other account key number place (Some t) other = here (slice_get t.splits place)
  where
    fails : (s u : Bool) (x : Entry) → u ≡ false → cond (s && u) (Some x) None ≡ None
    fails true u x is = ap (λ b. cond b (Some x) None) is
    fails false u x is = refl

    here : (o : Option Split) → pick account key (option_and_then (placed_split number t place) o) ≡ None
    here None = refl
    here (Some split) =
        let row = row_of number t place split in
        elim (is_voided split.mark) as
        (λ v. pick account key (if v then None else Some (split.account, row)) ≡ None) [
          | true ↦ refl
          | false ↦
              fails (split.account == account) (has_key key row) row
              (false_of (has_key key row) (λ is. other (txn_is key row is)))
        ]

-- what is left of a row is that row or none
left_none :
    (account : ℕ) (key : RowKey) (row other : Option (ℕ × Entry)) → pick account key row ≡ None
    → pick account key (left_of row other) ≡ None
left_none account key None other none = refl
left_none account key (Some at) None none = none
left_none account key (Some at) (Some other) none =
    elim ((at.0 == other.0) && is_same at.1 other.1) as
    (λ t. pick account key (if t then None else Some at) ≡ None) [ true ↦ refl | false ↦ none ]

left_apart :
    (account : ℕ) (key : RowKey) (number place : ℕ) (t other : Option Txn) → (key.place ≡ place → ⊥)
    → pick account key (left_at number t other place) ≡ None
left_apart account key number place t other apart =
    left_none account key (placed number t place) (placed number other place)
    (placed_apart account key number place t apart)

left_other :
    (account : ℕ) (key : RowKey) (number place : ℕ) (t other : Option Txn) → (key.txn ≡ number → ⊥)
    → pick account key (left_at number t other place) ≡ None
left_other account key number place t other apart =
    left_none account key (placed number t place) (placed number other place)
    (placed_other account key number place t apart)

-- ---- one place more
pub left_more :
    (account : ℕ) (key : RowKey) (number place : ℕ) (t other : Option Txn)
    → left_before account key number t other (place + 1)
    ≡ option_or (pick account key (left_at number t other place)) (left_before account key number t other place)
left_more account key number place t other =
    elim (cases_order key.place place) [
      | inl same ↦
          let now : nat_lt key.place (place + 1) ≡ true = grind (arith, nat_tests, same) in
          let before : nat_lt key.place place ≡ false = grind (arith, nat_tests, same) in
          tested now ∙ ap (λ (n : ℕ). pick account key (left_at number t other n)) same
          ∙ sym (ap (option_or (pick account key (left_at number t other place))) (tested before)
          ∙ or_none (pick account key (left_at number t other place)))
      | inr (inl less) ↦
          let now : nat_lt key.place (place + 1) ≡ true = grind (arith, nat_tests, less) in
          let before : nat_lt key.place place ≡ true = grind (arith, nat_tests, less) in
          tested now ∙ sym (first_none (λ same. absurd (omega (arith, same, less))) ∙ tested before)
      | inr (inr more) ↦
          let now : nat_lt key.place (place + 1) ≡ false = grind (arith, nat_tests, more) in
          let before : nat_lt key.place place ≡ false = grind (arith, nat_tests, more) in
          tested now ∙ sym (first_none (λ same. absurd (omega (arith, same, more))) ∙ tested before)
    ]
  where
    tested :
        {s t' : Bool} → s ≡ t'
        → (if s then pick account key (left_at number t other key.place) else None)
        ≡ (if t' then pick account key (left_at number t other key.place) else None)
    tested is = ap (λ b. if b then pick account key (left_at number t other key.place) else None) is

    first_none :
        (key.place ≡ place → ⊥)
        → option_or (pick account key (left_at number t other place)) (left_before account key number t other place)
        ≡ left_before account key number t other place
    first_none apart =
        ap (λ (o : Option Entry). option_or o (left_before account key number t other place))
        (left_apart account key number place t other apart)

cut_or : (o p row : Option Entry) → cut (option_or o p) row ≡ cut o (cut p row)
cut_or None p row = refl
cut_or (Some x) p row = refl

-- none is taken before the first place
pub taken_none :
    (number : ℕ) (t other : Option Txn) (registers : List (ℕ × Page))
    → AreTaken number t other 0 registers registers
taken_none number t other registers = record {
  rows = λ account key.
      let none : nat_lt key.place 0 ≡ false = grind (arith, nat_tests) in
      sym (ap (λ b. cut (if b then pick account key (left_at number t other key.place) else None)
      (row_at account key registers)) none);
}

pub put_none :
    (number : ℕ) (t other : Option Txn) (registers : List (ℕ × Page))
    → ArePut number t other 0 registers registers
put_none number t other registers = record {
  rows = λ account key.
      let none : nat_lt key.place 0 ≡ false = grind (arith, nat_tests) in
      sym (ap (λ b. option_or (if b then pick account key (left_at number t other key.place) else None)
      (row_at account key registers)) none);
}

pub taken_more :
    (number place : ℕ) (t other : Option Txn) (row : Option (ℕ × Entry)) (old mid new : List (ℕ × Page))
    → AreTaken number t other place old mid → row ≡ left_at number t other place → IsTaken row mid new
    → AreTaken number t other (place + 1) old new
taken_more number place t other row old mid new before is here = record {
  rows = λ account key.
      here.rows account key
      ∙ ap (λ (o : Option Entry). cut (pick account key row) o) (before.rows account key)
      ∙ ap (λ (o : Option (ℕ × Entry)). cut (pick account key o)
      (cut (left_before account key number t other place) (row_at account key old))) is
      ∙ sym (ap (λ (o : Option Entry). cut o (row_at account key old))
      (left_more account key number place t other)
      ∙ cut_or (pick account key (left_at number t other place)) (left_before account key number t other place)
      (row_at account key old));
}

pub put_more :
    (number place : ℕ) (t other : Option Txn) (row : Option (ℕ × Entry)) (old mid new : List (ℕ × Page))
    → ArePut number t other place old mid → row ≡ left_at number t other place → IsPut row mid new
    → ArePut number t other (place + 1) old new
put_more number place t other row old mid new before is here = record {
  rows = λ account key.
      here.rows account key
      ∙ ap (λ (o : Option Entry). option_or (pick account key row) o) (before.rows account key)
      ∙ ap (λ (o : Option (ℕ × Entry)). option_or (pick account key o)
      (option_or (left_before account key number t other place) (row_at account key old))) is
      ∙ sym (ap (λ (o : Option Entry). option_or o (row_at account key old))
      (left_more account key number place t other)
      ∙ or_assoc (pick account key (left_at number t other place)) (left_before account key number t other place)
      (row_at account key old));
}

-- ---- past the last place
-- all places of a transaction are before its length
left_all :
    (account : ℕ) (key : RowKey) (number : ℕ) (t : Txn) (other : Option Txn)
    → left_before account key number (Some t) other (length t.splits)
    ≡ pick account key (left_at number (Some t) other key.place)
left_all account key number t other = here (nat_lt key.place (length t.splits)) refl
  where
    here :
        (b : Bool) → nat_lt key.place (length t.splits) ≡ b
        → (if b then pick account key (left_at number (Some t) other key.place) else None)
        ≡ pick account key (left_at number (Some t) other key.place)
    here true is = refl
    here false is =
        let past : length t.splits ≤ key.place = grind (arith, nat_tests, is) in
        let none = slice_get_past t.splits key.place past in
        sym (ap (λ (o : Option Split). pick account key (left_of
        (option_and_then (placed_split number t key.place) o) (placed number other key.place))) none)

pub all_taken :
    (number : ℕ) (t : Txn) (other : Option Txn) (old new : List (ℕ × Page))
    → AreTaken number (Some t) other (length t.splits) old new → AllTaken number (Some t) other old new
all_taken number t other old new taken = record {
  rows = λ account key.
      taken.rows account key
      ∙ ap (λ (o : Option Entry). cut o (row_at account key old)) (left_all account key number t other);
}

pub all_put :
    (number : ℕ) (t : Txn) (other : Option Txn) (old new : List (ℕ × Page))
    → ArePut number (Some t) other (length t.splits) old new → AllPut number (Some t) other old new
all_put number t other old new put = record {
  rows = λ account key.
      put.rows account key
      ∙ ap (λ (o : Option Entry). option_or o (row_at account key old)) (left_all account key number t other);
}

-- ---- one transaction in the place of another
pub cut_itself : (o : Option Entry) → cut o o ≡ None
cut_itself None = refl
cut_itself (Some x) = refl

pub pair_is : (p q : ℕ × Entry) → ((p.0 == q.0) && is_same p.1 q.1) ≡ true → p ≡ q
pair_is p q is =
    let both = and_parts (p.0 == q.0) (is_same p.1 q.1) is in
    let one = eqb-true p.0 q.0 both.0 in
    let two = same_is p.1 q.1 both.1 in
    ap (λ (n : ℕ). (n, p.1)) one ∙ ap (λ (e : Entry). (q.0, e)) two

pub pair_itself : (p : ℕ × Entry) → ((p.0 == p.0) && is_same p.1 p.1) ≡ true
pair_itself p =
    let number : (p.0 == p.0) ≡ true = grind (arith, nat_tests) in
    ap (λ t. t && is_same p.1 p.1) number ∙ same_itself p.1

-- with the rows of the old one that the new one hasn't taken out, and those of the new one that the old one hasn't put
-- in, the rows are those of the new one
changed_row :
    (account : ℕ) (key : RowKey) (new old : Option (ℕ × Entry))
    → option_or (pick account key (left_of new old)) (cut (pick account key (left_of old new)) (pick account key old))
    ≡ pick account key new
changed_row account key None None = refl
changed_row account key None (Some y) = cut_itself (pick account key (Some y))
changed_row account key (Some x) None = or_none (pick account key (Some x))
changed_row account key (Some x) (Some y) =
    here ((x.0 == y.0) && is_same x.1 y.1) ((y.0 == x.0) && is_same y.1 x.1) refl refl
  where
    here :
        (s t : Bool) → ((x.0 == y.0) && is_same x.1 y.1) ≡ s → ((y.0 == x.0) && is_same y.1 x.1) ≡ t
        → option_or (pick account key (if s then None else Some x))
        (cut (pick account key (if t then None else Some y)) (pick account key (Some y)))
        ≡ pick account key (Some x)
    here true true one two = ap (λ (p : ℕ × Entry). pick account key (Some p)) (sym (pair_is x y one))
    here false false one two =
        ap (option_or (pick account key (Some x))) (cut_itself (pick account key (Some y)))
        ∙ or_none (pick account key (Some x))
    here true false one two =
        absurd (let is = ap (λ (p : ℕ × Entry). (p.0 == x.0) && is_same p.1 x.1) (sym (pair_is x y one)) in
        let other = sym two ∙ is ∙ pair_itself x in cc)
    here false true one two =
        absurd (let is = ap (λ (p : ℕ × Entry). (p.0 == y.0) && is_same p.1 y.1) (sym (pair_is y x two)) in
        let other = sym one ∙ is ∙ pair_itself y in cc)

pub changed_by :
    (number : ℕ) (old new : Option Txn) (before mid after : List (ℕ × Page)) → AllTaken number old new before mid
    → AllPut number new old mid after → IsChanged number old new before after
changed_by number old new before mid after taken put = record {
  own = λ account key same has.
      put.rows account key
      ∙ ap (option_or (pick account key (left_at number new old key.place)))
      (taken.rows account key ∙ ap (cut (pick account key (left_at number old new key.place))) has)
      ∙ changed_row account key (placed number new key.place) (placed number old key.place);
  others = λ account key apart.
      put.rows account key
      ∙ ap (λ (o : Option Entry). option_or o (row_at account key mid))
      (left_other account key number key.place new old apart)
      ∙ taken.rows account key
      ∙ ap (λ (o : Option Entry). cut o (row_at account key before))
      (left_other account key number key.place old new apart);
}

-- no transaction has no rows
pub none_taken :
    (number : ℕ) (other : Option Txn) (registers : List (ℕ × Page)) → AllTaken number None other registers registers
none_taken number other registers = record { rows = λ account key. refl }

pub none_put :
    (number : ℕ) (other : Option Txn) (registers : List (ℕ × Page)) → AllPut number None other registers registers
none_put number other registers = record { rows = λ account key. refl }

-- ---- the registers of the transactions with one put or taken
held :
    (number : ℕ) (old new : Option Txn) (before after : List (ℕ × Page)) (ts us : List (ℕ × Txn))
    → IsChanged number old new before after → Holds before ts → value_of number ts ≡ old
    → ((m : ℕ) → value_of m us ≡ (if m == number then new else value_of m ts)) → Holds after us
held number old new before after ts us change holds there values = record {
  rows = λ account key. here account key (key.txn == number) refl;
}
  where
    here :
        (account : ℕ) (key : RowKey) (t : Bool) → (key.txn == number) ≡ t
        → row_at account key after ≡ row_in account key us
    here account key true is =
        let same = eqb-true key.txn number is in
        let was = holds.rows account key
        ∙ ap (λ (n : ℕ). pick account key (placed n (value_of n ts) key.place)) same
        ∙ ap (λ (o : Option Txn). pick account key (placed number o key.place)) there in
        change.own account key same was
        ∙ sym (ap (λ (o : Option Txn). pick account key (placed key.txn o key.place))
        (values key.txn ∙ ap (λ (b : Bool). if b then new else value_of key.txn ts) is)
        ∙ ap (λ (n : ℕ). pick account key (placed n new key.place)) same)
    here account key false is =
        let apart : key.txn ≡ number → ⊥ = λ same. grind (arith, nat_tests, is, same) in
        change.others account key apart ∙ holds.rows account key
        ∙ sym (ap (λ (o : Option Txn). pick account key (placed key.txn o key.place))
        (values key.txn ∙ ap (λ (b : Bool). if b then new else value_of key.txn ts) is))

pub held_with :
    (number : ℕ) (old : Option Txn) (t : Txn) (before after : List (ℕ × Page)) (ts : List (ℕ × Txn))
    → IsChanged number old (Some t) before after → Holds before ts → value_of number ts ≡ old
    → Holds after (with_entry number t ts)
held_with number old t before after ts change holds there =
    held number old (Some t) before after ts (with_entry number t ts) change holds there
    (λ m. value_of_with m number t ts)

pub held_without :
    (number : ℕ) (old : Option Txn) (before after : List (ℕ × Page)) (ts : List (ℕ × Txn)) → Rises ts
    → IsChanged number old None before after → Holds before ts → value_of number ts ≡ old
    → Holds after (without_entry number ts)
held_without number old before after ts rises change holds there =
    held number old None before after ts (without_entry number ts) change holds there
    (λ m. value_of_without m number ts rises)

-- A book stays sound where splits are marked otherwise, and rightly; and the edit that puts the transactions which
-- become others, with more behind them, is exact and leads to that book.
use Rattle.std.proofs.Common.{◌≡◌, ◌≢◌, ℕ, ◌^◌, ◌-◌, ◌<◌, ◌||◌, nat_lt, max, min, Bool, true, false, ℤ, All, List}
use Rattle.std.proofs.Common.{[], ◌∷◌, ◌++◌, if◌then◌else◌, flat_map, map, Option, Some, None, option_map, refl, sym}
use Rattle.std.proofs.Common.{ap, subst, ◌∙◌, arith}
use Rattle.std.specs.Prelude.{⊤}
use Rattle.std.specs.List.{list_all, list_any}
use Rattle.std.proofs.lemmas.Bool.{or_parts}
use Rattle.std.proofs.lemmas.Bool.Decides.{nat_tests}
use Rattle.std.proofs.lemmas.List.Elements.{All-append, All-map, All-nil, All-weaker}
use Rattle.book_commodity.specs.Rules.{broken_where}
use Rattle.book_commodity.specs.Table.{AllAbove, Rises, value_of, with_entry}
use Rattle.book_commodity.proofs.DrawnLemmas.{drawn_below, value_beside}
use Rattle.book_commodity.proofs.ListLemmas.{all_back, all_front}
use Rattle.book_splits.specs.Balance.{splits_of}
use Rattle.book_splits.specs.declared.split.Split.{Split}
use Rattle.book_splits.specs.declared.transaction.Txn.{Txn}
use Rattle.book_splits.proofs.ReplacedLemmas.{all_of_one}
use Rattle.book_undo.specs.Book.{Book, IsRising}
use Rattle.book_undo.specs.Edit.{Key, Leaf, OfPut, depth, deepest, edited, edited_all, key_at, leaves}
use Rattle.book_undo.specs.EditRules.{first_missing, first_unordered, out_of_order}
use Rattle.book_undo.specs.Exact.{IsExact}
use Rattle.book_undo.specs.declared.edit.Edit.{Edit}
use Rattle.book_undo.specs.declared.rule.EditRule.{EditRule}
use Rattle.book_undo.specs.declared.rule.EditRule.TheVariants.{OutOfOrder, TooDeep}
use Rattle.book_undo.specs.declared.thing.Thing.TheVariants as thing
use Rattle.book_undo.proofs.ExactLaws.{AllChange, Changes, exact_of}
use Rattle.book_undo.proofs.ThreeRules.{three_none}
use Rattle.book_sound.specs.MarkedTransactionRules.{are_rightly_marked}
use Rattle.book_sound.proofs.DrawnFrames.{transaction_drawn}
use Rattle.book_sound.proofs.MarkFrames.{AreRemarked}
use Rattle.book_sound.proofs.SplitFrames.{above_there}
use Rattle.book_sound.proofs.VoidedSound.{transaction_remarked}
use Rattle.book_step.specs.Importing.{whole_edit}
use Rattle.book_step.specs.Remarking.{ChangesMarksAlone, ChangesWhere, all_remarked, has_touched, newly_remarked}
use Rattle.book_step.specs.Remarking.{remarked, remarked_where, remarking}
use Rattle.book_step.specs.ScheduleRuns.{transaction_edits, with_entries}
use Rattle.book_step.specs.Soundness.{AreDrawn, IsSoundBook}
use Rattle.book_step.proofs.ExactImport.{edited_whole, leaves_whole, shallow_whole}
use Rattle.book_step.proofs.ExactRuns.{edited_behind, edited_transactions, transaction_leaves}

-- ---- the transactions that stay, and those that become others

splits_stay :
    (touches : ℤ → Split → Bool) (rule : ℤ → Split → Split) (day : ℤ) (splits : List Split)
    → ChangesWhere touches rule → list_any (touches day) splits ≡ false → map (rule day) splits ≡ splits
splits_stay touches rule day [] where_is none = refl
splits_stay touches rule day (s ∷ splits) where_is none =
    let parts = or_parts (touches day s) (list_any (touches day) splits) none in
    ap (λ (x : Split). x ∷ map (rule day) splits) (where_is.stays day s parts.0)
    ∙ ap (λ (more : List Split). s ∷ more) (splits_stay touches rule day splits where_is parts.1)

first_same : (x y : Split) (xs ys : List Split) → x ∷ xs ≡ y ∷ ys → x ≡ y
first_same x y xs ys same = cc

rest_same : (x y : Split) (xs ys : List Split) → x ∷ xs ≡ y ∷ ys → xs ≡ ys
rest_same x y xs ys same = cc

splits_change :
    (touches : ℤ → Split → Bool) (rule : ℤ → Split → Split) (day : ℤ) (splits : List Split)
    → ChangesWhere touches rule → list_any (touches day) splits ≡ true → map (rule day) splits ≢ splits
splits_change touches rule day [] where_is some same = absurd cc
splits_change touches rule day (s ∷ splits) where_is some same =
    let Here : Bool → Type 0 = λ b. touches day s ≡ b → (b || list_any (touches day) splits) ≡ true → ⊥ in
    elim (touches day s) as Here [
      | true ↦ λ touched any.
          where_is.changes day s touched (first_same (rule day s) s (map (rule day) splits) splits same)
      | false ↦ λ other any.
          splits_change touches rule day splits where_is any
          (rest_same (rule day s) s (map (rule day) splits) splits same)
    ] refl some

stays_same :
    (touches : ℤ → Split → Bool) (rule : ℤ → Split → Split) (t : Txn) → ChangesWhere touches rule
    → has_touched touches t ≡ false → remarked rule t ≡ t
stays_same touches rule t where_is none =
    ap (λ (splits : List Split). record t { splits = splits }) (splits_stay touches rule t.day t.splits where_is none)

-- ---- the table with the transactions that become others put

above_remarked :
    (test : Txn → Bool) (rule : ℤ → Split → Split) (n : ℕ) (ts : List (ℕ × Txn)) → AllAbove n ts
    → AllAbove n (remarked_where test rule ts)
above_remarked test rule n [] above = tt
above_remarked test rule n (e ∷ ts) above =
    let rest = above_remarked test rule n ts above.1 in
    elim (test e.1) as
    (λ (b : Bool). AllAbove n (if b then (e.0, remarked rule e.1) ∷ remarked_where test rule ts
    else remarked_where test rule ts)) [ true ↦ (above.0, rest) | false ↦ rest ]

rises_remarked :
    (test : Txn → Bool) (rule : ℤ → Split → Split) (ts : List (ℕ × Txn)) → Rises ts
    → Rises (remarked_where test rule ts)
rises_remarked test rule [] r = tt
rises_remarked test rule (e ∷ ts) r =
    let rest = rises_remarked test rule ts r.1 in
    elim (test e.1) as
    (λ (b : Bool). Rises (if b then (e.0, remarked rule e.1) ∷ remarked_where test rule ts
    else remarked_where test rule ts)) [ true ↦ (above_remarked test rule e.0 ts r.0, rest) | false ↦ rest ]

with_past :
    (n : ℕ) (x : Txn) (e : ℕ × Txn) (ts : List (ℕ × Txn)) → e.0 < n → with_entry n x (e ∷ ts) ≡ e ∷ with_entry n x ts
with_past n x e ts past = grind (arith, nat_tests, past)

with_here : (x : Txn) (e : ℕ × Txn) (ts : List (ℕ × Txn)) → with_entry e.0 x (e ∷ ts) ≡ (e.0, x) ∷ ts
with_here x e ts = grind (arith, nat_tests)

-- what is put behind the first leaves it
entries_past :
    (puts : List (ℕ × Txn)) (e : ℕ × Txn) (ts : List (ℕ × Txn)) → AllAbove e.0 puts
    → with_entries puts (e ∷ ts) ≡ e ∷ with_entries puts ts
entries_past [] e ts above = refl
entries_past (put ∷ more) e ts above =
    ap (with_entries more) (with_past put.0 put.1 e ts above.0)
    ∙ entries_past more e (with_entry put.0 put.1 ts) above.1

with_remarked :
    (test : Txn → Bool) (rule : ℤ → Split → Split) (ts : List (ℕ × Txn))
    → ((t : Txn) → test t ≡ false → remarked rule t ≡ t) → Rises ts
    → with_entries (remarked_where test rule ts) ts ≡ all_remarked rule ts
with_remarked test rule [] stays r = refl
with_remarked test rule (e ∷ ts) stays r =
    let puts = remarked_where test rule ts in
    let new = remarked rule e.1 in
    let above = above_remarked test rule e.0 ts r.0 in
    let rest = with_remarked test rule ts stays r.1 in
    let Chosen : Bool → Type 0 = λ b. test e.1 ≡ b
    → with_entries (if b then (e.0, new) ∷ puts else puts) (e ∷ ts) ≡ (e.0, new) ∷ all_remarked rule ts in
    elim (test e.1) as Chosen [
      | true ↦ λ changed. ap (with_entries puts) (with_here new e ts)
          ∙ entries_past puts (e.0, new) ts above
          ∙ ap (λ (more : List (ℕ × Txn)). (e.0, new) ∷ more) rest
      | false ↦ λ same. entries_past puts e ts above
          ∙ ap (λ (more : List (ℕ × Txn)). e ∷ more) rest
          ∙ ap (λ (t : Txn). (e.0, t) ∷ all_remarked rule ts) (sym (stays e.1 same))
    ] refl

-- ---- the edit

-- What edits behind those of transactions have: these leaves, whose keys rise behind those of transactions, and each
-- of which changes what stands at its key.
pub record IsBehind (book : Book) (more : List Edit) (behind : List Leaf) : Type 0 where
  pub are : flat_map leaves more ≡ behind
  pub flat : deepest more ≡ 0
  pub there : first_missing book behind ≡ None
  pub order : (before : Key) → before.kind < 5 → first_unordered before behind ≡ None
  pub change : AllChange book behind

-- The edits lead to the book with its transactions as the rule makes them, and then on.
pub all_remarked-edits :
    (touches : ℤ → Split → Bool) (rule : ℤ → Split → Split) (more : List Edit) (book : Book)
    → ChangesWhere touches rule → Rises book.transactions
    → edited (whole_edit (remarking touches rule book.transactions ++ more)) book
    ≡ edited_all more (record book { transactions = all_remarked rule book.transactions })
all_remarked-edits touches rule more book where_is r =
    let puts = newly_remarked touches rule book.transactions in
    edited_whole (transaction_edits puts ++ more) book
    ∙ edited_behind (transaction_edits puts) more book
    ∙ ap (edited_all more) (edited_transactions puts book
    ∙ ap (λ (ts : List (ℕ × Txn)). record book { transactions = ts })
    (with_remarked (has_touched touches) rule book.transactions
    (λ t none. stays_same touches rule t where_is none) r))

leaves_before :
    (puts : List (ℕ × Txn)) (more : List Edit) (behind : List Leaf) → flat_map leaves more ≡ behind
    → flat_map leaves (transaction_edits puts ++ more) ≡ transaction_leaves puts ++ behind
leaves_before [] more behind are = are
leaves_before (put ∷ puts) more behind are =
    ap (λ (ls : List Leaf). OfPut put.0 (thing.Txn put.1) ∷ ls) (leaves_before puts more behind are)

deepest_before :
    (puts : List (ℕ × Txn)) (more : List Edit) → deepest more ≡ 0 → deepest (transaction_edits puts ++ more) ≡ 0
deepest_before [] more flat = flat
deepest_before (put ∷ puts) more flat = ap (λ (d : ℕ). max 0 d) (deepest_before puts more flat)

missing_before :
    (book : Book) (puts : List (ℕ × Txn)) (behind : List Leaf) → first_missing book behind ≡ None
    → first_missing book (transaction_leaves puts ++ behind) ≡ None
missing_before book [] behind there = there
missing_before book (put ∷ puts) behind there = missing_before book puts behind there

-- their keys rise
order_from :
    (before : Key) (puts : List (ℕ × Txn)) (behind : List Leaf) → before.kind ≡ 4 → AllAbove before.number puts
    → Rises puts → ((last : Key) → last.kind < 5 → first_unordered last behind ≡ None)
    → first_unordered before (transaction_leaves puts ++ behind) ≡ None
order_from before [] behind here above r order = order before (omega (arith, here))
order_from before (put ∷ puts) behind here above r order =
    let rest = order_from (key_at 4 put.0) puts behind refl r.0 r.1 order in
    grind (arith, nat_tests, here, above.0, rest)

order_all :
    (puts : List (ℕ × Txn)) (behind : List Leaf) → Rises puts
    → ((last : Key) → last.kind < 5 → first_unordered last behind ≡ None)
    → first_unordered (key_at 0 0) (transaction_leaves puts ++ behind) ≡ None
order_all [] behind r order = order (key_at 0 0) (omega arith)
order_all (put ∷ puts) behind r order =
    let rest = order_from (key_at 4 put.0) puts behind refl r.0 r.1 order in grind (arith, nat_tests, rest)

-- each changes its transaction
one_transaction : (old new : Txn) → Some (thing.Txn old) ≡ Some (thing.Txn new) → old ≡ new
one_transaction old new same = cc

transaction_changes :
    (touches : ℤ → Split → Bool) (rule : ℤ → Split → Split) (book : Book) (n : ℕ) (t : Txn)
    → ChangesWhere touches rule → has_touched touches t ≡ true → value_of n book.transactions ≡ Some t
    → Changes book (OfPut n (thing.Txn (remarked rule t)))
transaction_changes touches rule book n t where_is some there same =
    let one = one_transaction t (remarked rule t)
    (sym (ap (option_map (λ (x : Txn). thing.Txn x)) there) ∙ same) in
    splits_change touches rule t.day t.splits where_is some (ap (λ (x : Txn). x.splits) (sym one))

transactions_change :
    (touches : ℤ → Split → Bool) (rule : ℤ → Split → Split) (book : Book) (ts : List (ℕ × Txn)) (behind : List Leaf)
    → ChangesWhere touches rule → Rises ts
    → ((k : ℕ) (x : Txn) → value_of k ts ≡ Some x → value_of k book.transactions ≡ Some x)
    → AllChange book behind
    → AllChange book (transaction_leaves (newly_remarked touches rule ts) ++ behind)
transactions_change touches rule book [] behind where_is r there change = change
transactions_change touches rule book (e ∷ ts) behind where_is r there change =
    let test = has_touched touches in
    let first : value_of e.0 (e ∷ ts) ≡ Some e.1 = grind (arith, nat_tests) in
    let rest = transactions_change touches rule book ts behind where_is r.1
    (λ k x found.
    let past = above_there e.0 k x ts r.0 found in
    let later : value_of k (e ∷ ts) ≡ Some x = grind (arith, nat_tests, past, found) in
    there k x later) change in
    let Chosen : Bool → Type 0 = λ b. test e.1 ≡ b
    → AllChange book (transaction_leaves (if b then (e.0, remarked rule e.1) ∷ remarked_where test rule ts
    else remarked_where test rule ts) ++ behind) in
    elim (test e.1) as Chosen [
      | true ↦ λ some.
          (transaction_changes touches rule book e.0 e.1 where_is some (there e.0 e.1 first), rest)
      | false ↦ λ none. rest
    ] refl

-- The edits are exact, where those behind are.
pub all_remarked-exact :
    (touches : ℤ → Split → Bool) (rule : ℤ → Split → Split) (more : List Edit) (behind : List Leaf) (book : Book)
    → ChangesWhere touches rule → IsRising book → IsBehind book more behind
    → IsExact book (whole_edit (remarking touches rule book.transactions ++ more))
all_remarked-exact touches rule more behind book where_is r is =
    let ts = book.transactions in
    let puts = newly_remarked touches rule ts in
    let edits = transaction_edits puts ++ more in
    let whole = whole_edit edits in
    let all : leaves whole ≡ transaction_leaves puts ++ behind =
    leaves_whole edits ∙ leaves_before puts more behind is.are in
    let rises = rises_remarked (has_touched touches) rule ts r.transactions in
    let named : Option ℕ → Option EditRule = option_map (λ place. OutOfOrder (min place (2 ^ 64 - 1))) in
    let few = shallow_whole edits (deepest_before puts more is.flat) in
    let allowed = three_none (first_missing book (leaves whole)) (out_of_order (leaves whole))
    (broken_where (nat_lt 8 (depth whole)) TooDeep)
    (ap (first_missing book) all ∙ missing_before book puts behind is.there)
    (ap out_of_order all ∙ ap named (order_all puts behind rises is.order))
    (ap (λ (b : Bool). broken_where b TooDeep) few) in
    exact_of book whole r allowed
    (subst (λ (ls : List Leaf). AllChange book ls) (sym all)
    (transactions_change touches rule book ts behind where_is r.transactions (λ k x found. found) is.change))

-- ---- soundness

splits_remarked :
    (rule : ℤ → Split → Split) (day : ℤ) (splits : List Split) → ChangesMarksAlone rule
    → AreRemarked splits (map (rule day) splits)
splits_remarked rule day [] alone = tt
splits_remarked rule day (s ∷ splits) alone =
    let is = alone.each day s in (
      record {
        id = sym (ap (λ (x : Split). x.id) is);
        account = sym (ap (λ (x : Split). x.account) is);
        value = sym (ap (λ (x : Split). x.value) is);
        quantity = sym (ap (λ (x : Split). x.quantity) is);
      },
      splits_remarked rule day splits alone,
    )

-- numbers that are below one stay so
ids_below :
    (rule : ℤ → Split → Split) (day : ℤ) (next : ℕ) (splits : List Split) → ChangesMarksAlone rule
    → All (λ (s : Split). s.id < next) splits → All (λ (s : Split). s.id < next) (map (rule day) splits)
ids_below rule day next splits alone below =
    All-map (λ (s : Split). s.id < next) (rule day) splits
    (All-weaker (λ (s : Split). s.id < next) (λ (s : Split). (rule day s).id < next)
    (λ s less. subst (λ (n : ℕ). n < next) (sym (ap (λ (x : Split). x.id) (alone.each day s))) less) splits below)

all_ids_below :
    (rule : ℤ → Split → Split) (next : ℕ) (ts : List (ℕ × Txn)) → ChangesMarksAlone rule
    → All (λ (s : Split). s.id < next) (splits_of ts)
    → All (λ (s : Split). s.id < next) (splits_of (all_remarked rule ts))
all_ids_below rule next [] alone below = All-nil (λ (s : Split). s.id < next)
all_ids_below rule next (e ∷ ts) alone below =
    let Below : Split → Type 0 = λ s. s.id < next in
    All-append Below (map (rule e.1.day) e.1.splits) (splits_of (all_remarked rule ts))
    (ids_below rule e.1.day next e.1.splits alone (all_front Below e.1.splits (splits_of ts) below))
    (all_ids_below rule next ts alone (all_back Below e.1.splits (splits_of ts) below))

-- The numbers of a book stay below the next one.
pub all_remarked-drawn :
    (book : Book) (rule : ℤ → Split → Split) (next : ℕ) → ChangesMarksAlone rule → AreDrawn book next
    → AreDrawn (record book { transactions = all_remarked rule book.transactions }) next
all_remarked-drawn book rule next alone are = record {
  commodities = are.commodities;
  accounts = are.accounts;
  transactions = All-map (λ (e : ℕ × Txn). e.0 < next) (λ (e : ℕ × Txn). (e.0, remarked rule e.1)) book.transactions
      are.transactions;
  prices = are.prices;
  schedules = are.schedules;
  statements = are.statements;
  lines = are.lines;
  bindings = are.bindings;
  reconciliations = are.reconciliations;
  splits = all_ids_below rule next book.transactions alone are.splits;
  marked = are.marked;
  made = are.made;
}

-- Each of some transactions stands under its number, and its splits are rightly marked as the rule makes them.
abbrev AreMarkedRightly : Book → (ℤ → Split → Split) → List (ℕ × Txn) → Type 0
AreMarkedRightly book rule [] = ⊤
AreMarkedRightly book rule (e ∷ ts) =
    ((value_of e.0 book.transactions ≡ Some e.1)
    × (are_rightly_marked book.reconciliations e.1.voided (map (rule e.1.day) e.1.splits) ≡ true))
    × AreMarkedRightly book rule ts

-- they still do after another is put
marked_beside :
    (book : Book) (rule : ℤ → Split → Split) (n : ℕ) (new : Txn) (ts : List (ℕ × Txn)) → AllAbove n ts
    → AreMarkedRightly book rule ts
    → AreMarkedRightly (record book { transactions = with_entry n new book.transactions }) rule ts
marked_beside book rule n new [] above are = tt
marked_beside book rule n new (e ∷ ts) above are = (
  (
    value_beside e.0 n new e.1 book.transactions (λ same. absurd (let less = above.0 in omega (arith, less, same)))
        are.0.0,
    are.0.1,
  ),
  marked_beside book rule n new ts above.1 are.1,
)

-- those of a table do, where those of the whole do
marked_there :
    (book : Book) (rule : ℤ → Split → Split) (ts : List (ℕ × Txn)) → Rises ts
    → ((k : ℕ) (x : Txn) → value_of k ts ≡ Some x → value_of k book.transactions ≡ Some x)
    → ((k : ℕ) (x : Txn) → value_of k book.transactions ≡ Some x
    → are_rightly_marked book.reconciliations x.voided (map (rule x.day) x.splits) ≡ true)
    → AreMarkedRightly book rule ts
marked_there book rule [] r there marks = tt
marked_there book rule (e ∷ ts) r there marks =
    let first : value_of e.0 (e ∷ ts) ≡ Some e.1 = grind (arith, nat_tests) in
    let here = there e.0 e.1 first in
    let rest = marked_there book rule ts r.1
    (λ k x found.
    let past = above_there e.0 k x ts r.0 found in
    let later : value_of k (e ∷ ts) ≡ Some x = grind (arith, nat_tests, past, found) in
    there k x later) marks in
    ((here, marks e.0 e.1 here), rest)

-- one after another
puts_sound :
    (book : Book) (rule : ℤ → Split → Split) (limit : ℕ) (ts : List (ℕ × Txn)) → ChangesMarksAlone rule → Rises ts
    → AreMarkedRightly book rule ts → AreDrawn book limit → IsSoundBook book
    → IsSoundBook (record book { transactions = with_entries (all_remarked rule ts) book.transactions })
puts_sound book rule limit [] alone r marks are is = is
puts_sound book rule limit (e ∷ ts) alone r marks are is =
    let new = remarked rule e.1 in
    let later = record book { transactions = with_entry e.0 new book.transactions } in
    let Below : Split → Type 0 = λ s. s.id < limit in
    let own = drawn_below e.0 limit e.1 book.transactions are.transactions marks.0.0 in
    let ids = all_of_one Below e.0 e.1 book.transactions marks.0.0 are.splits in
    let drawn = transaction_drawn book e.0 limit new own (ids_below rule e.1.day limit e.1.splits alone ids) are in
    let sound = transaction_remarked book e.0 limit e.1 new marks.0.0 are refl refl
    (splits_remarked rule e.1.day e.1.splits alone) marks.0.1 is in
    puts_sound later rule limit ts alone r.1 (marked_beside book rule e.0 new ts r.0 marks.1) drawn sound

-- where all are put, each stands in the place of its own
all_put : (rule : ℤ → Split → Split) (ts : List (ℕ × Txn)) → remarked_where (λ t. true) rule ts ≡ all_remarked rule ts
all_put rule [] = refl
all_put rule (e ∷ ts) = ap (λ (more : List (ℕ × Txn)). (e.0, remarked rule e.1) ∷ more) (all_put rule ts)

-- A sound book stays sound where its splits are marked otherwise, and rightly.
pub all_remarked-sound :
    (book : Book) (rule : ℤ → Split → Split) (limit : ℕ) → ChangesMarksAlone rule → AreDrawn book limit
    → ((n : ℕ) (t : Txn) → value_of n book.transactions ≡ Some t
    → are_rightly_marked book.reconciliations t.voided (map (rule t.day) t.splits) ≡ true)
    → IsSoundBook book
    → IsSoundBook (record book { transactions = all_remarked rule book.transactions })
all_remarked-sound book rule limit alone are marks is =
    let ts = book.transactions in
    let same : with_entries (all_remarked rule ts) ts ≡ all_remarked rule ts =
    ap (λ (puts : List (ℕ × Txn)). with_entries puts ts) (sym (all_put rule ts))
    ∙ with_remarked (λ t. true) rule ts (λ t none. absurd cc) is.transactions.rise in
    subst (λ (l : List (ℕ × Txn)). IsSoundBook (record book { transactions = l })) same
    (puts_sound book rule limit ts alone is.transactions.rise
    (marked_there book rule ts is.transactions.rise (λ k x found. found) marks) are is)

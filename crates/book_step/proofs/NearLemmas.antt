-- The transactions that have the splits of pairs, and the lines of pairs: under their numbers stands all that the edit
-- of the pairs changes.
use Rattle.std.proofs.Common.{◌≡◌, ◌≢◌, ℕ, ◌+◌, ◌<◌, ◌==◌, ◌||◌, ℤ, Bool, true, false, cond, if◌then◌else◌, List, []}
use Rattle.std.proofs.Common.{◌∷◌, ◌++◌, find, flat_map, get_or, length, map, take, Option, Some, None, option_map}
use Rattle.std.proofs.Common.{refl, sym, ap, subst, ◌∙◌, eq-eqb, arith}
use Rattle.std.specs.Prelude.{Contains}
use Rattle.std.specs.List.{list_any}
use Rattle.std.specs.List.Sorted.{IsStrictlyIncreasing}
use Rattle.std.proofs.lemmas.Bool.{and_parts, eqb-true}
use Rattle.std.proofs.lemmas.Bool.Decides.{nat_tests}
use Rattle.std.proofs.lemmas.List.Folds.{list_any_more}
use Rattle.book_commodity.specs.Table.{Rises, value_of}
use Rattle.book_splits.specs.TransactionRules.{is_among, is_new, numbers_of}
use Rattle.book_splits.specs.declared.split.Split.{Split}
use Rattle.book_splits.specs.declared.transaction.Txn.{Txn}
use Rattle.book_statement.specs.declared.line.Line.{Line}
use Rattle.book_match.specs.declared.views.Matched.{Matched}
use Rattle.book_undo.specs.Book.{Book}
use Rattle.book_undo.specs.declared.edit.Edit.{Edit, Put}
use Rattle.book_undo.specs.declared.thing.Thing.TheVariants as thing
use Rattle.book_sound.specs.Soundness.{IsSoundBook}
use Rattle.book_sound.proofs.SplitFrames.{found_among}
use Rattle.book_import.specs.Edits.{line_edits}
use Rattle.book_finish.proofs.NumberLemmas.{has, has-there, rising, there-has}
use Rattle.book_step.specs.AutoMatching.{HasTaking, clearing, clearing_one, clears, has_pair, lines_newly_paired}
use Rattle.book_step.specs.AutoMatching.{newly_paired, pairing_one, split_of}
use Rattle.book_step.specs.Marking.{Held, IsHeld}
use Rattle.book_step.specs.Remarking.{HasTouched, has_touched, remarked, remarked_where, remarking}
use Rattle.book_step.specs.ScheduleRuns.{transaction_edits}
use Rattle.book_step.specs.UnderNumbers.{made_under}
use Rattle.book_step.proofs.RemarkLemmas.{other_lacks}
use Rattle.book_step.proofs.UnderLemmas.{under-all}

-- ---- a number in a list that grows

has-front : (n : ℕ) (ms ns : List ℕ) → has n ms ≡ true → has n (ms ++ ns) ≡ true
has-front n [] ns there = absurd cc
has-front n (m ∷ ms) ns there = here (n == m) there (has-front n ms ns)
  where
    here : (b : Bool) → (b || has n ms) ≡ true → (has n ms ≡ true → has n (ms ++ ns) ≡ true)
        → (b || has n (ms ++ ns)) ≡ true
    here true any more = refl
    here false any more = more any

has-last : (n : ℕ) (ms : List ℕ) → has n (ms ++ n ∷ []) ≡ true
has-last n [] = ap (λ (b : Bool). b || false) (eq-eqb n n refl)
has-last n (m ∷ ms) = either (n == m) (has-last n ms)
  where
    either : (b : Bool) → has n (ms ++ n ∷ []) ≡ true → (b || has n (ms ++ n ∷ [])) ≡ true
    either true there = refl
    either false there = there

-- ---- the transactions that have the splits of pairs

-- Among the numbers is that of a transaction which has the split.
pub record HasNumber (ts : List (ℕ × Txn)) (numbers : List ℕ) (split : ℕ) : Type 0 where
  pub held : Held
  pub is : IsHeld ts split held
  pub there : has held.number numbers ≡ true

-- It is so for the split of each pair.
abbrev pub HaveNumbers : List (ℕ × Txn) → List ℕ → List Matched → Type 0
HaveNumbers ts numbers pairs = (split : ℕ) → has_pair pairs split ≡ true → HasNumber ts numbers split

-- the number of one transaction more, which has the split of the next pair
pub numbers-more :
    (ts : List (ℕ × Txn)) (pairs : List Matched) (i : ℕ) (d : Matched) (held : Held) (old new : List ℕ)
    → i < length pairs → IsHeld ts (get_or pairs i d).split held → new ≡ old ++ held.number ∷ []
    → HaveNumbers ts old (take i pairs) → HaveNumbers ts new (take (i + 1) pairs)
numbers-more ts pairs i d held old new below is grown before split among =
    let pair = get_or pairs i d in
    by_test (has_pair (take i pairs) split) refl
    (sym (list_any_more (λ (p : Matched). p.split == split) pairs i d below) ∙ among)
  where
    by_test : (b : Bool) → has_pair (take i pairs) split ≡ b → (b || (get_or pairs i d).split == split) ≡ true
        → HasNumber ts new split
    by_test true there any =
        let found = before split there in
        record {
          held = found.held;
          is = found.is;
          there = ap (has found.held.number) grown ∙ has-front found.held.number old (held.number ∷ []) found.there;
        }
    by_test false other same =
        record {
          held = held;
          is = subst (λ (k : ℕ). IsHeld ts k held) (eqb-true (get_or pairs i d).split split same) is;
          there = ap (has held.number) grown ∙ has-last held.number old;
        }

-- a split that becomes cleared, of a transaction that has one
record HasCleared (taken : ℕ → Bool) (splits : List Split) : Type 0 where
  pub number : ℕ
  pub takes : taken number ≡ true
  pub among : is_among (numbers_of splits) number ≡ true

cleared_one : (taken : ℕ → Bool) (day : ℤ) (splits : List Split) → list_any (clears taken day) splits ≡ true
    → HasCleared taken splits
cleared_one taken day [] any = absurd cc
cleared_one taken day (s ∷ splits) any = by_test (clears taken day s) refl any (cleared_one taken day splits)
  where
    later : (b : Bool) → (b || true) ≡ true
    later true = refl
    later false = refl

    by_test : (b : Bool) → clears taken day s ≡ b → (b || list_any (clears taken day) splits) ≡ true
        → (list_any (clears taken day) splits ≡ true → HasCleared taken splits) → HasCleared taken (s ∷ splits)
    by_test true here some more = record {
      number = s.id;
      takes = (and_parts (is_new s.mark) (taken s.id) here).1;
      among = ap (λ (b : Bool). b || is_among (numbers_of splits) s.id) (eq-eqb s.id s.id refl);
    }
    by_test false other some more =
        let one = more some in
        record {
          number = one.number;
          takes = one.takes;
          among = ap (λ (b : Bool). (s.id == one.number) || b) one.among ∙ later (s.id == one.number);
        }

-- The numbers of transactions that have the splits of all pairs are those of all with a split that becomes cleared:
-- no other transaction has the split.
pub all_touched :
    (book : Book) (pairs : List Matched) (found numbers : List ℕ) → IsSoundBook book
    → HaveNumbers book.transactions found pairs → ((n : ℕ) → Contains found n → Contains numbers n)
    → HasTouched (clears (has_pair pairs)) book.transactions numbers
all_touched book pairs found numbers sound have keeps n t there touched =
    let one = cleared_one (has_pair pairs) t.day t.splits touched in
    let near = have one.number one.takes in
    by_test (near.held.number == n) one near refl
  where
    by_test : (b : Bool) (one : HasCleared (has_pair pairs) t.splits)
        (near : HasNumber book.transactions found one.number) → (near.held.number == n) ≡ b → Contains numbers n
    by_test true one near same =
        subst (λ (k : ℕ). Contains numbers k) (eqb-true near.held.number n same)
        (keeps near.held.number (there-has near.held.number found near.there))
    by_test false one near other =
        let x = near.held.transaction in
        let apart : n ≢ near.held.number =
        λ is. absurd (let both = sym (eq-eqb near.held.number n (sym is)) ∙ other in cc) in
        let among = found_among one.number x.splits near.held.split near.is.1 in
        let lacks = other_lacks book near.held.number n one.number x t sound near.is.0 there apart among in
        absurd (let both = sym one.among ∙ lacks in cc)

-- ---- the edits of these are those of all

one_by_one : (taken : ℕ → Bool) (ts : List (ℕ × Txn))
    → flat_map (clearing_one taken) ts ≡ remarking (clears taken) (clearing taken) ts
one_by_one taken [] = refl
one_by_one taken (e ∷ ts) =
    let one : ℕ × Txn = (e.0, remarked (clearing taken) e.1) in
    let more = remarked_where (has_touched (clears taken)) (clearing taken) ts in
    elim (has_touched (clears taken) e.1) as
    (λ (b : Bool). transaction_edits (if b then one ∷ [] else []) ++ flat_map (clearing_one taken) ts
    ≡ transaction_edits (if b then one ∷ more else more)) [
      | true ↦ ap (λ (l : List Edit). Put e.0 (thing.Txn one.1) ∷ l) (one_by_one taken ts)
      | false ↦ one_by_one taken ts
    ]

pub clearing-under :
    (taken : ℕ → Bool) (ts : List (ℕ × Txn)) (numbers : List ℕ) → Rises ts → IsStrictlyIncreasing numbers
    → HasTouched (clears taken) ts numbers
    → made_under (clearing_one taken) ts numbers ≡ remarking (clears taken) (clearing taken) ts
clearing-under taken ts numbers rises up all =
    under-all (clearing_one taken) ts numbers rises (rising numbers up)
    (λ n t there lacks. by_test n t there lacks (has_touched (clears taken) t) refl)
    ∙ one_by_one taken ts
  where
    by_test : (n : ℕ) (t : Txn) → value_of n ts ≡ Some t → has n numbers ≡ false
        → (b : Bool) → has_touched (clears taken) t ≡ b → clearing_one taken (n, t) ≡ []
    by_test n t there lacks true touched =
        absurd (let has_it = has-there n numbers (all n t there touched) in cc)
    by_test n t there lacks false other =
        ap (λ (b : Bool). transaction_edits (if b then (n, remarked (clearing taken) t) ∷ [] else [])) other

-- ---- the lines of pairs

line_among : (pairs : List Matched) (line split : ℕ) → split_of pairs line ≡ Some split
    → has line (map (λ (p : Matched). p.line) pairs) ≡ true
line_among [] line split taken = absurd cc
line_among (pair ∷ pairs) line split taken =
    by_test (pair.line == line) refl taken (line_among pairs line split)
  where
    by_test : (b : Bool) → (pair.line == line) ≡ b
        → option_map (λ (p : Matched). p.split)
        (cond b (Some pair) (find (λ (p : Matched). p.line == line) pairs)) ≡ Some split
        → (split_of pairs line ≡ Some split → has line (map (λ (p : Matched). p.line) pairs) ≡ true)
        → ((line == pair.line) || has line (map (λ (p : Matched). p.line) pairs)) ≡ true
    by_test true same here more =
        ap (λ (b : Bool). b || has line (map (λ (p : Matched). p.line) pairs))
        (eq-eqb line pair.line (sym (eqb-true pair.line line same)))
    by_test false other later more =
        let there = more later in grind (arith, nat_tests, there)

pub all_taking : (pairs : List Matched) (found numbers : List ℕ) → found ≡ map (λ (p : Matched). p.line) pairs
    → ((n : ℕ) → Contains found n → Contains numbers n) → HasTaking (split_of pairs) numbers
all_taking pairs found numbers are keeps line split taken =
    keeps line (there-has line found (ap (has line) are ∙ line_among pairs line split taken))

line_by_line : (takes : ℕ → Option ℕ) (lines : List (ℕ × Line))
    → flat_map (pairing_one takes) lines ≡ line_edits (lines_newly_paired takes lines)
line_by_line takes [] = refl
line_by_line takes (e ∷ lines) =
    let rest = line_by_line takes lines in
    elim (takes e.0) as
    (λ (o : Option ℕ). line_edits (newly_paired e o ++ []) ++ flat_map (pairing_one takes) lines
    ≡ line_edits (newly_paired e o ++ lines_newly_paired takes lines)) [
      | None ↦ rest
      | Some s ↦ ap (λ (l : List Edit). line_edits (newly_paired e (Some s)) ++ l) rest
    ]

pub lines-under :
    (takes : ℕ → Option ℕ) (lines : List (ℕ × Line)) (numbers : List ℕ) → Rises lines → IsStrictlyIncreasing numbers
    → HasTaking takes numbers
    → made_under (pairing_one takes) lines numbers ≡ line_edits (lines_newly_paired takes lines)
lines-under takes lines numbers rises up all =
    under-all (pairing_one takes) lines numbers rises (rising numbers up)
    (λ n line there lacks. by_split n line lacks (takes n) refl)
    ∙ line_by_line takes lines
  where
    by_split : (n : ℕ) (line : Line) → has n numbers ≡ false → (o : Option ℕ) → takes n ≡ o
        → line_edits (newly_paired (n, line) o ++ []) ≡ []
    by_split n line lacks None none = refl
    by_split n line lacks (Some s) some = absurd (let has_it = has-there n numbers (all n s some) in cc)

-- The table that is made of the lines of a whole book has the line of each matched split.
use mathlib.Core.Path.{fun_ext}
use Rattle.std.proofs.Common.{◌≡◌, ℕ, ◌==◌, cond, nat_eq, nat_lt, Bool, true, false, if◌then◌else◌, All, List, []}
use Rattle.std.proofs.Common.{◌∷◌, ◌++◌, Option, Some, None, option_map, is_some, refl, sym, ap}
use Rattle.std.proofs.Common.{◌∙◌, arith}
use Rattle.std.specs.Cmp.{IsStrictWeakOrder}
use Rattle.std.specs.Option.{option_eq}
use Rattle.std.specs.Ordering.{is_lt, nat_cmp}
use Rattle.std.specs.declared.cmp.Ordering.TheVariants.{Less, Equal, Greater}
use Rattle.std.proofs.lemmas.Bool.Decides.{nat_tests}
use Rattle.std.proofs.lemmas.List.Elements.{All-append, All-cons, All-head, All-nil, All-tail}
use Rattle.book_commodity.specs.Table.{Rises, value_of}
use Rattle.book_statement.specs.declared.line.Line.{Line}
use Rattle.book_match.proofs.OrderLemmas.{order-by, sorted, with_row}
use Rattle.book_sound.specs.LineRules.{matched_split}
use Rattle.book_sound.specs.Soundness.{IsSoundBook}
use Rattle.book_sound.proofs.OwnFrames.{all_of_each}
use Rattle.book_undo.specs.Book.{Book}
use Rattle.book_free.specs.FreeSplits.{is_matched, line_of}
use Rattle.book_free.specs.Opening.{AreMatchedOnce, in_order, line_pairs, with_pair}
use Rattle.book_free.specs.Seen.{entry_of_line, is_taken, line_entries, noted}
use Rattle.book_free.proofs.FoundLaws.{IsOne, found, found_any, found_is}
use Rattle.book_free.proofs.MovesLemmas.{has_line, line_one}
use Rattle.book_free.proofs.NotedLemmas.{noted_holds, noted_none}

-- ---- the order
abbrev pub comes_first : ℕ × ℕ → ℕ × ℕ → Bool
comes_first one other = nat_lt one.0 other.0

pub first_order : IsStrictWeakOrder comes_first
first_order = record {
  one_way = λ x y e. grind (arith, nat_tests, e);
  chain = λ x y z e f. grind (arith, nat_tests, e, f);
}

-- the order of the keys of a sort
abbrev pub key_first : ℕ × ℕ → ℕ × ℕ → Bool
key_first one other = is_lt (nat_cmp one.0 other.0)

less_is : (a b : ℕ) → is_lt (nat_cmp a b) ≡ nat_lt a b
less_is a b = by_tests (nat_lt a b) (a == b)
  where
    by_tests : (s v : Bool) → is_lt (if s then Less else (if v then Equal else Greater)) ≡ s
    by_tests true v = refl
    by_tests false true = refl
    by_tests false false = refl

pub key_order : IsStrictWeakOrder key_first
key_order = order-by key_first comes_first (λ x. x) (λ a b. less_is a.0 b.0) first_order

row_is : (pair : ℕ × ℕ) (xs : List (ℕ × ℕ)) → with_row key_first pair xs ≡ with_pair pair xs
row_is pair [] = refl
row_is pair (x ∷ xs) =
    ap (λ (t : Bool). if t then x ∷ with_row key_first pair xs else pair ∷ x ∷ xs) (less_is x.0 pair.0)
    ∙ ap (λ ys. if nat_lt x.0 pair.0 then x ∷ ys else pair ∷ x ∷ xs) (row_is pair xs)

pub order_is : (xs : List (ℕ × ℕ)) → sorted key_first xs ≡ in_order xs
order_is [] = refl
order_is (x ∷ xs) = row_is x (sorted key_first xs) ∙ ap (with_pair x) (order_is xs)

-- what holds of all holds of all in order, and the other way
all_with : (P : ℕ × ℕ → Type 0) (x : ℕ × ℕ) (xs : List (ℕ × ℕ)) → P x → All P xs → All P (with_pair x xs)
all_with P x [] p all = All-cons P x [] p all
all_with P x (y ∷ ys) p all =
    elim (nat_lt y.0 x.0) as (λ (t : Bool). All P (if t then y ∷ with_pair x ys else x ∷ y ∷ ys)) [
      | true ↦ All-cons P y (with_pair x ys) (All-head P y ys all) (all_with P x ys p (All-tail P y ys all))
      | false ↦ All-cons P x (y ∷ ys) p all
    ]

all_order : (P : ℕ × ℕ → Type 0) (xs : List (ℕ × ℕ)) → All P xs → All P (in_order xs)
all_order P [] all = all
all_order P (x ∷ xs) all =
    all_with P x (in_order xs) (All-head P x xs all) (all_order P xs (All-tail P x xs all))

with_all : (P : ℕ × ℕ → Type 0) (x : ℕ × ℕ) (xs : List (ℕ × ℕ)) → All P (with_pair x xs) → P x × All P xs
with_all P x [] all = (All-head P x [] all, All-nil P)
with_all P x (y ∷ ys) all =
    elim (nat_lt y.0 x.0) as (λ (t : Bool).
    All P (if t then y ∷ with_pair x ys else x ∷ y ∷ ys) → P x × All P (y ∷ ys)) [
      | true ↦ λ more.
          let rest = with_all P x ys (All-tail P y (with_pair x ys) more) in
          (rest.0, All-cons P y ys (All-head P y (with_pair x ys) more) rest.1)
      | false ↦ λ more. (All-head P x (y ∷ ys) more, All-tail P x (y ∷ ys) more)
    ] all

order_all : (P : ℕ × ℕ → Type 0) (xs : List (ℕ × ℕ)) → All P (in_order xs) → All P xs
order_all P [] all = all
order_all P (x ∷ xs) all =
    let parts = with_all P x (in_order xs) all in All-cons P x xs parts.0 (order_all P xs parts.1)

-- ---- the pairs of lines

-- A line stands among some, and is matched with a split.
record LineAt (lines : List (ℕ × Line)) (s n : ℕ) : Type 0 where
  line : Line
  there : value_of n lines ≡ Some line
  has : has_line s line ≡ true

pairs_at : (lines : List (ℕ × Line)) → Rises lines → All (λ (x : ℕ × ℕ). LineAt lines x.0 x.1) (line_pairs lines)
pairs_at lines r = flat lines (all_of_each At lines r (λ k x there. own k x there (matched_split x.state) refl))
  where
    Pair : ℕ × ℕ → Type 0
    Pair x = LineAt lines x.0 x.1

    At : ℕ × Line → Type 0
    At e = All Pair (line_entries e.0 (Some e.1))

    same_number : (k : ℕ) → (k == k) ≡ true
    same_number k = grind (arith, nat_tests)

    own : (k : ℕ) (x : Line) → value_of k lines ≡ Some x → (o : Option ℕ) → matched_split x.state ≡ o
        → All Pair (entry_of_line k o)
    own k x there None state = All-nil Pair
    own k x there (Some s) state =
        All-cons Pair (s, k) [] (record {
          line = x;
          there = there;
          has = ap (λ (o : Option ℕ). option_eq nat_eq o (Some s)) state ∙ same_number s;
        }) (All-nil Pair)

    flat : (es : List (ℕ × Line)) → All At es → All Pair (line_pairs es)
    flat [] all = All-nil Pair
    flat (e ∷ es) all =
        All-append Pair (line_entries e.0 (Some e.1)) (line_pairs es) (All-head At e es all)
        (flat es (All-tail At e es all))

none_here : (s : ℕ) (e : ℕ × Line) (es : List (ℕ × Line)) (o : Option ℕ) → matched_split e.1.state ≡ o
    → All (λ (x : ℕ × ℕ). (s == x.0) ≡ false) (entry_of_line e.0 o ++ line_pairs es)
    → (All (λ (x : ℕ × ℕ). (s == x.0) ≡ false) (line_pairs es) → found (has_line s) es ≡ None)
    → found (has_line s) (e ∷ es) ≡ None
none_here s e es None state all more =
    ap (λ (o : Option ℕ). cond (option_eq nat_eq o (Some s)) (Some e) (found (has_line s) es)) state ∙ more all
none_here s e es (Some k) state all more =
    let Other : ℕ × ℕ → Type 0 = λ x. (s == x.0) ≡ false in
    ap (λ (o : Option ℕ). cond (option_eq nat_eq o (Some s)) (Some e) (found (has_line s) es)) state
    ∙ ap (λ (t : Bool). cond t (Some e) (found (has_line s) es))
    (turn s k (All-head Other (k, e.0) (line_pairs es) all))
    ∙ more (All-tail Other (k, e.0) (line_pairs es) all)
  where
    turn : (s k : ℕ) → (s == k) ≡ false → (k == s) ≡ false
    turn s k e = grind (arith, nat_tests, e)

none_of : (s : ℕ) (lines : List (ℕ × Line)) → All (λ (x : ℕ × ℕ). (s == x.0) ≡ false) (line_pairs lines)
    → found (has_line s) lines ≡ None
none_of s [] all = refl
none_of s (e ∷ es) all = none_here s e es (matched_split e.1.state) refl all (none_of s es)

pub lines_made : (lines : List (ℕ × Line)) (s : ℕ) → AreMatchedOnce lines
    → value_of s (noted (in_order (line_pairs lines)) []) ≡ line_of s lines
lines_made lines s once = by_value (value_of s (noted (in_order (line_pairs lines)) [])) refl
  where
    Pair : ℕ × ℕ → Type 0
    Pair x = LineAt lines x.0 x.1

    one : IsOne (has_line s) lines
    one = record { same = λ n m x y here mine there other. once.once s n m x y here mine there other }

    by_value : (o : Option ℕ) → value_of s (noted (in_order (line_pairs lines)) []) ≡ o → o ≡ line_of s lines
    by_value (Some n) e =
        let at = noted_holds (LineAt lines) (in_order (line_pairs lines)) []
        (all_order Pair (line_pairs lines) (pairs_at lines once.rise)) (λ k v none. absurd cc) s n e in
        sym (ap (option_map (λ (x : ℕ × Line). x.0))
        (found_is (has_line s) lines n at.line once.rise one at.there at.has))
    by_value None e =
        let none = (noted_none s (in_order (line_pairs lines)) [] e).0 in
        sym (ap (option_map (λ (x : ℕ × Line). x.0))
        (none_of s lines (order_all (λ (x : ℕ × ℕ). (s == x.0) ≡ false) (line_pairs lines) none)))

pub matched_once : (book : Book) → IsSoundBook book → AreMatchedOnce book.lines
matched_once book is = record {
  rise = is.lines.rise;
  once = λ s n m x y here mine there other. (line_one s book is).same n m x y here mine there other;
}

-- the splits that have a line in the table are those that lines are matched with
pub taken_are : (book : Book) (matched : List (ℕ × ℕ)) → ((s : ℕ) → value_of s matched ≡ line_of s book.lines)
    → is_taken matched ≡ is_matched book.lines
taken_are book matched is = fun_ext (λ s. ap is_some (is s) ∙ found_any (has_line s) book.lines)

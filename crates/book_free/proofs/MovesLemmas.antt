-- What was seen of an edit says what becomes of the splits of a sound book that it leads to another.
use Rattle.std.proofs.Common.{◌≡◌, ℕ, ◌==◌, ◌&&◌, nat_lt, nat_eq, Bool, true, false, if◌then◌else◌, All, List, []}
use Rattle.std.proofs.Common.{◌∷◌, flat_map, map, Option, Some, None, is_some, option_map, refl, sym, ap, subst}
use Rattle.std.proofs.Common.{◌∙◌, arith, ℤ}
use Rattle.std.specs.Option.{option_and_then, option_eq}
use Rattle.std.proofs.lemmas.Bool.{eqb-true, not-true, or_from}
use Rattle.std.proofs.lemmas.Bool.Decides.{nat_tests}
use Rattle.std.proofs.lemmas.List.Elements.{All-head, All-map, All-nil, All-cons, All-tail, All-weaker}
use Rattle.book_commodity.specs.Table.{value_of}
use Rattle.book_splits.specs.TransactionRules.{is_among, numbers_of, share_numbers}
use Rattle.book_splits.specs.declared.split.Split.{Split}
use Rattle.book_splits.specs.declared.transaction.Txn.{Txn}
use Rattle.book_splits.proofs.ReplacedLemmas.{fails_among}
use Rattle.book_statement.specs.declared.line.Line.{Line}
use Rattle.book_statement.specs.declared.line_state.LineState.{LineState}
use Rattle.book_statement.specs.declared.line_state.LineState.TheVariants.{Open, Matched, Dismissed}
use Rattle.book_match.specs.declared.free.Free.{Free}
use Rattle.book_sound.specs.LineRules.{matched_split, shares_split, split_among}
use Rattle.book_sound.specs.Soundness.{IsSoundBook}
use Rattle.book_sound.proofs.SoundFacts.{tables_rise}
use Rattle.book_sound.proofs.SplitFrames.{found_among}
use Rattle.book_undo.specs.Book.{Book, thing_at}
use Rattle.book_undo.specs.Edit.{edited, leaves}
use Rattle.book_undo.specs.EditRules.{IsAllowed}
use Rattle.book_undo.specs.Exact.{any_touches}
use Rattle.book_undo.specs.declared.edit.Edit.{Edit}
use Rattle.book_undo.specs.declared.thing.Thing.TheVariants as thing
use Rattle.book_undo.specs.declared.thing.ThingKind.TheVariants as kind
use Rattle.book_undo.proofs.EditLaws.{edited-leaves, untouched}
use Rattle.book_free.specs.FreeSplits.{free_at, has_matched, is_matched, line_of, open_at, open_in, open_split}
use Rattle.book_free.specs.Moves.{AreMoves, IsUnmoved, move_of}
use Rattle.book_free.specs.Seen.{Seen, all_moves, entry_of_line, is_taken, line_entries, line_now, move_seen}
use Rattle.book_free.specs.Seen.{moves_seen}
use Rattle.book_free.specs.Seen.{new_lines, noted, old_lines, old_splits, seen_after, seen_none, side_of, split_entries}
use Rattle.book_free.specs.Seen.{unless_taken}
use Rattle.book_free.specs.declared.moves.Move.{Move}
use Rattle.book_free.proofs.FoundLaws.{DiffersAt, IsOne, NoneAt, any_there, found_any, found_is, found_lost, found_same}
use Rattle.book_free.proofs.FoundLaws.{turned}
use Rattle.book_free.proofs.FreeLemmas.{found_by_number, own_numbers}
use Rattle.book_free.proofs.NotedLemmas.{noted_holds, noted_none, seen_with}
use Rattle.book_free.proofs.SideLemmas.{all_lines, all_splits, lines_at, lines_put, splits_at, splits_put}

by_order : (n m : ℕ) → (nat_lt n m ≡ true → ⊥) → (nat_lt m n ≡ true → ⊥) → n ≡ m
by_order n m below above = by_tests (nat_lt n m) (nat_lt m n) refl refl
  where
    by_tests : (t u : Bool) → nat_lt n m ≡ t → nat_lt m n ≡ u → n ≡ m
    by_tests true u e f = absurd (below e)
    by_tests false true e f = absurd (above f)
    by_tests false false e f = grind (arith, nat_tests, e, f)

-- ---- in a sound book one transaction at most has a split, and one line at most is matched with it

-- Whether a transaction has a split, and a line is matched with it.
abbrev pub has_in : ℕ → Txn → Bool
has_in s t = is_among (numbers_of t.splits) s

abbrev pub has_line : ℕ → Line → Bool
has_line s line = has_matched s line.state

before_other :
    (s n m : ℕ) (x y : Txn) (book : Book) → IsSoundBook book → value_of n book.transactions ≡ Some x
    → has_in s x ≡ true → value_of m book.transactions ≡ Some y → has_in s y ≡ true → nat_lt n m ≡ true → ⊥
before_other s n m x y book is here mine there other less =
    let none = any_there (λ (e : ℕ × Txn). nat_lt e.0 m && share_numbers y e.1) n x book.transactions here
    (own_numbers book m y is there).1 in
    let apart : share_numbers y x ≡ false = sym (ap (λ (b : Bool). b && share_numbers y x) less) ∙ none in
    let fails = fails_among (is_among (numbers_of x.splits)) s (numbers_of y.splits) other apart in
    cc

pub txn_one : (s : ℕ) (book : Book) → IsSoundBook book → IsOne (has_in s) book.transactions
txn_one s book is = record {
  same = λ n m x y here mine there other.
      by_order n m (before_other s n m x y book is here mine there other)
      (before_other s m n y x book is there other here mine);
}

matched_as : (s : ℕ) (state : LineState) → has_matched s state ≡ true → matched_split state ≡ Some s
matched_as s Open e = absurd cc
matched_as s (Matched n) e = ap (λ (k : ℕ). Some k) (eqb-true n s e)
matched_as s Dismissed e = absurd cc

before_line :
    (s n m : ℕ) (x y : Line) (book : Book) → IsSoundBook book → value_of n book.lines ≡ Some x
    → has_line s x ≡ true → value_of m book.lines ≡ Some y → has_line s y ≡ true → nat_lt n m ≡ true → ⊥
before_line s n m x y book is here mine there other less =
    let kept = is.lines.keep.each m y there in
    let none = any_there (λ (e : ℕ × Line). nat_lt e.0 m && shares_split y e.1) n x book.lines here
    (not-true _ kept.1.1.1.1.1.0) in
    let apart : shares_split y x ≡ false = sym (ap (λ (b : Bool). b && shares_split y x) less) ∙ none in
    let one = matched_as s x.state mine in
    let two = matched_as s y.state other in
    let shares : shares_split y x ≡ true =
    ap (λ (o : Option ℕ). is_some o && option_eq nat_eq (matched_split x.state) o) two
    ∙ ap (λ (o : Option ℕ). option_eq nat_eq o (Some s)) one ∙ same_number s in
    cc
  where
    same_number : (k : ℕ) → (k == k) ≡ true
    same_number k = grind (arith, nat_tests)

pub line_one : (s : ℕ) (book : Book) → IsSoundBook book → IsOne (has_line s) book.lines
line_one s book is = record {
  same = λ n m x y here mine there other.
      by_order n m (before_line s n m x y book is here mine there other)
      (before_line s m n y x book is there other here mine);
}

-- ---- two books between which an edit leads differ where its leaves are

txns_same : (o p : Option Txn) → option_map (λ x. thing.Txn x) o ≡ option_map (λ x. thing.Txn x) p → o ≡ p
txns_same None None e = refl
txns_same None (Some x) e = absurd cc
txns_same (Some x) None e = absurd cc
txns_same (Some x) (Some y) e = cc

lines_same : (o p : Option Line) → option_map (λ x. thing.Line x) o ≡ option_map (λ x. thing.Line x) p → o ≡ p
lines_same None None e = refl
lines_same None (Some x) e = absurd cc
lines_same (Some x) None e = absurd cc
lines_same (Some x) (Some y) e = cc

-- Whether a leaf of an edit is for the transaction of a number, and for the line.
abbrev pub at_txn : Edit → ℕ → Bool
at_txn e m = any_touches kind.Txn m (leaves e)

abbrev pub at_line : Edit → ℕ → Bool
at_line e m = any_touches kind.Line m (leaves e)

pub txns_differ : (b : Book) (e : Edit) → IsSoundBook b → IsSoundBook (edited e b)
    → DiffersAt (at_txn e) b.transactions (edited e b).transactions
txns_differ b e is later = record {
  old_rise = is.transactions.rise;
  new_rise = later.transactions.rise;
  same = λ n none.
      txns_same (value_of n (edited e b).transactions) (value_of n b.transactions)
      (ap (thing_at kind.Txn n) (edited-leaves e b) ∙ untouched kind.Txn n (leaves e) b (tables_rise b is) none);
}

pub lines_differ : (b : Book) (e : Edit) → IsSoundBook b → IsSoundBook (edited e b)
    → DiffersAt (at_line e) b.lines (edited e b).lines
lines_differ b e is later = record {
  old_rise = is.lines.rise;
  new_rise = later.lines.rise;
  same = λ n none.
      lines_same (value_of n (edited e b).lines) (value_of n b.lines)
      (ap (thing_at kind.Line n) (edited-leaves e b) ∙ untouched kind.Line n (leaves e) b (tables_rise b is) none);
}

-- ---- what was seen on one side

-- A split was seen in a transaction where a leaf is.
pub record SplitIn (e : Edit) (b : Book) (s : ℕ) (v : Option Free) : Type 0 where
  pub number : ℕ
  pub txn : Txn
  pub there : value_of number b.transactions ≡ Some txn
  pub touched : at_txn e number ≡ true
  pub has : has_in s txn ≡ true
  pub is : v ≡ open_in s (number, txn)

abbrev splits_on : Edit → Book → List (ℕ × Option Free)
splits_on e b = flat_map (old_splits b) (leaves e)

pub split_seen : (e : Edit) (b : Book) (s : ℕ) (v : Option Free) → IsSoundBook b
    → value_of s (noted (splits_on e b) []) ≡ Some v → SplitIn e b s v
split_seen e b s v is there =
    noted_holds (SplitIn e b) (splits_on e b) []
    (all_splits Seen_ b (leaves e) (λ m at. own m at (value_of m b.transactions) refl)) (λ n w none. absurd cc) s v
    there
  where
    Seen_ : ℕ × Option Free → Type 0
    Seen_ x = SplitIn e b x.0 x.1

    own : (m : ℕ) → at_txn e m ≡ true → (o : Option Txn) → value_of m b.transactions ≡ o → All Seen_ (split_entries o)
    own m at None found = All-nil Seen_
    own m at (Some t) found =
        let entry : Split → ℕ × Option Free = λ x. (x.id, open_split t.day x) in
        All-map Seen_ entry t.splits
        (All-weaker (λ (x : Split). split_among x.id t.splits ≡ Some x) (λ x. Seen_ (entry x))
        (λ x among. record {
          number = m;
          txn = t;
          there = found;
          touched = at;
          has = found_among x.id t.splits x among;
          is = sym (ap (option_and_then (open_split t.day)) among);
        }) t.splits (found_by_number t.splits (own_numbers b m t is found).0))

not_in : (s : ℕ) (day : ℤ) (splits : List Split)
    → All (λ (x : ℕ × Option Free). (s == x.0) ≡ false) (map (λ (x : Split). (x.id, open_split day x)) splits)
    → is_among (numbers_of splits) s ≡ false
not_in s day [] all = refl
not_in s day (x ∷ splits) all =
    let Other : ℕ × Option Free → Type 0 = λ y. (s == y.0) ≡ false in
    let rest = map (λ (y : Split). (y.id, open_split day y)) splits in
    let here = All-head Other (x.id, open_split day x) rest all in
    or_from (x.id == s) (is_among (numbers_of splits) s) (grind (arith, nat_tests, here))
    (not_in s day splits (All-tail Other (x.id, open_split day x) rest all))

pub split_unseen : (e : Edit) (b : Book) (s : ℕ) → value_of s (noted (splits_on e b) []) ≡ None
    → NoneAt (at_txn e) (has_in s) b.transactions
split_unseen e b s none m y at there =
    let Other : ℕ × Option Free → Type 0 = λ x. (s == x.0) ≡ false in
    not_in s y.day y.splits
    (subst (λ (o : Option Txn). All Other (split_entries o)) there
    (splits_at Other b m (leaves e) (noted_none s (splits_on e b) [] none).0 at))

-- A line was seen where a leaf is, matched with a split.
pub record LineIn (e : Edit) (b : Book) (s n : ℕ) : Type 0 where
  pub line : Line
  pub there : value_of n b.lines ≡ Some line
  pub touched : at_line e n ≡ true
  pub has : has_line s line ≡ true

abbrev lines_on : Edit → Book → List (ℕ × ℕ)
lines_on e b = flat_map (old_lines b) (leaves e)

pub line_seen : (e : Edit) (b : Book) (s n : ℕ) → value_of s (noted (lines_on e b) []) ≡ Some n → LineIn e b s n
line_seen e b s n there =
    noted_holds (LineIn e b) (lines_on e b) []
    (all_lines Seen_ b (leaves e) (λ m at. own m at (value_of m b.lines) refl)) (λ k w none. absurd cc) s n there
  where
    Seen_ : ℕ × ℕ → Type 0
    Seen_ x = LineIn e b x.0 x.1

    one : (m : ℕ) → at_line e m ≡ true → (l : Line) → value_of m b.lines ≡ Some l → (o : Option ℕ)
        → matched_split l.state ≡ o → All Seen_ (entry_of_line m o)
    one m at l found None state = All-nil Seen_
    one m at l found (Some k) state =
        All-cons Seen_ (k, m) [] (record {
          line = l;
          there = found;
          touched = at;
          has = ap (λ (o : Option ℕ). option_eq nat_eq o (Some k)) state ∙ same_number k;
        }) (All-nil Seen_)
      where
        same_number : (j : ℕ) → (j == j) ≡ true
        same_number j = grind (arith, nat_tests)

    own : (m : ℕ) → at_line e m ≡ true → (o : Option Line) → value_of m b.lines ≡ o → All Seen_ (line_entries m o)
    own m at None found = All-nil Seen_
    own m at (Some l) found = one m at l found (matched_split l.state) refl

pub line_unseen : (e : Edit) (b : Book) (s : ℕ) → value_of s (noted (lines_on e b) []) ≡ None
    → NoneAt (at_line e) (has_line s) b.lines
line_unseen e b s none m y at there =
    let Other : ℕ × ℕ → Type 0 = λ x. (s == x.0) ≡ false in
    unmatched (matched_split y.state)
    (subst (λ (o : Option Line). All Other (line_entries m o)) there
    (lines_at Other b m (leaves e) (noted_none s (lines_on e b) [] none).0 at))
  where
    unmatched : (o : Option ℕ) → All (λ (x : ℕ × ℕ). (s == x.0) ≡ false) (entry_of_line m o)
        → option_eq nat_eq o (Some s) ≡ false
    unmatched None all = refl
    unmatched (Some k) all =
        let here = All-head (λ (x : ℕ × ℕ). (s == x.0) ≡ false) (k, m) [] all in
        turn k here
      where
        turn : (k : ℕ) → (s == k) ≡ false → (k == s) ≡ false
        turn k e = grind (arith, nat_tests, e)

-- ---- both sides of the splits

-- The tables of both sides.
abbrev seen_splits : Edit → Book → ℕ → Option (Option Free)
seen_splits e b s = value_of s (noted (splits_on e b) [])

abbrev seen_lines : Edit → Book → ℕ → Option ℕ
seen_lines e b s = value_of s (noted (lines_on e b) [])

open_seen : (e : Edit) (b : Book) (s : ℕ) (v : Option Free) → IsSoundBook b → SplitIn e b s v
    → v ≡ open_at s b.transactions
open_seen e b s v is seen =
    seen.is
    ∙ sym (ap (option_and_then (open_in s))
    (found_is (has_in s) b.transactions seen.number seen.txn is.transactions.rise (txn_one s b is) seen.there seen.has))

pub side_before : (b : Book) (e : Edit) (s : ℕ) → IsSoundBook b → IsSoundBook (edited e b)
    → side_of (seen_splits e b s) (is_some (seen_splits e (edited e b) s)) (open_at s b.transactions)
    ≡ open_at s b.transactions
side_before b e s is later = by_old (seen_splits e b s) refl
  where
    by_new : (o : Option (Option Free)) → seen_splits e b s ≡ None → seen_splits e (edited e b) s ≡ o
        → (if is_some o then None else open_at s b.transactions) ≡ open_at s b.transactions
    by_new None f g = refl
    by_new (Some v) f g =
        let seen = split_seen e (edited e b) s v later g in
        sym (ap (option_and_then (open_in s))
        (found_lost (has_in s) (at_txn e) (edited e b).transactions b.transactions seen.number seen.txn
        (turned (at_txn e) b.transactions (edited e b).transactions (txns_differ b e is later))
        (txn_one s (edited e b) later) seen.there seen.has seen.touched (split_unseen e b s f)))

    by_old : (o : Option (Option Free)) → seen_splits e b s ≡ o
        → side_of o (is_some (seen_splits e (edited e b) s)) (open_at s b.transactions) ≡ open_at s b.transactions
    by_old None f = by_new (seen_splits e (edited e b) s) f refl
    by_old (Some v) f = open_seen e b s v is (split_seen e b s v is f)

pub side_after : (b : Book) (e : Edit) (s : ℕ) → IsSoundBook b → IsSoundBook (edited e b)
    → side_of (seen_splits e (edited e b) s) (is_some (seen_splits e b s)) (open_at s b.transactions)
    ≡ open_at s (edited e b).transactions
side_after b e s is later = by_new (seen_splits e (edited e b) s) refl
  where
    by_old : (o : Option (Option Free)) → seen_splits e (edited e b) s ≡ None → seen_splits e b s ≡ o
        → (if is_some o then None else open_at s b.transactions) ≡ open_at s (edited e b).transactions
    by_old None f g =
        sym (ap (option_and_then (open_in s))
        (found_same (has_in s) (at_txn e) b.transactions (edited e b).transactions (txns_differ b e is later)
        (txn_one s (edited e b) later) (split_unseen e b s g) (split_unseen e (edited e b) s f)))
    by_old (Some v) f g =
        let seen = split_seen e b s v is g in
        sym (ap (option_and_then (open_in s))
        (found_lost (has_in s) (at_txn e) b.transactions (edited e b).transactions seen.number seen.txn
        (txns_differ b e is later) (txn_one s b is) seen.there seen.has seen.touched (split_unseen e (edited e b) s f)))

    by_new : (o : Option (Option Free)) → seen_splits e (edited e b) s ≡ o
        → side_of o (is_some (seen_splits e b s)) (open_at s b.transactions) ≡ open_at s (edited e b).transactions
    by_new None f = by_old (seen_splits e b s) f refl
    by_new (Some v) f = open_seen e (edited e b) s v later (split_seen e (edited e b) s v later f)

-- ---- and of the lines

line_found : (e : Edit) (b : Book) (s n : ℕ) → IsSoundBook b → LineIn e b s n → Some n ≡ line_of s b.lines
line_found e b s n is seen =
    sym (ap (option_map (λ (x : ℕ × Line). x.0))
    (found_is (has_line s) b.lines n seen.line is.lines.rise (line_one s b is) seen.there seen.has))

pub line_after : (b : Book) (e : Edit) (s : ℕ) → IsSoundBook b → IsSoundBook (edited e b)
    → line_now (seen_lines e (edited e b) s) (is_some (seen_lines e b s)) (line_of s b.lines)
    ≡ line_of s (edited e b).lines
line_after b e s is later = by_new (seen_lines e (edited e b) s) refl
  where
    by_old : (o : Option ℕ) → seen_lines e (edited e b) s ≡ None → seen_lines e b s ≡ o
        → (if is_some o then None else line_of s b.lines) ≡ line_of s (edited e b).lines
    by_old None f g =
        sym (ap (option_map (λ (x : ℕ × Line). x.0))
        (found_same (has_line s) (at_line e) b.lines (edited e b).lines (lines_differ b e is later)
        (line_one s (edited e b) later) (line_unseen e b s g) (line_unseen e (edited e b) s f)))
    by_old (Some n) f g =
        let seen = line_seen e b s n g in
        sym (ap (option_map (λ (x : ℕ × Line). x.0))
        (found_lost (has_line s) (at_line e) b.lines (edited e b).lines n seen.line (lines_differ b e is later)
        (line_one s b is) seen.there seen.has seen.touched (line_unseen e (edited e b) s f)))

    by_new : (o : Option ℕ) → seen_lines e (edited e b) s ≡ o
        → line_now o (is_some (seen_lines e b s)) (line_of s b.lines) ≡ line_of s (edited e b).lines
    by_new None f = by_old (seen_lines e b s) f refl
    by_new (Some n) f = line_found e (edited e b) s n later (line_seen e (edited e b) s n f)

-- ---- what becomes of a split

-- What was seen of an edit, on both sides.
abbrev pub seen_of : Edit → Book → Seen
seen_of e b = record {
  before = noted (splits_on e b) [];
  after = noted (splits_on e (edited e b)) [];
  lost = noted (lines_on e b) [];
  gained = noted (lines_on e (edited e b)) [];
}

taken_is : (s : ℕ) (b : Book) (o : Option ℕ) → o ≡ line_of s b.lines → is_some o ≡ is_matched b.lines s
taken_is s b o is = ap is_some is ∙ found_any (has_line s) b.lines

abbrev move_with : Option Free → Option Free → Option ℕ → Move
move_with before after line = record { before = before; after = after; line = line }

pub move_is : (b : Book) (e : Edit) (matched : List (ℕ × ℕ)) (s : ℕ) → IsSoundBook b → IsSoundBook (edited e b)
    → value_of s matched ≡ line_of s b.lines
    → move_seen (seen_of e b) matched (open_at s b.transactions) s ≡ move_of s b (edited e b)
move_is b e matched s is later kept =
    let seen = seen_of e b in
    let now = line_now (value_of s seen.gained) (is_some (value_of s seen.lost)) (value_of s matched) in
    let line : now ≡ line_of s (edited e b).lines =
    ap (line_now (value_of s seen.gained) (is_some (value_of s seen.lost))) kept ∙ line_after b e s is later in
    let split = side_of (value_of s seen.before) (is_some (value_of s seen.after)) (open_at s b.transactions) in
    let other = side_of (value_of s seen.after) (is_some (value_of s seen.before)) (open_at s b.transactions) in
    let before : unless_taken (is_taken matched s) split ≡ free_at s b =
    ap (λ (t : Bool). unless_taken t split) (taken_is s b (value_of s matched) kept)
    ∙ ap (unless_taken (is_matched b.lines s)) (side_before b e s is later) in
    let after : unless_taken (is_some now) other ≡ free_at s (edited e b) =
    ap (λ (t : Bool). unless_taken t other) (taken_is s (edited e b) now line)
    ∙ ap (unless_taken (is_matched (edited e b).lines s)) (side_after b e s is later) in
    ap (λ (x : Option Free). move_with x (unless_taken (is_some now) other) now) before
    ∙ ap (λ (x : Option Free). move_with (free_at s b) x now) after
    ∙ ap (move_with (free_at s b) (free_at s (edited e b))) line

-- a split that was seen on no side isn't moved
pub unmoved : (b : Book) (e : Edit) (s : ℕ) → IsSoundBook b → IsSoundBook (edited e b)
    → seen_splits e b s ≡ None → seen_splits e (edited e b) s ≡ None → seen_lines e b s ≡ None
    → seen_lines e (edited e b) s ≡ None → IsUnmoved s b (edited e b)
unmoved b e s is later old new lost gained =
    let line = found_same (has_line s) (at_line e) b.lines (edited e b).lines (lines_differ b e is later)
    (line_one s (edited e b) later) (line_unseen e b s lost) (line_unseen e (edited e b) s gained) in
    let split = found_same (has_in s) (at_txn e) b.transactions (edited e b).transactions (txns_differ b e is later)
    (txn_one s (edited e b) later) (split_unseen e b s old) (split_unseen e (edited e b) s new) in
    let same : line_of s (edited e b).lines ≡ line_of s b.lines = ap (option_map (λ (x : ℕ × Line). x.0)) line in
    let taken : is_matched (edited e b).lines s ≡ is_matched b.lines s =
    sym (found_any (has_line s) (edited e b).lines) ∙ ap is_some same ∙ found_any (has_line s) b.lines in
    record {
      free = ap (λ (t : Bool). unless_taken t (open_at s (edited e b).transactions)) taken
          ∙ ap (λ o. unless_taken (is_matched b.lines s) (option_and_then (open_in s) o)) split;
      line = same;
    }

-- ---- the moves of all that were seen

becomes_holds : {V : Type 0} (becomes : ℕ → Move) (xs : List (ℕ × V))
    → All (λ (x : ℕ × Move). x.1 ≡ becomes x.0) (moves_seen becomes xs)
becomes_holds {V} becomes xs =
    All-map (λ (x : ℕ × Move). x.1 ≡ becomes x.0) (λ (x : ℕ × V). (x.0, becomes x.0)) xs (λ k d lt. refl)

none_in : {V : Type 0} (s : ℕ) (becomes : ℕ → Move) (xs : List (ℕ × V))
    → All (λ (x : ℕ × Move). (s == x.0) ≡ false) (moves_seen becomes xs) → value_of s xs ≡ None
none_in s becomes [] all = refl
none_in {V} s becomes (x ∷ xs) all =
    let Other : ℕ × Move → Type 0 = λ y. (s == y.0) ≡ false in
    ap (λ (t : Bool). if t then Some x.1 else value_of s xs)
    (All-head Other (x.0, becomes x.0) (moves_seen becomes xs) all)
    ∙ none_in s becomes xs (All-tail Other (x.0, becomes x.0) (moves_seen becomes xs) all)

pub moves_are : (b : Book) (e : Edit) (matched : List (ℕ × ℕ)) → IsSoundBook b → IsSoundBook (edited e b)
    → ((s : ℕ) → value_of s matched ≡ line_of s b.lines)
    → AreMoves b (edited e b)
    (all_moves (λ s. move_seen (seen_of e b) matched (open_at s b.transactions) s) (seen_of e b))
moves_are b e matched is later kept = record {
  moved = λ s move there.
      holds seen.gained (noted (moves_seen becomes seen.lost) (noted (moves_seen becomes seen.after) (noted
      (moves_seen becomes seen.before) [])))
      (holds seen.lost (noted (moves_seen becomes seen.after) (noted (moves_seen becomes seen.before) []))
      (holds seen.after (noted (moves_seen becomes seen.before) []) (holds seen.before [] (λ n v none. absurd cc))))
      s move there
      ∙ move_is b e matched s is later (kept s);
  others = λ s none.
      let four = noted_none s (moves_seen becomes seen.gained) (noted (moves_seen becomes seen.lost)
      (noted (moves_seen becomes seen.after) (noted (moves_seen becomes seen.before) []))) none in
      let three = noted_none s (moves_seen becomes seen.lost)
      (noted (moves_seen becomes seen.after) (noted (moves_seen becomes seen.before) [])) four.1 in
      let two = noted_none s (moves_seen becomes seen.after) (noted (moves_seen becomes seen.before) []) three.1 in
      let one = noted_none s (moves_seen becomes seen.before) [] two.1 in
      unmoved b e s is later (none_in s becomes seen.before one.0) (none_in s becomes seen.after two.0)
      (none_in s becomes seen.lost three.0) (none_in s becomes seen.gained four.0);
}
  where
    seen : Seen
    seen = seen_of e b

    becomes : ℕ → Move
    becomes s = move_seen (seen_of e b) matched (open_at s b.transactions) s

    holds : {V : Type 0} (xs : List (ℕ × V)) (es : List (ℕ × Move))
        → ((n : ℕ) (v : Move) → value_of n es ≡ Some v → v ≡ becomes n)
        → (n : ℕ) (v : Move) → value_of n (noted (moves_seen becomes xs) es) ≡ Some v → v ≡ becomes n
    holds xs es each = noted_holds (λ n v. v ≡ becomes n) (moves_seen becomes xs) es (becomes_holds becomes xs) each

-- what an edit was seen to say is what stands on both sides where its leaves are
pub seen_is : (b : Book) (e : Edit) → IsSoundBook b → IsAllowed b e
    → seen_after b (leaves e) seen_none ≡ seen_of e b
seen_is b e is allowed =
    ap (λ xs. seen_with (noted (splits_on e b) []) (noted xs []) (noted (lines_on e b) [])
    (noted (flat_map new_lines (leaves e)) [])) (splits_put b e (tables_rise b is) allowed)
    ∙ ap (λ xs. seen_with (noted (splits_on e b) []) (noted (splits_on e (edited e b)) []) (noted (lines_on e b) [])
    (noted xs [])) (lines_put b e (tables_rise b is) allowed)

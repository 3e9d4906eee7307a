-- What is kept of the free splits of a book and follows moves to another is what is kept of that one, and the index is
-- changed by the splits that are free in one of the two alone.
use Rattle.std.proofs.Common.{◌≡◌, ℕ, ◌+◌, ◌-◌, ◌^◌, ◌≤◌, min, ◌==◌, Bool, true, false, not, ◌&&◌, ◌||◌, if◌then◌else◌}
use Rattle.std.proofs.Common.{List, [], ◌∷◌, ◌++◌, length, Option, Some, None, refl, sym, ap, subst, ◌∙◌, arith}
use Rattle.std.specs.Prelude.{⊤}
use Rattle.std.specs.Option.{option_and_then}
use Rattle.std.proofs.lemmas.Bool.{eqb-true}
use Rattle.std.proofs.lemmas.Bool.Decides.{nat_tests}
use Rattle.book_commodity.specs.Table.{Rises, value_of}
use Rattle.book_commodity.proofs.TableLemmas.{above_value, rises_with, rises_without, value_of_with, value_of_without}
use Rattle.book_match.specs.AmountIndex.{AreAbsent, AreApart, AreThere, Index, Rises as IndexRises, is_same, is_there}
use Rattle.book_match.specs.AmountIndex.{ordered, precedes, with_all, with_free, without_all}
use Rattle.book_match.specs.declared.free.Free.{Free}
use Rattle.book_match.proofs.IndexLaws.{are-absent, are-there, same-is, same-rises, there-ordered}
use Rattle.book_match.proofs.ManyLemmas.{rises-with_all, rises-without_all, there-with_all, there-without_all}
use Rattle.book_match.proofs.OrderedLemmas.{rises-ordered}
use Rattle.book_sound.specs.Soundness.{IsSoundBook}
use Rattle.book_sound.proofs.SplitFrames.{above_there}
use Rattle.book_undo.specs.Book.{Book}
use Rattle.book_free.specs.Following.{CanFollow, HasFollowed, come_of, coming, gone_of, leaving, listed, picked}
use Rattle.book_free.specs.Following.{same_free, with_line, with_lines}
use Rattle.book_free.specs.FreeSplits.{free_among, free_at, free_splits, is_matched, line_of}
use Rattle.book_free.specs.Kept.{differing, Kept}
use Rattle.book_free.specs.Moves.{AreMoves}
use Rattle.book_free.specs.declared.moves.Move.{Move}
use Rattle.book_free.proofs.DifferLemmas.{differs_with_all, differs_without_all, no_difference}
use Rattle.book_free.proofs.FreeAtLemmas.{free_number, free_there, is_entry}
use Rattle.book_free.proofs.FreeLemmas.{free_apart}
use Rattle.book_free.proofs.SplitsOnce.{splits_once}

-- ---- what is picked of moves

-- a split of another number is another
apart : (f g : Free) (n : ℕ) → g.split ≡ n → (f.split == n) ≡ false → is_same f g ≡ false
apart f g n number other = by_test (is_same f g) refl
  where
    by_test : (t : Bool) → is_same f g ≡ t → t ≡ false
    by_test true e =
        absurd (let is = ap (λ (x : Free). x.split) (same-is f g e) in grind (arith, nat_tests, is, number, other))
    by_test false e = refl

entry_apart : (f : Free) (o : Option Free) (n : ℕ) → ((g : Free) → o ≡ Some g → g.split ≡ n)
    → (f.split == n) ≡ false → is_entry o f ≡ false
entry_apart f None n number other = refl
entry_apart f (Some g) n number other = apart f g n (number g refl) other

-- What a function picks of each move has the number of the move.
abbrev pub Own : (Move → Option Free) → List (ℕ × Move) → Type 0
Own pick [] = ⊤
Own pick (m ∷ ms) = ((g : Free) → pick m.1 ≡ Some g → g.split ≡ m.0) × Own pick ms

there_listed : (f : Free) (o : Option Free) (es : List Free)
    → is_there f (listed o ++ es) ≡ (is_entry o f || is_there f es)
there_listed f None es = refl
there_listed f (Some g) es = refl

or_none : (b : Bool) → (b || false) ≡ b
or_none true = refl
or_none false = refl

-- a split is picked where the move of its number has it
there_picked : (pick : Move → Option Free) (ms : List (ℕ × Move)) (f : Free) → Rises ms → Own pick ms
    → is_there f (picked pick ms) ≡ is_entry (option_and_then pick (value_of f.split ms)) f
there_picked pick [] f r own = refl
there_picked pick (m ∷ ms) f r own =
    there_listed f (pick m.1) (picked pick ms)
    ∙ ap (λ (b : Bool). is_entry (pick m.1) f || b) (there_picked pick ms f r.1 own.1)
    ∙ by_number (f.split == m.0) refl
  where
    by_number : (t : Bool) → (f.split == m.0) ≡ t
        → (is_entry (pick m.1) f || is_entry (option_and_then pick (value_of f.split ms)) f)
        ≡ is_entry (option_and_then pick (if t then Some m.1 else value_of f.split ms)) f
    by_number true e =
        let none : value_of f.split ms ≡ None =
        ap (λ (k : ℕ). value_of k ms) (eqb-true f.split m.0 e) ∙ above_value m.0 ms r.0 in
        ap (λ (o : Option Move). is_entry (pick m.1) f || is_entry (option_and_then pick o) f) none
        ∙ or_none (is_entry (pick m.1) f)
    by_number false e =
        ap (λ (b : Bool). b || is_entry (option_and_then pick (value_of f.split ms)) f)
        (entry_apart f (pick m.1) m.0 own.0 e)

-- none is picked twice
apart_picked : (pick : Move → Option Free) (ms : List (ℕ × Move)) → Rises ms → Own pick ms
    → AreApart (picked pick ms)
apart_picked pick [] r own = tt
apart_picked pick (m ∷ ms) r own = one (pick m.1) own.0 (apart_picked pick ms r.1 own.1)
  where
    one : (o : Option Free) → ((g : Free) → o ≡ Some g → g.split ≡ m.0) → AreApart (picked pick ms)
        → AreApart (listed o ++ picked pick ms)
    one None number more = more
    one (Some g) number more = (
      there_picked pick ms g r.1 own.1
          ∙ ap (λ (k : ℕ). is_entry (option_and_then pick (value_of k ms)) g) (number g refl)
          ∙ ap (λ (o : Option Move). is_entry (option_and_then pick o) g) (above_value m.0 ms r.0),
      more,
    )

-- as many are picked as there are moves, at most
length_picked : (pick : Move → Option Free) (ms : List (ℕ × Move)) → length (picked pick ms) ≤ length ms
length_picked pick [] = omega arith
length_picked pick (m ∷ ms) = one (pick m.1) (length_picked pick ms)
  where
    one : (o : Option Free) → length (picked pick ms) ≤ length ms
        → length (listed o ++ picked pick ms) ≤ length (m ∷ ms)
    one None less = omega (arith, less)
    one (Some g) less = omega (arith, less)

length_with : (f : Free) (es : List Free) → length (with_free f es) ≡ length es + 1
length_with f [] = omega arith
length_with f (e ∷ es) =
    let rest = length_with f es in
    elim (precedes e f) as (λ (t : Bool).
    length (if t then e ∷ with_free f es else f ∷ e ∷ es) ≡ length (e ∷ es) + 1) [
      | true ↦ omega (arith, rest)
      | false ↦ omega arith
    ]

length_ordered : (es : List Free) → length (ordered es) ≡ length es
length_ordered [] = refl
length_ordered (e ∷ es) =
    let one = length_with e (ordered es) in
    let more = length_ordered es in
    omega (arith, one, more)

pub come_fits : (ms : List (ℕ × Move)) → length (come_of ms) ≤ length ms
come_fits ms =
    let same = length_ordered (picked coming ms) in
    let most = length_picked coming ms in
    omega (arith, same, most)

-- ---- what a move takes out of the index and puts into it

free_is : (o p : Option Free) → same_free o p ≡ true → o ≡ p
free_is (Some a) (Some b) e = ap (λ (x : Free). Some x) (same-is a b e)
free_is None None e = refl
free_is (Some a) None e = absurd cc
free_is None (Some b) e = absurd cc

none_given : {P : Type 0} (f : Free) → is_entry None f ≡ true → P
none_given f e = absurd cc

-- what leaves it was there,
left_was : (t : Bool) (before : Option Free) (f : Free) → is_entry (if t then None else before) f ≡ true
    → is_entry before f ≡ true
left_was true before f is = none_given f is
left_was false before f is = is

-- what comes into it wasn't,
came_new : (before after : Option Free) (f : Free)
    → is_entry (if same_free before after then None else after) f ≡ true → is_entry before f ≡ false
came_new before after f is = by_test (same_free before after) refl is
  where
    other : (b a : Option Free) → same_free b a ≡ false → is_entry a f ≡ true → is_entry b f ≡ false
    other None a differs is = refl
    other (Some g) None differs is = none_given f is
    other (Some g) (Some h) differs is = by_same (is_same f g) refl
      where
        by_same : (t : Bool) → is_same f g ≡ t → t ≡ false
        by_same true same =
            absurd (let one : is_same g h ≡ true = ap (λ (x : Free). is_same x h) (sym (same-is f g same)) ∙ is in cc)
        by_same false same = refl

    by_test : (t : Bool) → same_free before after ≡ t → is_entry (if t then None else after) f ≡ true
        → is_entry before f ≡ false
    by_test true e is = none_given f is
    by_test false e is = other before after e is

-- and what is there then is what the move says of its number
moved_is : (before after : Option Free) (f : Free)
    → (is_entry (if same_free before after then None else after) f
    || (not (is_entry (if same_free before after then None else before) f) && is_entry before f))
    ≡ is_entry after f
moved_is before after f = by_test (same_free before after) refl
  where
    none_left : (a b : Bool) → (a || (not b && b)) ≡ a
    none_left true true = refl
    none_left true false = refl
    none_left false true = refl
    none_left false false = refl

    by_test : (t : Bool) → same_free before after ≡ t
        → (is_entry (if t then None else after) f
        || (not (is_entry (if t then None else before) f) && is_entry before f))
        ≡ is_entry after f
    by_test true e = ap (λ (o : Option Free). is_entry o f) (free_is before after e)
    by_test false e = none_left (is_entry after f) (is_entry before f)

-- ---- the lines of the splits

-- What a move says of the line of its split, if there is one, and else what was said before.
abbrev pub line_move : Option Move → Option ℕ → Option ℕ
line_move (Some move) other = move.line
line_move None other = other

pub lines_rise : (ms : List (ℕ × Move)) (es : List (ℕ × ℕ)) → Rises es → Rises (with_lines ms es)
lines_rise [] es r = r
lines_rise (m ∷ ms) es r = lines_rise ms (with_line m.0 m.1.line es) (one m.1.line)
  where
    one : (o : Option ℕ) → Rises (with_line m.0 o es)
    one (Some line) = rises_with m.0 line es r
    one None = rises_without m.0 es r

line_with : (n : ℕ) (o : Option ℕ) (s : ℕ) (es : List (ℕ × ℕ)) → Rises es
    → value_of s (with_line n o es) ≡ (if s == n then o else value_of s es)
line_with n (Some line) s es r = value_of_with s n line es
line_with n None s es r = value_of_without s n es r

pub lines_are : (ms : List (ℕ × Move)) (es : List (ℕ × ℕ)) (s : ℕ) → Rises ms → Rises es
    → value_of s (with_lines ms es) ≡ line_move (value_of s ms) (value_of s es)
lines_are [] es s r up = refl
lines_are (m ∷ ms) es s r up =
    lines_are ms (with_line m.0 m.1.line es) s r.1 (lines_rise (m ∷ []) es up)
    ∙ ap (line_move (value_of s ms)) (line_with m.0 m.1.line s es up) ∙ by_number (s == m.0) refl
  where
    by_number : (t : Bool) → (s == m.0) ≡ t
        → line_move (value_of s ms) (if t then m.1.line else value_of s es)
        ≡ line_move (if t then Some m.1 else value_of s ms) (value_of s es)
    by_number true e =
        ap (λ (o : Option Move). line_move o m.1.line)
        (ap (λ (k : ℕ). value_of k ms) (eqb-true s m.0 e) ∙ above_value m.0 ms r.0)
    by_number false e = refl

-- ---- what is kept of one book becomes what is kept of the other

own_moves : (pick : Move → Option Free) (all ms : List (ℕ × Move)) → Rises ms
    → ((n : ℕ) (m : Move) → value_of n ms ≡ Some m → value_of n all ≡ Some m)
    → ((n : ℕ) (m : Move) (g : Free) → value_of n all ≡ Some m → pick m ≡ Some g → g.split ≡ n) → Own pick ms
own_moves pick all [] r each numbered = tt
own_moves pick all (m ∷ ms) r each numbered =
    let first : value_of m.0 (m ∷ ms) ≡ Some m.1 = grind (arith, nat_tests) in (
      λ g is. numbered m.0 m.1 g (each m.0 m.1 first) is,
      own_moves pick all ms r.1
          (λ n x there.
          let past = above_there m.0 n x ms r.0 there in
          each n x (grind (arith, nat_tests, past, there)))
          numbered,
    )

-- one of two that is given is the second
given : (t : Bool) (o : Option Free) (g : Free) → (if t then None else o) ≡ Some g → o ≡ Some g
given true o g e = absurd cc
given false o g e = e

own_leaving : (old new : Book) (ms : List (ℕ × Move)) → Rises ms → AreMoves old new ms → Own leaving ms
own_leaving old new ms up are =
    own_moves leaving ms ms up (λ n m there. there)
    (λ n m g there is.
    free_number n old g (sym (ap (λ (x : Move). x.before) (are.moved n m there))
    ∙ given (same_free m.before m.after) m.before g is))

own_coming : (old new : Book) (ms : List (ℕ × Move)) → Rises ms → AreMoves old new ms → Own coming ms
own_coming old new ms up are =
    own_moves coming ms ms up (λ n m there. there)
    (λ n m g there is.
    free_number n new g (sym (ap (λ (x : Move). x.after) (are.moved n m there))
    ∙ given (same_free m.before m.after) m.after g is))

free_rise : (book : Book) → IsSoundBook book → IndexRises (free_splits book)
free_rise book is =
    rises-ordered (free_among (is_matched book.lines) book.transactions)
    (free_apart (is_matched book.lines) book.transactions (splits_once book is))

-- What the free splits of a book come to, where moves to another take out what leaves and put in what comes.
pub record Becomes (es : List Free) (ms : List (ℕ × Move)) (old new : Book) : Type 0 where
  pub gone_rise : IndexRises (gone_of ms)
  pub come_rise : IndexRises (come_of ms)
  pub there : AreThere (gone_of ms) es
  pub absent : AreAbsent (come_of ms) (without_all (gone_of ms) es)
  pub entries : with_all (come_of ms) (without_all (gone_of ms) es) ≡ free_splits new
  pub count : length (gone_of ms) + length (come_of ms) ≡ differing (free_splits old) (free_splits new)

becomes : (ms : List (ℕ × Move)) (old new : Book) → Rises ms → IsSoundBook old → IsSoundBook new → AreMoves old new ms
    → Becomes (free_splits old) ms old new
becomes ms old new up sound later_sound are =
    let one = differs_without_all es es gs rise rise gone_rise was_there was_there in
    let more = differs_with_all es (without_all gs es) cs was_absent in
    let none = no_difference es in
    record {
      gone_rise = gone_rise;
      come_rise = come_rise;
      there = are-there gs es was_there;
      absent = absent;
      entries = same;
      count = total (length gs) (length cs) (differing es es) _ _ none one more ∙ ap (differing es) same;
    }
  where
    es : List Free
    es = free_splits old

    gs : List Free
    gs = gone_of ms

    cs : List Free
    cs = come_of ms

    rise : IndexRises es
    rise = free_rise old sound

    own_gone : Own leaving ms
    own_gone = own_leaving old new ms up are

    own_come : Own coming ms
    own_come = own_coming old new ms up are

    gone_rise : IndexRises gs
    gone_rise = rises-ordered (picked leaving ms) (apart_picked leaving ms up own_gone)

    come_rise : IndexRises cs
    come_rise = rises-ordered (picked coming ms) (apart_picked coming ms up own_come)

    there_gone : (f : Free) → is_there f gs ≡ is_entry (option_and_then leaving (value_of f.split ms)) f
    there_gone f = there-ordered f (picked leaving ms) ∙ there_picked leaving ms f up own_gone

    there_come : (f : Free) → is_there f cs ≡ is_entry (option_and_then coming (value_of f.split ms)) f
    there_come f = there-ordered f (picked coming ms) ∙ there_picked coming ms f up own_come

    before_is : (s : ℕ) (m : Move) → value_of s ms ≡ Some m → m.before ≡ free_at s old
    before_is s m e = ap (λ (x : Move). x.before) (are.moved s m e)

    was_there : (f : Free) → is_there f gs ≡ true → is_there f es ≡ true
    was_there f is = free_there old f sound ∙ by_move (value_of f.split ms) refl (sym (there_gone f) ∙ is)
      where
        by_move : (o : Option Move) → value_of f.split ms ≡ o → is_entry (option_and_then leaving o) f ≡ true
            → is_entry (free_at f.split old) f ≡ true
        by_move None e is = none_given f is
        by_move (Some m) e is =
            ap (λ (p : Option Free). is_entry p f) (sym (before_is f.split m e))
            ∙ left_was (same_free m.before m.after) m.before f is

    was_absent : (f : Free) → is_there f cs ≡ true → is_there f es ≡ false
    was_absent f is = free_there old f sound ∙ by_move (value_of f.split ms) refl (sym (there_come f) ∙ is)
      where
        by_move : (o : Option Move) → value_of f.split ms ≡ o → is_entry (option_and_then coming o) f ≡ true
            → is_entry (free_at f.split old) f ≡ false
        by_move None e is = none_given f is
        by_move (Some m) e is =
            ap (λ (p : Option Free). is_entry p f) (sym (before_is f.split m e))
            ∙ came_new m.before m.after f is

    and_none : (b : Bool) → (b && false) ≡ false
    and_none true = refl
    and_none false = refl

    absent : AreAbsent cs (without_all gs es)
    absent =
        are-absent cs (without_all gs es)
        (λ f is.
        there-without_all f gs es rise ∙ ap (λ (b : Bool). not (is_there f gs) && b) (was_absent f is)
        ∙ and_none (not (is_there f gs)))

    by_moves : (f : Free) (o : Option Move) → value_of f.split ms ≡ o
        → (is_entry (option_and_then coming o) f
        || (not (is_entry (option_and_then leaving o) f) && is_entry (free_at f.split old) f))
        ≡ is_entry (free_at f.split new) f
    by_moves f None e = ap (λ (p : Option Free). is_entry p f) (sym (are.others f.split e).free)
    by_moves f (Some m) e =
        ap (λ (p : Option Free). is_entry (coming m) f || (not (is_entry (leaving m) f) && is_entry p f))
        (sym (before_is f.split m e))
        ∙ moved_is m.before m.after f
        ∙ ap (λ (x : Move). is_entry x.after f) (are.moved f.split m e)

    there_then : (f : Free) → is_there f (with_all cs (without_all gs es)) ≡ is_there f (free_splits new)
    there_then f =
        there-with_all f cs (without_all gs es)
        ∙ ap (λ (b : Bool). is_there f cs || b) (there-without_all f gs es rise)
        ∙ ap (λ (b : Bool). b || (not (is_there f gs) && is_there f es)) (there_come f)
        ∙ ap (λ (b : Bool). is_entry (option_and_then coming (value_of f.split ms)) f || (not b && is_there f es))
        (there_gone f)
        ∙ ap (λ (b : Bool). is_entry (option_and_then coming (value_of f.split ms)) f
        || (not (is_entry (option_and_then leaving (value_of f.split ms)) f) && b))
        (free_there old f sound)
        ∙ by_moves f (value_of f.split ms) refl ∙ sym (free_there new f later_sound)

    same : with_all cs (without_all gs es) ≡ free_splits new
    same =
        same-rises (with_all cs (without_all gs es)) (free_splits new)
        (rises-with_all cs (without_all gs es) come_rise (rises-without_all gs es rise) absent)
        (free_rise new later_sound) there_then

    total : (g c n d e : ℕ) → n ≡ 0 → d ≡ n + g → e ≡ d + c → g + c ≡ e
    total g c n d e none one more = omega (arith, none, one, more)

pub becomes_of : (kept : Kept) (ms : List (ℕ × Move)) (old new : Book) → Rises ms → CanFollow kept ms old new
    → Becomes kept.index.entries ms old new
becomes_of kept ms old new up can =
    subst (λ (es : List Free). Becomes es ms old new) (sym can.kept_of.free)
    (becomes ms old new up can.sound can.later_sound can.moves_are)

lines_come : (kept : Kept) (ms : List (ℕ × Move)) (old new : Book) (s : ℕ) → Rises kept.matched.entries → Rises ms
    → CanFollow kept ms old new → value_of s (with_lines ms kept.matched.entries) ≡ line_of s new.lines
lines_come kept ms old new s lines_up up can =
    lines_are ms kept.matched.entries s up lines_up
    ∙ ap (line_move (value_of s ms)) (can.kept_of.lines s) ∙ by_lines (value_of s ms) refl
  where
    by_lines : (o : Option Move) → value_of s ms ≡ o → line_move o (line_of s old.lines) ≡ line_of s new.lines
    by_lines (Some m) e = ap (λ (x : Move). x.line) (can.moves_are.moved s m e)
    by_lines None e = sym (can.moves_are.others s e).line

-- What is kept has taken out what leaves by moves, and put in what comes, and has the lines of the moves.
pub record Went (start now : Kept) (middle : Index) (ms : List (ℕ × Move)) : Type 0 where
  pub taken : middle.entries ≡ without_all (gone_of ms) start.index.entries
  pub taken_changes : middle.changes ≡ min (start.index.changes + length (gone_of ms)) (2 ^ 64 - 1)
  pub put : now.index.entries ≡ with_all (come_of ms) middle.entries
  pub put_changes : now.index.changes ≡ min (middle.changes + length (come_of ms)) (2 ^ 64 - 1)
  pub lines : now.matched.entries ≡ with_lines ms start.matched.entries

pub has_followed : (start now : Kept) (middle : Index) (ms : List (ℕ × Move)) (old new : Book)
    → Rises start.matched.entries → Rises ms → CanFollow start ms old new → Went start now middle ms
    → HasFollowed start now old new
has_followed start now middle ms old new lines_up up can went =
    let is = becomes_of start ms old new up can in
    record {
      kept_of = record {
        free = went.put ∙ ap (with_all (come_of ms)) went.taken ∙ is.entries;
        lines = λ s. ap (value_of s) went.lines ∙ lines_come start ms old new s lines_up up can;
      };
      changes = counted start.index.changes middle.changes now.index.changes (length (gone_of ms))
          (length (come_of ms)) (differing (free_splits old) (free_splits new)) went.taken_changes went.put_changes
          is.count;
    }
  where
    counted : (a b c gone come both : ℕ) → b ≡ min (a + gone) (2 ^ 64 - 1) → c ≡ min (b + come) (2 ^ 64 - 1)
        → gone + come ≡ both → c ≡ min (a + both) (2 ^ 64 - 1)
    counted a b c gone come both first next all = omega (arith, first, next, all)

-- What an edit of a book changes in its rows: the rows of the edited book are those before with these changes made.
use Rattle.std.proofs.Common.{◌≡◌, ℕ, suc, ◌+◌, ◌*◌, ◌^◌, ◌<◌, ◌≤◌, max, nat_lt, ◌==◌, Bool, true, false}
use Rattle.std.proofs.Common.{if◌then◌else◌, List, [], ◌∷◌, ◌++◌, map, Option, Some, None, option_map}
use Rattle.std.proofs.Common.{refl, sym, ap, ◌∙◌, subst, append_assoc, arith}
use Rattle.std.proofs.lemmas.Bool.Decides.{nat_tests}
use Rattle.std.proofs.lemmas.Grind.{flat_map-append}
use Rattle.std.specs.List.{AllByRecursion, flat_map}
use Rattle.book_keeper.specs.declared.row.RowKey.{RowKey}
use Rattle.book_keeper.specs.declared.row.Row.{Row}
use Rattle.book_keeper.specs.declared.row.Change.{Change}
use Rattle.book_keeper.specs.Rows.{AreRising, AreRisingFrom, after_change, after_changes, changed_key, rank}
use Rattle.book_keeper.specs.Rows.{with_row, without_row}
use Rattle.book_commodity.proofs.ListLemmas.{mapped_none}
use Rattle.book_undo.specs.Book.{Book, with_currency, without_thing}
use Rattle.book_undo.specs.Edit.{Leaf, OfCurrency, OfPut, OfGone, leaves, edited, key_at}
use Rattle.book_undo.specs.EditRules.{is_above, first_unordered, out_of_order}
use Rattle.book_undo.specs.Thing.{row_kind, kind_of as thing_kind}
use Rattle.book_undo.specs.declared.edit.Edit.{Edit}
use Rattle.book_undo.proofs.EditLaws.{after_leaves, edited-leaves}
use Rattle.book_rows.specs.Row.{IsRecord, kind_of}
use Rattle.book_rows.specs.declared.head.Head.{Head}
use Rattle.book_rows.specs.declared.record.Record.{Record}
use Rattle.book_rows.specs.declared.record.Record.TheVariants as kept
use Rattle.book_opening.specs.BookRows.{behind_head, row_of, things_of}
use Rattle.book_opening.specs.Changes.{GoneBack, GoneForth, PutBack, PutForth, StepChange, StepFits, step_change}
use Rattle.book_opening.specs.Changes.{step_number, with_step, with_steps}
use Rattle.book_opening.specs.Changes.{LeafFits, IsSmallLeaf, changes_of, leaf_changes}
use Rattle.book_opening.specs.Opening.{CanBeRow, OpenIn}
use Rattle.book_opening.specs.Reading.{with_record}
use Rattle.book_opening.specs.State.{State, head_of}
use Rattle.book_opening.specs.Steps.{AreCounted}
use Rattle.book_opening.proofs.Ranked.{put_in, take_out, all_both, all_put, all_take, all_weak, pushed, pushed_one}
use Rattle.book_opening.proofs.StateRecords.{put_record, steps_of, take_back}
use Rattle.book_opening.proofs.StateRecords.{take_forth, take_thing}
use Rattle.book_opening.proofs.StateRecords.{with_book, without_back, without_forth}
use Rattle.book_opening.proofs.ThingRecords.{rank_of, IsSmall, kind_least, kind_most}
use Rattle.book_rows.specs.declared.format.RowFormat.{RowFormat}
use Rattle.book_rows.specs.declared.format.RowFormat.TheVariants.{Two}

-- ---- rows of records
mapped_put :
    (m : RowFormat) (e : ℕ × Record) (es : List (ℕ × Record)) → with_row (row_of m e) (map (row_of m) es) ≡ map (row_of m) (put_in rank_of e es)
mapped_put m e [] = refl
mapped_put m e (y ∷ ys) =
    pushed (row_of m) (nat_lt (rank_of e) (rank_of y)) (rank_of e == rank_of y) (e ∷ y ∷ ys) (e ∷ ys)
    (y ∷ put_in rank_of e ys) (row_of m y ∷ with_row (row_of m e) (map (row_of m) ys))
    (ap (λ (l : List Row). row_of m y ∷ l) (mapped_put m e ys))

mapped_take :
    (m : RowFormat) (key : RowKey) (es : List (ℕ × Record))
    → without_row key (map (row_of m) es) ≡ map (row_of m) (take_out rank_of (rank key) es)
mapped_take m key [] = refl
mapped_take m key (y ∷ ys) =
    pushed_one (row_of m) (rank key == rank_of y) ys (y ∷ take_out rank_of (rank key) ys)
    (row_of m y ∷ without_row key (map (row_of m) ys))
    (ap (λ (l : List Row). row_of m y ∷ l) (mapped_take m key ys))

behind_first :
    (row first : Row) (rows : List Row) → rank first.key < rank row.key
    → with_row row (first ∷ rows) ≡ first ∷ with_row row rows
behind_first row first rows lt = grind (arith, nat_tests)

left_first :
    (key : RowKey) (first : Row) (rows : List Row) → rank first.key < rank key
    → without_row key (first ∷ rows) ≡ first ∷ without_row key rows
left_first key first rows lt = grind (arith, nat_tests)

past_head : (k n : ℕ) → 2 ≤ k → 1 * 2 ^ 64 + 0 < k * 2 ^ 64 + n
past_head k n least = omega arith

-- The rows of a state under a head, in a format.
abbrev pub rows_under : RowFormat → Head → State → List Row
rows_under m head s = map (row_of m) ((0, kept.Head head) ∷ behind_head s)

-- The rows with one more are those of the state with what it stands for.
pub put_row :
    (m : RowFormat) (head : Head) (n : ℕ) (it : Record) (s : State) → 2 ≤ kind_of it → n < 2 ^ 62
    → AllByRecursion IsSmall (behind_head s)
    → with_row (row_of m (n, it)) (rows_under m head s) ≡ rows_under m head (with_record n it s)
put_row m head n it s least small all =
    behind_first (row_of m (n, it)) (row_of m (0, kept.Head head)) (map (row_of m) (behind_head s))
    (past_head (kind_of it) n least)
    ∙ ap (λ (l : List Row). row_of m (0, kept.Head head) ∷ l)
    (mapped_put m (n, it) (behind_head s) ∙ ap (map (row_of m)) (put_record n it s least small all))

gone_row :
    (m : RowFormat) (head : Head) (key : RowKey) (s t : State) → 2 ≤ key.kind
    → take_out rank_of (rank key) (behind_head s) ≡ behind_head t
    → without_row key (rows_under m head s) ≡ rows_under m head t
gone_row m head key s t least taken =
    left_first key (row_of m (0, kept.Head head)) (map (row_of m) (behind_head s)) (past_head key.kind key.id least)
    ∙ ap (λ (l : List Row). row_of m (0, kept.Head head) ∷ l)
    (mapped_take m key (behind_head s) ∙ ap (map (row_of m)) taken)

-- What holds of all records still does with one more.
pub all_with :
    (P : ℕ × Record → Type 0) (n : ℕ) (it : Record) (s : State) → 2 ≤ kind_of it → n < 2 ^ 62
    → AllByRecursion IsSmall (behind_head s) → P (n, it) → AllByRecursion P (behind_head s)
    → AllByRecursion P (behind_head (with_record n it s))
all_with P n it s least small all here h =
    subst (AllByRecursion P) (put_record n it s least small all) (all_put P rank_of (n, it) (behind_head s) here h)

all_gone :
    (P : ℕ × Record → Type 0) (n : ℕ) (s t : State) → take_out rank_of n (behind_head s) ≡ behind_head t
    → AllByRecursion P (behind_head s) → AllByRecursion P (behind_head t)
all_gone P n s t taken h = subst (AllByRecursion P) taken (all_take P rank_of n (behind_head s) h)

same_with_currency : (c : ℕ) (b : Book) → things_of (with_currency c b) ≡ things_of b
unfolding things_of
same_with_currency c b = refl

-- another currency changes no record behind the head
same_behind : (c : ℕ) (s : State) → behind_head s ≡ behind_head (with_book (with_currency c s.book) s)
same_behind c s = ap (λ (l : List (ℕ × Record)). l ++ steps_of s) (sym (same_with_currency c s.book))

-- ---- leaves
rows_after_leaves :
    (ls : List Leaf) (head : Head) (s : State) → AllByRecursion IsSmall (behind_head s) → AllByRecursion IsSmallLeaf ls
    → after_changes (flat_map leaf_changes ls) (rows_under Two head s)
    ≡ rows_under Two head (with_book (after_leaves ls s.book) s)
rows_after_leaves [] head s all small = refl
rows_after_leaves (OfCurrency c ∷ ls) head s all small =
    let same = same_behind c s in
    ap
    (λ (es : List (ℕ × Record)). after_changes (flat_map leaf_changes ls) (map (row_of Two) ((0, kept.Head head) ∷ es)))
    same
    ∙ rows_after_leaves ls head (with_book (with_currency c s.book) s) (subst (AllByRecursion IsSmall) same all) small.1
rows_after_leaves (OfPut n t ∷ ls) head s all small =
    let least = kind_least (thing_kind t) in
    ap (after_changes (flat_map leaf_changes ls)) (put_row Two head n (kept.Thing t) s least small.0 all)
    ∙ rows_after_leaves ls head (with_record n (kept.Thing t) s)
    (all_with IsSmall n (kept.Thing t) s least small.0 all small.0 all) small.1
rows_after_leaves (OfGone k n ∷ ls) head s all small =
    let next = with_book (without_thing k n s.book) s in
    let taken = take_thing k n s small.0 all in
    ap (after_changes (flat_map leaf_changes ls))
    (gone_row Two head (record { kind = row_kind k; id = n }) s next (kind_least k) taken)
    ∙ rows_after_leaves ls head next (all_gone IsSmall (row_kind k * 2 ^ 64 + n) s next taken all) small.1

can_be : (n : ℕ) (it : Record) → 2 ≤ kind_of it → n < 2 ^ 62 → IsRecord Two it → CanBeRow Two (n, it)
can_be n it least small fits = ((refl, small, (λ one. absurd (omega (arith, one, least)))), fits)

-- The numbers of records that can be rows are small.
pub small_numbers : (es : List (ℕ × Record)) → AllByRecursion (CanBeRow Two) es → AllByRecursion IsSmall es
small_numbers es can = all_weak (CanBeRow Two) IsSmall (λ e h. h.0.1) es can

spelled_after :
    (ls : List Leaf) (s : State) → AllByRecursion IsSmallLeaf ls → AllByRecursion LeafFits ls
    → AllByRecursion (CanBeRow Two) (behind_head s)
    → AllByRecursion (CanBeRow Two) (behind_head (with_book (after_leaves ls s.book) s))
spelled_after [] s small fit can = can
spelled_after (OfCurrency c ∷ ls) s small fit can =
    spelled_after ls (with_book (with_currency c s.book) s) small.1 fit.1
    (subst (AllByRecursion (CanBeRow Two)) (same_behind c s) can)
spelled_after (OfPut n t ∷ ls) s small fit can =
    let all = small_numbers (behind_head s) can in
    let least = kind_least (thing_kind t) in
    spelled_after ls (with_record n (kept.Thing t) s) small.1 fit.1
    (all_with (CanBeRow Two) n (kept.Thing t) s least small.0 all (can_be n (kept.Thing t) least small.0 fit.0) can)
spelled_after (OfGone k n ∷ ls) s small fit can =
    let all = small_numbers (behind_head s) can in
    let next = with_book (without_thing k n s.book) s in
    spelled_after ls next small.1 fit.1
    (all_gone (CanBeRow Two) (row_kind k * 2 ^ 64 + n) s next (take_thing k n s small.0 all) can)

-- ---- steps
-- The number of a step that changes can be that of a row.
abbrev pub IsSmallStep : StepChange → Type 0
IsSmallStep step = step_number step < 2 ^ 62

step_row :
    (step : StepChange) (head : Head) (s : State) → IsSmallStep step → AllByRecursion IsSmall (behind_head s)
    → after_change (step_change step) (rows_under Two head s) ≡ rows_under Two head (with_step step s)
step_row (PutBack n e) head s small all = put_row Two head n (kept.Back e) s (omega arith) small all
step_row (GoneBack n) head s small all =
    gone_row Two head (record { kind = 11; id = n }) s (without_back n s) (omega arith) (take_back n s small all)
step_row (PutForth n e) head s small all = put_row Two head n (kept.Forth e) s (omega arith) small all
step_row (GoneForth n) head s small all =
    gone_row Two head (record { kind = 12; id = n }) s (without_forth n s) (omega arith) (take_forth n s all)

step_all :
    (P : ℕ × Record → Type 0) (step : StepChange) (s : State) → IsSmallStep step
    → AllByRecursion IsSmall (behind_head s)
    → ((it : Record) → 2 ≤ kind_of it → IsRecord Two it → P (step_number step, it)) → StepFits step
    → AllByRecursion P (behind_head s) → AllByRecursion P (behind_head (with_step step s))
step_all P (PutBack n e) s small all here fits h =
    all_with P n (kept.Back e) s (omega arith) small all (here (kept.Back e) (omega arith) fits) h
step_all P (GoneBack n) s small all here fits h =
    all_gone P (11 * 2 ^ 64 + n) s (without_back n s) (take_back n s small all) h
step_all P (PutForth n e) s small all here fits h =
    all_with P n (kept.Forth e) s (omega arith) small all (here (kept.Forth e) (omega arith) fits) h
step_all P (GoneForth n) s small all here fits h =
    all_gone P (12 * 2 ^ 64 + n) s (without_forth n s) (take_forth n s all) h

rows_after_steps :
    (steps : List StepChange) (head : Head) (s : State) → AllByRecursion IsSmallStep steps
    → AllByRecursion StepFits steps → AllByRecursion IsSmall (behind_head s)
    → after_changes (map step_change steps) (rows_under Two head s) ≡ rows_under Two head (with_steps steps s)
rows_after_steps [] head s small fit all = refl
rows_after_steps (step ∷ steps) head s small fit all =
    ap (after_changes (map step_change steps)) (step_row step head s small.0 all)
    ∙ rows_after_steps steps head (with_step step s) small.1 fit.1
    (step_all IsSmall step s small.0 all (λ it least fits. small.0) fit.0 all)

spelled_steps :
    (steps : List StepChange) (s : State) → AllByRecursion IsSmallStep steps → AllByRecursion StepFits steps
    → AllByRecursion (CanBeRow Two) (behind_head s) → AllByRecursion (CanBeRow Two) (behind_head (with_steps steps s))
spelled_steps [] s small fit can = can
spelled_steps (step ∷ steps) s small fit can =
    spelled_steps steps (with_step step s) small.1 fit.1
    (step_all (CanBeRow Two) step s small.0 (small_numbers (behind_head s) can)
    (λ it least fits. can_be (step_number step) it least small.0 fits) fit.0 can)

after_both :
    (xs ys : List Change) (rows : List Row) → after_changes (xs ++ ys) rows ≡ after_changes ys (after_changes xs rows)
after_both [] ys rows = refl
after_both (x ∷ xs) ys rows = after_both xs ys (after_change x rows)

-- With the changes of an edit and of steps made, the rows that opened as the state before them open as the state after
-- them, where its steps are those that its head counts.
pub opens_after :
    (rows : List Row) (s t : State) (edit : Edit) (steps : List StepChange) → OpenIn Two rows s
    → behind_head t ≡ behind_head (with_steps steps (with_book (edited edit s.book) s))
    → AllByRecursion IsSmallLeaf (leaves edit) → AllByRecursion LeafFits (leaves edit)
    → AllByRecursion IsSmallStep steps → AllByRecursion StepFits steps
    → IsRecord Two (kept.Head (head_of t)) → AreCounted t
    → OpenIn Two (after_changes (changes_of (head_of t) edit ++ map step_change steps) rows) t
opens_after rows s t edit steps open_as is small fit small_steps fit_steps head_fits counted =
    let head = head_of t in
    let can = open_as.spelled.1 in
    let all = small_numbers (behind_head s) can in
    let book : after_leaves (leaves edit) s.book ≡ edited edit s.book = sym (edited-leaves edit s.book) in
    let middle : State = with_book (edited edit s.book) s in
    let can_middle : AllByRecursion (CanBeRow Two) (behind_head middle) =
    subst (λ (b : Book). AllByRecursion (CanBeRow Two) (behind_head (with_book b s))) book
    (spelled_after (leaves edit) s small fit can) in
    record {
      are = after_both (changes_of head edit) (map step_change steps) rows
          ∙ ap (λ (l : List Row). after_changes (map step_change steps) (after_changes (changes_of head edit) l))
          open_as.are
          ∙ ap (after_changes (map step_change steps)) (rows_after_leaves (leaves edit) head s all small)
          ∙ ap (λ (b : Book). after_changes (map step_change steps) (rows_under Two head (with_book b s))) book
          ∙ rows_after_steps steps head middle small_steps fit_steps (small_numbers (behind_head middle) can_middle)
          ∙ ap (λ (es : List (ℕ × Record)). map (row_of Two) ((0, kept.Head head) ∷ es)) (sym is);
      spelled = (
        ((refl, omega arith, (λ one. refl)), head_fits),
        subst (AllByRecursion (CanBeRow Two)) (sym is) (spelled_steps steps middle small_steps fit_steps can_middle),
      );
      counted = counted;
    }

-- ---- the keys of the changes rise
above_rank :
    (k n j m : ℕ) → is_above (key_at k n) (key_at j m) ≡ true → m < 2 ^ 64 → j * 2 ^ 64 + m < k * 2 ^ 64 + n
above_rank k n j m above small = grind (arith, nat_tests)

ordered_by :
    (t : Bool) (o : Option ℕ) → (if t then option_map (λ place. suc place) o else Some 0) ≡ None
    → (t ≡ true) × (o ≡ None)
ordered_by true None e = (refl, refl)
ordered_by true (Some n) e = absurd cc
ordered_by false o e = absurd cc

rise_from :
    (j m : ℕ) (ls : List Leaf) (n : ℕ) → first_unordered (key_at j m) ls ≡ None → AllByRecursion IsSmallLeaf ls
    → m < 2 ^ 62 → n ≤ max (j * 2 ^ 64 + m + 1) (1 * 2 ^ 64 + 1) → AreRisingFrom n (flat_map leaf_changes ls)
rise_from j m [] n e small low le = tt
rise_from j m (OfCurrency c ∷ ls) n e small low le =
    let both = ordered_by (is_above (key_at 1 0) (key_at j m)) (first_unordered (key_at 1 0) ls) e in
    let above = above_rank 1 0 j m both.0 (omega arith) in
    rise_from 1 0 ls n both.1 small.1 (omega arith) (omega (arith, above))
rise_from j m (OfPut k t ∷ ls) n e small low le =
    let least = kind_least (thing_kind t) in
    let both = ordered_by (is_above (key_at (row_kind (thing_kind t)) k) (key_at j m))
    (first_unordered (key_at (row_kind (thing_kind t)) k) ls) e in
    let above = above_rank (row_kind (thing_kind t)) k j m both.0 (omega arith) in
    let small_here = small.0 in (
      omega (arith, above, least),
      small.0,
      rise_from (row_kind (thing_kind t)) k ls (row_kind (thing_kind t) * 2 ^ 64 + k + 1) both.1 small.1 small.0
          (omega arith),
    )
rise_from j m (OfGone t k ∷ ls) n e small low le =
    let least = kind_least t in
    let both = ordered_by (is_above (key_at (row_kind t) k) (key_at j m))
    (first_unordered (key_at (row_kind t) k) ls) e in
    let above = above_rank (row_kind t) k j m both.0 (omega arith) in (
      omega (arith, above, least),
      small.0,
      rise_from (row_kind t) k ls (row_kind t * 2 ^ 64 + k + 1) both.1 small.1 small.0 (omega arith),
    )

-- The changes of an edit whose leaves have rising keys have rising keys, as a commit wants it.
pub changes_rise :
    (head : Head) (edit : Edit) → out_of_order (leaves edit) ≡ None → AllByRecursion IsSmallLeaf (leaves edit)
    → AreRising (changes_of head edit)
changes_rise head edit e small =
    let order = mapped_none _ (first_unordered (key_at 0 0) (leaves edit)) e in
    (omega arith, omega arith, rise_from 0 0 (leaves edit) (1 * 2 ^ 64 + 0 + 1) order small (omega arith) (omega arith))

rise_both :
    (n m : ℕ) (xs ys : List Change) → AreRisingFrom n xs → n ≤ m → AllByRecursion (λ c. rank (changed_key c) < m) xs
    → AreRisingFrom m ys → AreRisingFrom n (xs ++ ys)
rise_both n m [] [] rise le below more = tt
rise_both n m [] (y ∷ ys) rise le below more =
    let first = more.0 in (omega (arith, le, first), more.1, more.2)
rise_both n m (x ∷ xs) ys rise le below more =
    let past = below.0 in
    (rise.0, rise.1, rise_both (rank (changed_key x) + 1) m xs ys rise.2 (omega (arith, past)) below.1 more)

leaves_below :
    (ls : List Leaf) → AllByRecursion IsSmallLeaf ls
    → AllByRecursion (λ c. rank (changed_key c) < 11 * 2 ^ 64) (flat_map leaf_changes ls)
leaves_below [] small = tt
leaves_below (OfCurrency c ∷ ls) small = leaves_below ls small.1
leaves_below (OfPut n t ∷ ls) small =
    let most = kind_most (thing_kind t) in let low = small.0 in (omega (arith, most, low), leaves_below ls small.1)
leaves_below (OfGone k n ∷ ls) small =
    let most = kind_most k in let low = small.0 in (omega (arith, most, low), leaves_below ls small.1)

-- And so do those of the steps behind them, where their keys do.
pub all_rise :
    (head : Head) (edit : Edit) (steps : List StepChange) → out_of_order (leaves edit) ≡ None
    → AllByRecursion IsSmallLeaf (leaves edit) → AreRisingFrom (11 * 2 ^ 64) (map step_change steps)
    → AreRising (changes_of head edit ++ map step_change steps)
all_rise head edit steps e small more =
    rise_both 0 (11 * 2 ^ 64) (changes_of head edit) (map step_change steps) (changes_rise head edit e small)
    (omega arith)
    (omega arith, leaves_below (leaves edit) small) more

-- ---- the leaves of some edits, edit by edit
pub step_added :
    (changes next all : List Change) (here rest whole : List Leaf) → whole ≡ here ++ rest
    → next ≡ changes ++ flat_map leaf_changes here → changes ++ flat_map leaf_changes whole ≡ all
    → next ++ flat_map leaf_changes rest ≡ all
step_added changes next all here rest whole parts more so_far =
    ap (λ (l : List Change). l ++ flat_map leaf_changes rest) more
    ∙ append_assoc changes (flat_map leaf_changes here) (flat_map leaf_changes rest)
    ∙ ap (λ (l : List Change). changes ++ l)
    (sym (flat_map-append leaf_changes here rest) ∙ ap (flat_map leaf_changes) (sym parts))
    ∙ so_far

pub step_fit :
    {Z : Type 0} (P : Leaf → Type 0) (here rest whole : List Leaf) → whole ≡ here ++ rest → AllByRecursion P here
    → (AllByRecursion P whole → Z) → AllByRecursion P rest → Z
step_fit P here rest whole parts first so_far more =
    so_far (subst (AllByRecursion P) (sym parts) (all_both P here rest first more))

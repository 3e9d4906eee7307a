-- The records of a state behind its head: what a thing or a step that is put or taken out changes of them.
use Rattle.std.proofs.Common.{◌≡◌, ℕ, ◌+◌, ◌*◌, ◌^◌, ◌<◌, ◌≤◌, List, [], ◌∷◌, ◌++◌, refl, sym, ap, ◌∙◌}
use Rattle.std.proofs.Common.{arith}
use Rattle.std.specs.List.{AllByRecursion}
use Rattle.book_commodity.specs.Table.{Rises, with_entry, without_entry}
use Rattle.book_undo.specs.Book.{Book, IsRising, without_thing}
use Rattle.book_undo.specs.Thing.{kind_of as thing_kind, row_kind}
use Rattle.book_undo.specs.declared.edit.Edit.{Edit}
use Rattle.book_undo.specs.declared.thing.Thing.{Thing}
use Rattle.book_undo.specs.declared.thing.ThingKind.{ThingKind}
use Rattle.book_rows.specs.Row.{kind_of}
use Rattle.book_rows.specs.declared.record.Record.{Record}
use Rattle.book_rows.specs.declared.record.Record.TheVariants as kept
use Rattle.book_opening.specs.BookRows.{back_records, behind_head, forth_records, things_of}
use Rattle.book_opening.specs.Reading.{with_record}
use Rattle.book_opening.specs.State.{State}
use Rattle.book_opening.proofs.Ranked.{RisesBy, all_both, all_first, all_last, all_weak, put_entry, put_in, put_pass}
use Rattle.book_opening.proofs.Ranked.{put_stop, rises_both, rises_entries, take_entry, take_out, take_pass, take_stop}
use Rattle.book_opening.proofs.ThingRecords.{IsSmall, kind_most, rank_of, things_behind, things_below, things_rise}
use Rattle.book_opening.proofs.ThingRecords.{things_with, things_without}

-- Where the records of the steps back and forth begin, and where they end.
abbrev back_edge : ℕ
back_edge = 11 * 2 ^ 64

abbrev forth_edge : ℕ
forth_edge = 12 * 2 ^ 64

-- The records of the steps.
abbrev pub steps_of : State → List (ℕ × Record)
steps_of s = back_records s.back ++ forth_records s.forth

back_edges :
    (es : List (ℕ × Edit)) → AllByRecursion IsSmall (back_records es)
    → AllByRecursion (λ e. (back_edge ≤ rank_of e) × (rank_of e < forth_edge)) (back_records es)
back_edges [] small = tt
back_edges (e ∷ es) small = ((omega arith, (let low = small.0 in omega (arith, low))), back_edges es small.1)

forth_edges : (es : List (ℕ × Edit)) → AllByRecursion (λ e. forth_edge ≤ rank_of e) (forth_records es)
forth_edges [] = tt
forth_edges (e ∷ es) = (omega arith, forth_edges es)

-- the parts of what is behind the head
pub small_things : (s : State) → AllByRecursion IsSmall (behind_head s) → AllByRecursion IsSmall (things_of s.book)
small_things s all = all_first IsSmall (things_of s.book) (steps_of s) all

small_steps : (s : State) → AllByRecursion IsSmall (behind_head s) → AllByRecursion IsSmall (steps_of s)
small_steps s all = all_last IsSmall (things_of s.book) (steps_of s) all

small_back : (s : State) → AllByRecursion IsSmall (behind_head s) → AllByRecursion IsSmall (back_records s.back)
small_back s all = all_first IsSmall (back_records s.back) (forth_records s.forth) (small_steps s all)

-- the steps stand behind all things
steps_above :
    (s : State) (n : ℕ) → AllByRecursion IsSmall (behind_head s) → n < back_edge
    → AllByRecursion (λ e. n < rank_of e) (steps_of s)
steps_above s n all low =
    all_both (λ e. n < rank_of e) (back_records s.back) (forth_records s.forth)
    (all_weak (λ (e : ℕ × Record). (back_edge ≤ rank_of e) × (rank_of e < forth_edge))
    (λ (e : ℕ × Record). n < rank_of e) (λ e h. let past = h.0 in omega (arith, past, low)) (back_records s.back)
    (back_edges s.back (small_back s all)))
    (all_weak (λ (e : ℕ × Record). forth_edge ≤ rank_of e) (λ (e : ℕ × Record). n < rank_of e)
    (λ e past. omega (arith, past, low)) (forth_records s.forth) (forth_edges s.forth))

-- the things stand before all steps
things_before :
    (s : State) (n : ℕ) → AllByRecursion IsSmall (behind_head s) → back_edge ≤ n
    → AllByRecursion (λ e. rank_of e < n) (things_of s.book)
things_before s n all high =
    all_weak (λ (e : ℕ × Record). rank_of e < back_edge) (λ (e : ℕ × Record). rank_of e < n)
    (λ e low. omega (arith, low, high)) (things_of s.book) (things_below s.book (small_things s all))

back_before :
    (s : State) (n : ℕ) → AllByRecursion IsSmall (behind_head s) → forth_edge ≤ n
    → AllByRecursion (λ e. rank_of e < n) (back_records s.back)
back_before s n all high =
    all_weak (λ (e : ℕ × Record). (back_edge ≤ rank_of e) × (rank_of e < forth_edge))
    (λ (e : ℕ × Record). rank_of e < n) (λ e h. let low = h.1 in omega (arith, low, high)) (back_records s.back)
    (back_edges s.back (small_back s all))

forth_above :
    (s : State) (n : ℕ) → n < forth_edge → AllByRecursion (λ e. n < rank_of e) (forth_records s.forth)
forth_above s n low =
    all_weak (λ (e : ℕ × Record). forth_edge ≤ rank_of e) (λ (e : ℕ × Record). n < rank_of e)
    (λ e past. omega (arith, past, low)) (forth_records s.forth) (forth_edges s.forth)

-- ---- what is put
put_thing :
    (n : ℕ) (t : Thing) (s : State) → n < 2 ^ 62 → AllByRecursion IsSmall (behind_head s)
    → put_in rank_of (n, kept.Thing t) (behind_head s) ≡ behind_head (with_record n (kept.Thing t) s)
put_thing n t s small all =
    let most = kind_most (thing_kind t) in
    put_stop rank_of (n, kept.Thing t) (things_of s.book) (steps_of s)
    (steps_above s (row_kind (thing_kind t) * 2 ^ 64 + n) all (omega (arith, most, small)))
    ∙ ap (λ (l : List (ℕ × Record)). l ++ steps_of s) (sym (things_with n t s.book small (small_things s all)))

back_put :
    (n : ℕ) (e : Edit) (es : List (ℕ × Edit))
    → put_in rank_of (n, kept.Back e) (back_records es) ≡ back_records (with_entry n e es)
back_put n e es =
    put_entry back_edge (λ (x : ℕ × Edit). (x.0, kept.Back x.1)) rank_of (λ x. refl) n e es

forth_put :
    (n : ℕ) (e : Edit) (es : List (ℕ × Edit))
    → put_in rank_of (n, kept.Forth e) (forth_records es) ≡ forth_records (with_entry n e es)
forth_put n e es =
    put_entry forth_edge (λ (x : ℕ × Edit). (x.0, kept.Forth x.1)) rank_of (λ x. refl) n e es

put_back :
    (n : ℕ) (e : Edit) (s : State) → n < 2 ^ 62 → AllByRecursion IsSmall (behind_head s)
    → put_in rank_of (n, kept.Back e) (behind_head s) ≡ behind_head (with_record n (kept.Back e) s)
put_back n e s small all =
    put_pass rank_of (n, kept.Back e) (things_of s.book) (steps_of s)
    (things_before s (back_edge + n) all (omega arith))
    ∙ ap (λ (l : List (ℕ × Record)). things_of s.book ++ l)
    (put_stop rank_of (n, kept.Back e) (back_records s.back) (forth_records s.forth)
    (forth_above s (back_edge + n) (omega (arith, small)))
    ∙ ap (λ (l : List (ℕ × Record)). l ++ forth_records s.forth) (back_put n e s.back))

put_forth :
    (n : ℕ) (e : Edit) (s : State) → AllByRecursion IsSmall (behind_head s)
    → put_in rank_of (n, kept.Forth e) (behind_head s) ≡ behind_head (with_record n (kept.Forth e) s)
put_forth n e s all =
    put_pass rank_of (n, kept.Forth e) (things_of s.book) (steps_of s)
    (things_before s (forth_edge + n) all (omega arith))
    ∙ ap (λ (l : List (ℕ × Record)). things_of s.book ++ l)
    (put_pass rank_of (n, kept.Forth e) (back_records s.back) (forth_records s.forth)
    (back_before s (forth_edge + n) all (omega arith))
    ∙ ap (λ (l : List (ℕ × Record)). back_records s.back ++ l) (forth_put n e s.forth))

-- The records with one more are those of the state with it.
pub put_record :
    (n : ℕ) (it : Record) (s : State) → 2 ≤ kind_of it → n < 2 ^ 62 → AllByRecursion IsSmall (behind_head s)
    → put_in rank_of (n, it) (behind_head s) ≡ behind_head (with_record n it s)
put_record n (kept.Head h) s least small all = absurd (omega (arith, least))
put_record n (kept.Thing t) s least small all = put_thing n t s small all
put_record n (kept.Back e) s least small all = put_back n e s small all
put_record n (kept.Forth e) s least small all = put_forth n e s all

-- ---- what is taken out
-- The state with another book.
abbrev pub with_book : Book → State → State
with_book book s = record s { book = book }

-- The state without the step back under a number.
abbrev pub without_back : ℕ → State → State
without_back n s = record s { back = without_entry n s.back }

-- The state without the step forth under a number.
abbrev pub without_forth : ℕ → State → State
without_forth n s = record s { forth = without_entry n s.forth }

pub take_thing :
    (k : ThingKind) (n : ℕ) (s : State) → n < 2 ^ 62 → AllByRecursion IsSmall (behind_head s)
    → take_out rank_of (row_kind k * 2 ^ 64 + n) (behind_head s) ≡ behind_head (with_book (without_thing k n s.book) s)
take_thing k n s small all =
    let most = kind_most k in
    take_stop rank_of (row_kind k * 2 ^ 64 + n) (things_of s.book) (steps_of s)
    (steps_above s (row_kind k * 2 ^ 64 + n) all (omega (arith, most, small)))
    ∙ ap (λ (l : List (ℕ × Record)). l ++ steps_of s) (sym (things_without k n s.book small (small_things s all)))

pub take_back :
    (n : ℕ) (s : State) → n < 2 ^ 62 → AllByRecursion IsSmall (behind_head s)
    → take_out rank_of (11 * 2 ^ 64 + n) (behind_head s) ≡ behind_head (without_back n s)
take_back n s small all =
    take_pass rank_of (back_edge + n) (things_of s.book) (steps_of s)
    (things_before s (back_edge + n) all (omega arith))
    ∙ ap (λ (l : List (ℕ × Record)). things_of s.book ++ l)
    (take_stop rank_of (back_edge + n) (back_records s.back) (forth_records s.forth)
    (forth_above s (back_edge + n) (omega (arith, small)))
    ∙ ap (λ (l : List (ℕ × Record)). l ++ forth_records s.forth)
    (take_entry back_edge (λ (x : ℕ × Edit). (x.0, kept.Back x.1)) rank_of (λ x. refl) n (back_edge + n) refl s.back))

pub take_forth :
    (n : ℕ) (s : State) → AllByRecursion IsSmall (behind_head s)
    → take_out rank_of (12 * 2 ^ 64 + n) (behind_head s) ≡ behind_head (without_forth n s)
take_forth n s all =
    take_pass rank_of (forth_edge + n) (things_of s.book) (steps_of s)
    (things_before s (forth_edge + n) all (omega arith))
    ∙ ap (λ (l : List (ℕ × Record)). things_of s.book ++ l)
    (take_pass rank_of (forth_edge + n) (back_records s.back) (forth_records s.forth)
    (back_before s (forth_edge + n) all (omega arith))
    ∙ ap (λ (l : List (ℕ × Record)). back_records s.back ++ l)
    (take_entry forth_edge (λ (x : ℕ × Edit). (x.0, kept.Forth x.1)) rank_of (λ x. refl) n (forth_edge + n) refl
    s.forth))

-- ---- in order
back_rise : (es : List (ℕ × Edit)) → Rises es → RisesBy rank_of (back_records es)
back_rise es rise = rises_entries back_edge (λ (x : ℕ × Edit). (x.0, kept.Back x.1)) rank_of (λ x. refl) es rise

forth_rise : (es : List (ℕ × Edit)) → Rises es → RisesBy rank_of (forth_records es)
forth_rise es rise = rises_entries forth_edge (λ (x : ℕ × Edit). (x.0, kept.Forth x.1)) rank_of (λ x. refl) es rise

-- The tables of a state have rising numbers.
pub record TablesRise (s : State) : Type 0 where
  pub book : IsRising s.book
  pub back : Rises s.back
  pub forth : Rises s.forth

-- The records behind the head rise by kind and number.
pub records_rise :
    (s : State) → TablesRise s → AllByRecursion IsSmall (behind_head s) → RisesBy rank_of (behind_head s)
records_rise s rise all =
    rises_both rank_of (things_of s.book) (steps_of s) (things_rise s.book rise.book (small_things s all))
    (rises_both rank_of (back_records s.back) (forth_records s.forth) (back_rise s.back rise.back)
    (forth_rise s.forth rise.forth)
    (all_weak (λ (e : ℕ × Record). (back_edge ≤ rank_of e) × (rank_of e < forth_edge))
    (λ (e : ℕ × Record). AllByRecursion (λ (x : ℕ × Record). rank_of e < rank_of x) (forth_records s.forth))
    (λ e h. forth_above s (rank_of e) h.1) (back_records s.back) (back_edges s.back (small_back s all))))
    (all_weak (λ (e : ℕ × Record). rank_of e < back_edge)
    (λ (e : ℕ × Record). AllByRecursion (λ (x : ℕ × Record). rank_of e < rank_of x) (steps_of s))
    (λ e low. steps_above s (rank_of e) all low) (things_of s.book) (things_below s.book (small_things s all)))

-- And they stand behind it.
pub records_behind :
    (s : State) → AllByRecursion IsSmall (behind_head s)
    → AllByRecursion (λ e. 1 * 2 ^ 64 + 0 < rank_of e) (behind_head s)
records_behind s all =
    all_both (λ e. 1 * 2 ^ 64 + 0 < rank_of e) (things_of s.book) (steps_of s)
    (things_behind s.book (small_things s all)) (steps_above s (1 * 2 ^ 64 + 0) all (omega arith))

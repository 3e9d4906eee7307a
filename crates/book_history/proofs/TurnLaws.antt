-- What becomes of the kept steps, and of the books to which they lead, where the book is changed, and where a step is
-- taken back or taken again.
use Rattle.std.proofs.Common.{◌≡◌, ℕ, zero, suc, ◌+◌, ◌-◌, ◌<◌, ◌≤◌, ◌==◌, ◌&&◌, nat_lt, not, Bool, true, false}
use Rattle.std.proofs.Common.{if◌then◌else◌, is_some}
use Rattle.std.proofs.Common.{List, [], ◌∷◌, ◌++◌, length, take, reverse, Some, None, refl, sym, ap, ◌∙◌, subst, arith}
use Rattle.std.proofs.lemmas.Bool.Decides.{nat_tests}
use Rattle.std.proofs.lemmas.List.{append-nil, length-reverse, length_push, nil_from_length, reverse-append, take_all}
use Rattle.book_commodity.specs.Table.{Rises, value_of, without_entry}
use Rattle.book_sound.specs.Soundness.{AreDrawn, IsSoundBook}
use Rattle.book_sound.proofs.DrawnFrames.{drawn_later}
use Rattle.book_undo.specs.Book.{Book}
use Rattle.book_undo.specs.Edit.{edited}
use Rattle.book_undo.specs.Inverse.{LeadsBack}
use Rattle.book_undo.specs.declared.edit.Edit.{Edit}
use Rattle.book_history.specs.History.{AreNumberedFrom, IsHistory, later_books, past_books}
use Rattle.book_history.specs.Steps.{AreSound, IsSoundStep, books_to}
use Rattle.book_history.specs.Turns.{back_after_change, back_after_redo, back_after_undo, forth_after_redo}
use Rattle.book_history.specs.Turns.{forth_after_undo, past_after_change, with_room}
use Rattle.book_history.proofs.NumberLaws.{between_numbered, has_last, numbered_between}
use Rattle.book_history.proofs.NumberLaws.{numbered_last, numbered_same}
use Rattle.book_history.proofs.NumberLaws.{with_first, with_last, without_first}
use Rattle.book_history.proofs.NumberLaws.{without_last}

-- ---- steps, one after another
-- They lead to as many books as they are.
pub length_books : (steps : List (ℕ × Edit)) (book : Book) → length (books_to steps book) ≡ length steps
length_books [] book = refl
length_books (step ∷ steps) book = ap suc (length_books steps (edited step.1 book))

-- The first books to which steps lead are those to which the first of the steps lead.
pub books_front :
    (front rest : List (ℕ × Edit)) (count : ℕ) (book : Book) → length front ≡ count
    → take count (books_to (front ++ rest) book) ≡ books_to front book
books_front front rest count book is =
    ap (λ (n : ℕ). take n (books_to (front ++ rest) book)) (sym is) ∙ by front book
  where
    by : (front : List (ℕ × Edit)) (book : Book)
        → take (length front) (books_to (front ++ rest) book) ≡ books_to front book
    by [] book = refl
    by (step ∷ front) book = ap (λ (l : List Book). edited step.1 book ∷ l) (by front (edited step.1 book))

-- The first of sound steps are sound.
pub sound_front :
    (next : ℕ) (front rest : List (ℕ × Edit)) (book : Book) → AreSound next (front ++ rest) book
    → AreSound next front book
sound_front next [] rest book sound = tt
sound_front next (step ∷ front) rest book sound =
    (sound.0, sound_front next front rest (edited step.1 book) sound.1)

-- A sound step stays sound where the next number grows.
pub step_later :
    (next after : ℕ) (book : Book) (edit : Edit) → next ≤ after → IsSoundStep next book edit
    → IsSoundStep after book edit
step_later next after book edit le step = record {
  allowed = step.allowed;
  sound = step.sound;
  drawn = drawn_later (edited edit book) next after le step.drawn;
}

-- So do several steps.
pub sound_later :
    (next after : ℕ) (steps : List (ℕ × Edit)) (book : Book) → next ≤ after → AreSound next steps book
    → AreSound after steps book
sound_later next after [] book le sound = tt
sound_later next after (step ∷ steps) book le sound =
    (step_later next after book step.1 le sound.0, sound_later next after steps (edited step.1 book) le sound.1)

-- The step that leads back is sound in the edited book, where the book before it was sound.
pub step_back :
    (next : ℕ) (book : Book) (edit inverse : Edit) → LeadsBack book edit inverse → IsSoundBook book
    → AreDrawn book next → IsSoundStep next (edited edit book) inverse
step_back next book edit inverse leads sound drawn = record {
  allowed = leads.allowed;
  sound = subst IsSoundBook (sym leads.same) sound;
  drawn = subst (λ (b : Book). AreDrawn b next) (sym leads.same) drawn;
}

-- Behind it those steps are sound that are sound from the book before.
steps_back :
    (next number : ℕ) (book : Book) (edit inverse : Edit) (steps : List (ℕ × Edit)) → LeadsBack book edit inverse
    → IsSoundBook book → AreDrawn book next → AreSound next steps book
    → AreSound next ((number, inverse) ∷ steps) (edited edit book)
steps_back next number book edit inverse steps leads sound drawn steps_sound = (
  step_back next book edit inverse leads sound drawn,
  subst (λ (b : Book). AreSound next steps b) (sym leads.same) steps_sound,
)

-- They lead to the book before, and from there to those to which the steps behind it lead.
books_back :
    (number : ℕ) (book : Book) (edit inverse : Edit) (steps : List (ℕ × Edit)) → LeadsBack book edit inverse
    → books_to ((number, inverse) ∷ steps) (edited edit book) ≡ book ∷ books_to steps book
books_back number book edit inverse steps leads = ap (λ (b : Book). b ∷ books_to steps b) leads.same

reverse_last : {T : Type 0} (init : List T) (x : T) → reverse (init ++ x ∷ []) ≡ x ∷ reverse init
reverse_last init x = reverse-append init (x ∷ [])

reverse_first : {T : Type 0} (x : T) (rest : List T) → reverse (x ∷ rest) ≡ reverse rest ++ x ∷ []
reverse_first x rest = reverse-append (x ∷ []) rest

history_same :
    (next : ℕ) (book : Book) (position past later : ℕ) (back now_back forth now_forth : List (ℕ × Edit))
    → back ≡ now_back → forth ≡ now_forth → IsHistory next book position past later back forth
    → IsHistory next book position past later now_back now_forth
history_same next book position past later back now_back forth now_forth same also h =
    subst (λ (l : List (ℕ × Edit)). IsHistory next book position past later l now_forth) same
    (subst (λ (l : List (ℕ × Edit)). IsHistory next book position past later back l) also h)

-- Without steps none are kept, however many led to the book.
pub fresh_history : (next : ℕ) (book : Book) (position : ℕ) → IsHistory next book position 0 0 [] []
fresh_history next book position = record {
  reached = omega arith;
  most = omega arith;
  back_numbers = tt;
  back_count = refl;
  forth_numbers = tt;
  forth_count = refl;
  back_sound = tt;
  forth_sound = tt;
}

-- Rising steps are kept steps where they are those that are counted, and are sound.
pub counted_history :
    (next : ℕ) (book : Book) (position past later : ℕ) (back forth : List (ℕ × Edit)) → past ≤ position
    → past + later ≤ 256 → Rises back → Rises forth
    → ((n : ℕ) → is_some (value_of n back) ≡ (nat_lt (position - past) n && not (nat_lt position n)))
    → ((n : ℕ) → is_some (value_of n forth) ≡ (nat_lt position n && not (nat_lt (position + later) n)))
    → AreSound next (reverse back) book → AreSound next forth book
    → IsHistory next book position past later back forth
counted_history next book position past later back forth reached most rise also has_back has_forth before behind =
    let backs = between_numbered (position - past) position back rise (omega arith) has_back in
    let forths = between_numbered position (position + later) forth also (omega arith) has_forth in
    let back_count = backs.1 in
    let forth_count = forths.1 in
    record {
      reached = reached;
      most = most;
      back_numbers = backs.0;
      back_count = omega (arith, back_count, reached);
      forth_numbers = forths.0;
      forth_count = omega (arith, forth_count);
      back_sound = before;
      forth_sound = behind;
    }

-- The steps back are those that are counted.
pub back_counted :
    (next : ℕ) (book : Book) (position past later : ℕ) (back forth : List (ℕ × Edit))
    → IsHistory next book position past later back forth → (n : ℕ)
    → is_some (value_of n back) ≡ (nat_lt (position - past) n && not (nat_lt position n))
back_counted next book position past later back forth h n =
    let reached = h.reached in
    let count = h.back_count in
    numbered_between (position - past) position back h.back_numbers (omega (arith, reached, count)) n

-- So are the steps forth.
pub forth_counted :
    (next : ℕ) (book : Book) (position past later : ℕ) (back forth : List (ℕ × Edit))
    → IsHistory next book position past later back forth → (n : ℕ)
    → is_some (value_of n forth) ≡ (nat_lt position n && not (nat_lt (position + later) n))
forth_counted next book position past later back forth h n =
    numbered_between position (position + later) forth h.forth_numbers (ap (λ (k : ℕ). position + k) h.forth_count) n

-- There are as many books before the present one as steps back.
pub length_past :
    (next : ℕ) (book : Book) (position past later : ℕ) (back forth : List (ℕ × Edit))
    → IsHistory next book position past later back forth → length (past_books back book) ≡ past
length_past next book position past later back forth h =
    length_books (reverse back) book ∙ length-reverse back ∙ h.back_count

-- There are as many that were taken back as steps forth.
pub length_later :
    (next : ℕ) (book : Book) (position past later : ℕ) (back forth : List (ℕ × Edit))
    → IsHistory next book position past later back forth → length (later_books forth book) ≡ later
length_later next book position past later back forth h = length_books forth book ∙ h.forth_count

pub no_undo :
    (next : ℕ) (book : Book) (position past later : ℕ) (back forth : List (ℕ × Edit))
    → IsHistory next book position past later back forth → past ≡ 0 → past_books back book ≡ []
no_undo next book position past later back forth h none =
    nil_from_length (past_books back book) (length_past next book position past later back forth h ∙ none)

pub no_redo :
    (next : ℕ) (book : Book) (position past later : ℕ) (back forth : List (ℕ × Edit))
    → IsHistory next book position past later back forth → later ≡ 0 → later_books forth book ≡ []
no_redo next book position past later back forth h none =
    nil_from_length (later_books forth book) (length_later next book position past later back forth h ∙ none)

-- ---- after a change
-- What is left of the steps back where there has to be room for one more.
record IsRoom (position past : ℕ) (back kept : List (ℕ × Edit)) : Type 0 where
  count : length kept + 1 ≡ past_after_change past
  numbered : AreNumberedFrom (position + 1 - past_after_change past + 1) kept
  dropped : List (ℕ × Edit)
  reversed : reverse back ≡ reverse kept ++ dropped
  books : (book : Book) → take 255 (books_to (reverse back) book) ≡ books_to (reverse kept) book

room_full :
    (position past : ℕ) (back : List (ℕ × Edit)) → past ≡ 256 → past ≤ position
    → AreNumberedFrom (position - past + 1) back → length back ≡ past
    → IsRoom position past back (without_entry (position - 255) back)
room_full position past [] full reached are count = absurd (omega (arith, full, count))
room_full position past (e ∷ es) full reached are count =
    let left : without_entry (position - 255) (e ∷ es) ≡ es = without_first (position - 255) e es
    (numbered_same (position - past + 1) (position - 255) (e ∷ es) (omega (arith, full, reached)) are) in
    let many : length es ≡ 255 = omega (arith, full, count) in
    subst (λ (l : List (ℕ × Edit)). IsRoom position past (e ∷ es) l) (sym left) (record {
      count = omega (arith, full, many);
      numbered = numbered_same (suc (position - past + 1)) (position + 1 - past_after_change past + 1) es
          (omega (arith, full, reached)) are.1;
      dropped = e ∷ [];
      reversed = reverse_first e es;
      books = λ book. ap (λ (l : List (ℕ × Edit)). take 255 (books_to l book)) (reverse_first e es)
          ∙ books_front (reverse es) (e ∷ []) 255 book (length-reverse es ∙ many);
    })

room_left :
    (position past : ℕ) (back : List (ℕ × Edit)) → past ≤ 255 → past ≤ position
    → AreNumberedFrom (position - past + 1) back → length back ≡ past → IsRoom position past back back
room_left position past back few reached are count = record {
  count = omega (arith, few, count);
  numbered = numbered_same (position - past + 1) (position + 1 - past_after_change past + 1) back
      (omega (arith, few, reached)) are;
  dropped = [];
  reversed = sym (append-nil (reverse back));
  books = λ book. take_all 255 (books_to (reverse back) book)
      (let many = length_books (reverse back) book ∙ length-reverse back ∙ count in omega (arith, many, few));
}

has_room :
    (position past : ℕ) (back : List (ℕ × Edit)) → past ≤ 256 → past ≤ position
    → AreNumberedFrom (position - past + 1) back → length back ≡ past
    → IsRoom position past back (with_room position past back)
has_room position past back most reached are count = by (past == 256) refl
  where
    by : (t : Bool) → (past == 256) ≡ t
        → IsRoom position past back (if t then without_entry (position - 255) back else back)
    by true test = room_full position past back (grind (arith, nat_tests)) reached are count
    by false test =
        let other : past < 256 = grind (arith, nat_tests) in
        room_left position past back (omega (arith, other)) reached are count

room_of :
    (next : ℕ) (book : Book) (position past later : ℕ) (back forth : List (ℕ × Edit))
    → IsHistory next book position past later back forth → IsRoom position past back (with_room position past back)
room_of next book position past later back forth h =
    let most = h.most in has_room position past back (omega (arith, most)) h.reached h.back_numbers h.back_count

-- the step that leads back stands behind those that are left
change_back :
    (position past : ℕ) (inverse : Edit) (back : List (ℕ × Edit)) → past ≤ position
    → IsRoom position past back (with_room position past back)
    → (position + 1 ≡ position + 1 - past_after_change past + 1 + length (with_room position past back))
    × (back_after_change position past inverse back ≡ with_room position past back ++ (position + 1, inverse) ∷ [])
change_back position past inverse back reached room =
    let count = room.count in
    let number : position + 1 ≡ position + 1 - past_after_change past + 1 + length (with_room position past back) =
    count_by (length (with_room position past back)) count reached in (
      number,
      with_last (position + 1 - past_after_change past + 1) (position + 1) inverse (with_room position past back)
          room.numbered number,
    )
  where
    count_by : (kept : ℕ) → kept + 1 ≡ past_after_change past → past ≤ position
        → position + 1 ≡ position + 1 - past_after_change past + 1 + kept
    count_by kept count reached = omega (arith, count, reached)

-- After a change, the steps that are left and the one that leads back are kept, and none forth.
pub changed_history :
    (next : ℕ) (book : Book) (position past later : ℕ) (back forth : List (ℕ × Edit))
    → IsHistory next book position past later back forth → IsSoundBook book → AreDrawn book next
    → (edit inverse : Edit) (after : ℕ) → LeadsBack book edit inverse → next ≤ after
    → IsHistory after (edited edit book) (position + 1) (past_after_change past) 0
    (back_after_change position past inverse back) []
changed_history next book position past later back forth h sound drawn edit inverse after leads le =
    let room = room_of next book position past later back forth h in
    let kept = with_room position past back in
    let parts = change_back position past inverse back h.reached room in
    let reached = h.reached in
    let left = sound_front next (reverse kept) room.dropped book
    (subst (λ (l : List (ℕ × Edit)). AreSound next l book) room.reversed h.back_sound) in
    history_same after (edited edit book) (position + 1) (past_after_change past) 0
    (kept ++ (position + 1, inverse) ∷ []) (back_after_change position past inverse back) [] [] (sym parts.1) refl
    (record {
      reached = omega (arith, reached);
      most = omega arith;
      back_numbers = numbered_last (position + 1 - past_after_change past + 1) (position + 1) inverse kept
          room.numbered parts.0;
      back_count = length_push kept (position + 1, inverse) ∙ room.count;
      forth_numbers = tt;
      forth_count = refl;
      back_sound = subst (λ (l : List (ℕ × Edit)). AreSound after l (edited edit book))
          (sym (reverse_last kept (position + 1, inverse)))
          (steps_back after (position + 1) book edit inverse (reverse kept) leads sound
          (drawn_later book next after le drawn) (sound_later next after (reverse kept) book le left));
      forth_sound = tt;
    })

-- Before the changed book stand the present one and those before it, as many as there is room for.
pub changed_books :
    (next : ℕ) (book : Book) (position past later : ℕ) (back forth : List (ℕ × Edit))
    → IsHistory next book position past later back forth → (edit inverse : Edit) → LeadsBack book edit inverse
    → past_books (back_after_change position past inverse back) (edited edit book)
    ≡ take 256 (book ∷ past_books back book)
changed_books next book position past later back forth h edit inverse leads =
    let room = room_of next book position past later back forth h in
    let kept = with_room position past back in
    let parts = change_back position past inverse back h.reached room in
    ap (λ (l : List (ℕ × Edit)). books_to (reverse l) (edited edit book)) parts.1
    ∙ ap (λ (l : List (ℕ × Edit)). books_to l (edited edit book)) (reverse_last kept (position + 1, inverse))
    ∙ books_back (position + 1) book edit inverse (reverse kept) leads
    ∙ ap (λ (l : List Book). book ∷ l) (sym (room.books book))

-- ---- a step back
-- The last step back, and those before it.
record IsLastStep (position past : ℕ) (back : List (ℕ × Edit)) (edit : Edit) : Type 0 where
  init : List (ℕ × Edit)
  some : 1 ≤ past
  count : length init + 1 ≡ past
  numbered : AreNumberedFrom (position - past + 1) init
  reversed : reverse back ≡ (position, edit) ∷ reverse init
  left : back_after_undo position back ≡ init
  found : value_of position back ≡ Some edit

last_step :
    (next : ℕ) (book : Book) (position past later : ℕ) (back forth : List (ℕ × Edit))
    → IsHistory next book position past later back forth → 1 ≤ past
    → (edit : Edit) × IsLastStep position past back edit
last_step next book position past later back forth h some =
    let reached = h.reached in
    let count = h.back_count in
    let last = has_last (position - past + 1) back h.back_numbers (omega (arith, count, some)) in
    let number = number_by (length back) (length last.init) last.number last.number_is last.count count some reached in
    let pair : ◌≡◌ {A = ℕ × Edit} (last.number, last.value) (position, last.value) =
    ap (λ (n : ℕ). (n, last.value)) number in
    let is : back ≡ last.init ++ (position, last.value) ∷ [] =
    last.is ∙ ap (λ (x : ℕ × Edit). last.init ++ x ∷ []) pair in
    let more = last.count in (
      last.value,
      record {
        init = last.init;
        some = some;
        count = omega (arith, more, count);
        numbered = last.numbered;
        reversed = ap reverse is ∙ reverse_last last.init (position, last.value);
        left = ap (without_entry position) is
            ∙ without_last (position - past + 1) position last.value last.init
            (subst (λ (l : List (ℕ × Edit)). AreNumberedFrom (position - past + 1) l) is h.back_numbers);
        found = subst (λ (n : ℕ). value_of n back ≡ Some last.value) number last.found;
      },
    )
  where
    number_by : (count front number : ℕ) → number ≡ position - past + 1 + front → count ≡ suc front → count ≡ past
        → 1 ≤ past → past ≤ position → number ≡ position
    number_by count front number is more whole some reached = omega (arith, is, more, whole, some, reached)

-- Where a step back stands under the position, there are some.
pub undo_past :
    (next : ℕ) (book : Book) (position past later : ℕ) (back forth : List (ℕ × Edit))
    → IsHistory next book position past later back forth → (edit : Edit) → value_of position back ≡ Some edit
    → 1 ≤ past
undo_past next book position past later back forth h edit found = by back found h.back_count
  where
    by : (back : List (ℕ × Edit)) → value_of position back ≡ Some edit → length back ≡ past → 1 ≤ past
    by [] found count = absurd cc
    by (e ∷ es) found count = omega (arith, count)

-- Where none stands there, there is none.
pub undo_none :
    (next : ℕ) (book : Book) (position past later : ℕ) (back forth : List (ℕ × Edit))
    → IsHistory next book position past later back forth → value_of position back ≡ None → past ≡ 0
undo_none next book position past later back forth h none = by past h refl
  where
    by : (count : ℕ) → IsHistory next book position past later back forth → count ≡ past → past ≡ 0
    by zero h is = sym is
    by (suc count) h is =
        let last = last_step next book position past later back forth h (omega (arith, is)) in
        let found : value_of position back ≡ Some last.0 = last.1.found in absurd cc

step_at :
    (next : ℕ) (book : Book) (position past later : ℕ) (back forth : List (ℕ × Edit))
    → IsHistory next book position past later back forth → (edit : Edit) → value_of position back ≡ Some edit
    → IsLastStep position past back edit
step_at next book position past later back forth h edit found =
    let last = last_step next book position past later back forth h
    (undo_past next book position past later back forth h edit found) in
    let there : value_of position back ≡ Some last.0 = last.1.found in
    let same : last.0 ≡ edit = cc in
    subst (λ (e : Edit). IsLastStep position past back e) same last.1

-- The step back that stands under the position is sound.
pub undo_sound :
    (next : ℕ) (book : Book) (position past later : ℕ) (back forth : List (ℕ × Edit))
    → IsHistory next book position past later back forth → (edit : Edit) → value_of position back ≡ Some edit
    → IsSoundStep next book edit
undo_sound next book position past later back forth h edit found =
    let last = step_at next book position past later back forth h edit found in
    let sound : AreSound next ((position, edit) ∷ reverse last.init) book =
    subst (λ (l : List (ℕ × Edit)). AreSound next l book) last.reversed h.back_sound in sound.0

-- The step that leads forth again stands before those that were taken back.
undo_forth :
    (next : ℕ) (book : Book) (position past later : ℕ) (back forth : List (ℕ × Edit))
    → IsHistory next book position past later back forth → (inverse : Edit)
    → forth_after_undo position inverse forth ≡ (position, inverse) ∷ forth
undo_forth next book position past later back forth h inverse =
    with_first (position + 1) position inverse forth h.forth_numbers (omega arith)

-- After the last step is taken back, those before it are kept, and the one that leads forth again.
pub undone_history :
    (next : ℕ) (book : Book) (position past later : ℕ) (back forth : List (ℕ × Edit))
    → IsHistory next book position past later back forth → IsSoundBook book → AreDrawn book next
    → (edit inverse : Edit) → value_of position back ≡ Some edit → LeadsBack book edit inverse
    → IsHistory next (edited edit book) (position - 1) (past - 1) (later + 1) (back_after_undo position back)
    (forth_after_undo position inverse forth)
undone_history next book position past later back forth h sound drawn edit inverse found leads =
    let last = step_at next book position past later back forth h edit found in
    let reached = h.reached in
    let some = last.some in
    let most = h.most in
    let count = last.count in
    let forth_count = h.forth_count in
    let steps : AreSound next ((position, edit) ∷ reverse last.init) book =
    subst (λ (l : List (ℕ × Edit)). AreSound next l book) last.reversed h.back_sound in
    history_same next (edited edit book) (position - 1) (past - 1) (later + 1) last.init
    (back_after_undo position back) ((position, inverse) ∷ forth) (forth_after_undo position inverse forth)
    (sym last.left) (sym (undo_forth next book position past later back forth h inverse))
    (record {
      reached = omega (arith, reached);
      most = omega (arith, most, some);
      back_numbers = numbered_same (position - past + 1) (position - 1 - (past - 1) + 1) last.init
          (omega (arith, reached, some)) last.numbered;
      back_count = omega (arith, count);
      forth_numbers = (
        omega (arith, reached, some),
        numbered_same (position + 1) (suc (position - 1 + 1)) forth (omega (arith, reached, some)) h.forth_numbers,
      );
      forth_count = omega (arith, forth_count);
      back_sound = steps.1;
      forth_sound = steps_back next position book edit inverse forth leads sound drawn h.forth_sound;
    })

-- The present book becomes the first that was taken back, and the one before it the present one.
pub undone_books :
    (next : ℕ) (book : Book) (position past later : ℕ) (back forth : List (ℕ × Edit))
    → IsHistory next book position past later back forth → (edit inverse : Edit) → value_of position back ≡ Some edit
    → LeadsBack book edit inverse
    → (past_books back book ≡ edited edit book ∷ past_books (back_after_undo position back) (edited edit book))
    × (later_books (forth_after_undo position inverse forth) (edited edit book) ≡ book ∷ later_books forth book)
undone_books next book position past later back forth h edit inverse found leads =
    let last = step_at next book position past later back forth h edit found in (
      ap (λ (l : List (ℕ × Edit)). books_to l book) last.reversed
          ∙ ap (λ (l : List (ℕ × Edit)). edited edit book ∷ books_to (reverse l) (edited edit book)) (sym last.left),
      ap (λ (l : List (ℕ × Edit)). books_to l (edited edit book))
          (undo_forth next book position past later back forth h inverse)
          ∙ books_back position book edit inverse forth leads,
    )

-- ---- a step forth
-- The first step forth, and those behind it.
record IsFirstStep (position later : ℕ) (forth : List (ℕ × Edit)) (edit : Edit) : Type 0 where
  rest : List (ℕ × Edit)
  count : length rest + 1 ≡ later
  numbered : AreNumberedFrom (suc (position + 1)) rest
  is : forth ≡ (position + 1, edit) ∷ rest
  left : forth_after_redo position forth ≡ rest
  found : value_of (position + 1) forth ≡ Some edit

first_step :
    (position later : ℕ) (forth : List (ℕ × Edit)) → AreNumberedFrom (position + 1) forth → length forth ≡ later
    → 1 ≤ later → (edit : Edit) × IsFirstStep position later forth edit
first_step position later [] are count some = absurd (omega (arith, count, some))
first_step position later (e ∷ es) are count some = (
  e.1,
  record {
    rest = es;
    count = omega (arith, count);
    numbered = are.1;
    is = ap (λ (l : ℕ × Edit). l ∷ es) (let pair : e ≡ (position + 1, e.1) = ap (λ (n : ℕ). (n, e.1)) are.0 in pair);
    left = without_first (position + 1) e es are;
    found = found_by (position + 1) e es (sym are.0);
  },
)
  where
    found_by : (n : ℕ) (e : ℕ × Edit) (es : List (ℕ × Edit)) → n ≡ e.0 → value_of n (e ∷ es) ≡ Some e.1
    found_by n e es is = grind (arith, nat_tests)

-- Where a step forth stands behind the position, there are some.
pub redo_later :
    (next : ℕ) (book : Book) (position past later : ℕ) (back forth : List (ℕ × Edit))
    → IsHistory next book position past later back forth → (edit : Edit) → value_of (position + 1) forth ≡ Some edit
    → 1 ≤ later
redo_later next book position past later back forth h edit found = by forth found h.forth_count
  where
    by : (forth : List (ℕ × Edit)) → value_of (position + 1) forth ≡ Some edit → length forth ≡ later → 1 ≤ later
    by [] found count = absurd cc
    by (e ∷ es) found count = omega (arith, count)

first_of_forth :
    (next : ℕ) (book : Book) (position past later : ℕ) (back forth : List (ℕ × Edit))
    → IsHistory next book position past later back forth → 1 ≤ later
    → (edit : Edit) × IsFirstStep position later forth edit
first_of_forth next book position past later back forth h some =
    first_step position later forth h.forth_numbers h.forth_count some

-- Where none stands there, there is none.
pub redo_none :
    (next : ℕ) (book : Book) (position past later : ℕ) (back forth : List (ℕ × Edit))
    → IsHistory next book position past later back forth → value_of (position + 1) forth ≡ None → later ≡ 0
redo_none next book position past later back forth h none = by later h refl
  where
    by : (count : ℕ) → IsHistory next book position past later back forth → count ≡ later → later ≡ 0
    by zero h is = sym is
    by (suc count) h is =
        let first = first_of_forth next book position past later back forth h (omega (arith, is)) in
        let found : value_of (position + 1) forth ≡ Some first.0 = first.1.found in absurd cc

forth_at :
    (next : ℕ) (book : Book) (position past later : ℕ) (back forth : List (ℕ × Edit))
    → IsHistory next book position past later back forth → (edit : Edit) → value_of (position + 1) forth ≡ Some edit
    → IsFirstStep position later forth edit
forth_at next book position past later back forth h edit found =
    let first = first_of_forth next book position past later back forth h
    (redo_later next book position past later back forth h edit found) in
    let there : value_of (position + 1) forth ≡ Some first.0 = first.1.found in
    let same : first.0 ≡ edit = cc in
    subst (λ (e : Edit). IsFirstStep position later forth e) same first.1

-- The step forth that stands behind the position is sound.
pub redo_sound :
    (next : ℕ) (book : Book) (position past later : ℕ) (back forth : List (ℕ × Edit))
    → IsHistory next book position past later back forth → (edit : Edit) → value_of (position + 1) forth ≡ Some edit
    → IsSoundStep next book edit
redo_sound next book position past later back forth h edit found =
    let first = forth_at next book position past later back forth h edit found in
    let sound : AreSound next ((position + 1, edit) ∷ first.rest) book =
    subst (λ (l : List (ℕ × Edit)). AreSound next l book) first.is h.forth_sound in sound.0

-- The step that leads back again stands behind the steps back.
redo_back :
    (next : ℕ) (book : Book) (position past later : ℕ) (back forth : List (ℕ × Edit))
    → IsHistory next book position past later back forth → (inverse : Edit)
    → (position + 1 ≡ position - past + 1 + length back)
    × (back_after_redo position inverse back ≡ back ++ (position + 1, inverse) ∷ [])
redo_back next book position past later back forth h inverse =
    let number = number_by (length back) h.back_count h.reached in
    (number, with_last (position - past + 1) (position + 1) inverse back h.back_numbers number)
  where
    number_by : (count : ℕ) → count ≡ past → past ≤ position → position + 1 ≡ position - past + 1 + count
    number_by count is reached = omega (arith, is, reached)

-- After a step is taken again, those behind it are kept, and the one that leads back again.
pub redone_history :
    (next : ℕ) (book : Book) (position past later : ℕ) (back forth : List (ℕ × Edit))
    → IsHistory next book position past later back forth → IsSoundBook book → AreDrawn book next
    → (edit inverse : Edit) → value_of (position + 1) forth ≡ Some edit → LeadsBack book edit inverse
    → IsHistory next (edited edit book) (position + 1) (past + 1) (later - 1) (back_after_redo position inverse back)
    (forth_after_redo position forth)
redone_history next book position past later back forth h sound drawn edit inverse found leads =
    let first = forth_at next book position past later back forth h edit found in
    let parts = redo_back next book position past later back forth h inverse in
    let reached = h.reached in
    let most = h.most in
    let count = first.count in
    let steps : AreSound next ((position + 1, edit) ∷ first.rest) book =
    subst (λ (l : List (ℕ × Edit)). AreSound next l book) first.is h.forth_sound in
    history_same next (edited edit book) (position + 1) (past + 1) (later - 1) (back ++ (position + 1, inverse) ∷ [])
    (back_after_redo position inverse back) first.rest (forth_after_redo position forth) (sym parts.1) (sym first.left)
    (record {
      reached = omega (arith, reached);
      most = omega (arith, most, count);
      back_numbers = numbered_same (position - past + 1) (position + 1 - (past + 1) + 1)
          (back ++ (position + 1, inverse) ∷ []) (omega arith)
          (numbered_last (position - past + 1) (position + 1) inverse back h.back_numbers parts.0);
      back_count = length_push back (position + 1, inverse) ∙ ap (λ (n : ℕ). n + 1) h.back_count;
      forth_numbers = numbered_same (suc (position + 1)) (position + 1 + 1) first.rest (omega arith) first.numbered;
      forth_count = omega (arith, count);
      back_sound = subst (λ (l : List (ℕ × Edit)). AreSound next l (edited edit book))
          (sym (reverse_last back (position + 1, inverse)))
          (steps_back next (position + 1) book edit inverse (reverse back) leads sound drawn h.back_sound);
      forth_sound = steps.1;
    })

-- The present book becomes the one before, and the first that was taken back the present one.
pub redone_books :
    (next : ℕ) (book : Book) (position past later : ℕ) (back forth : List (ℕ × Edit))
    → IsHistory next book position past later back forth → (edit inverse : Edit)
    → value_of (position + 1) forth ≡ Some edit → LeadsBack book edit inverse
    → (later_books forth book ≡ edited edit book ∷ later_books (forth_after_redo position forth) (edited edit book))
    × (past_books (back_after_redo position inverse back) (edited edit book) ≡ book ∷ past_books back book)
redone_books next book position past later back forth h edit inverse found leads =
    let first = forth_at next book position past later back forth h edit found in
    let parts = redo_back next book position past later back forth h inverse in (
      ap (λ (l : List (ℕ × Edit)). books_to l book) first.is
          ∙ ap (λ (l : List (ℕ × Edit)). edited edit book ∷ books_to l (edited edit book)) (sym first.left),
      ap (λ (l : List (ℕ × Edit)). books_to (reverse l) (edited edit book)) parts.1
          ∙ ap (λ (l : List (ℕ × Edit)). books_to l (edited edit book)) (reverse_last back (position + 1, inverse))
          ∙ books_back (position + 1) book edit inverse (reverse back) leads,
    )

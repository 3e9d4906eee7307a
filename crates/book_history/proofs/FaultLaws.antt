-- Steps have no fault exactly where each of them is sound, and then none is nested too deep.
use Rattle.std.proofs.Common.{◌≡◌, ℕ, ◌≤◌, Bool, true, false, if◌then◌else◌, List, [], ◌∷◌, Option, Some, None, is_some}
use Rattle.std.proofs.Common.{refl, sym, ap, ◌∙◌, subst}
use Rattle.std.specs.List.{AllByRecursion}
use Rattle.std.proofs.lemmas.Bool.{or_from, or_parts}
use Rattle.book_commodity.specs.Rules.{first_broken}
use Rattle.book_check.specs.FirstUnsound.{first_unsound}
use Rattle.book_check.proofs.Unsound.{none_where_sound, sound_where_none}
use Rattle.book_sound.specs.Soundness.{AreDrawn, IsSoundBook}
use Rattle.book_undo.specs.Book.{Book, IsRising}
use Rattle.book_undo.specs.Edit.{edited, leaves, depth}
use Rattle.book_undo.specs.EditRules.{edit_rules}
use Rattle.book_undo.specs.declared.edit.Edit.{Edit}
use Rattle.book_undo.proofs.EditLaws.{edited-leaves, rising_after_all}
use Rattle.book_undo.proofs.InverseLaws.{allowed_depth}
use Rattle.book_history.specs.Steps.{AreSound, IsSoundStep, first_fault, is_broken, is_refused, is_unsound}

none_of : {X : Type 0} (found : Option X) → is_some found ≡ false → found ≡ None
none_of None e = refl
none_of (Some x) e = absurd cc

edited_rises : (edit : Edit) (book : Book) → IsRising book → IsRising (edited edit book)
edited_rises edit book rise =
    subst IsRising (sym (edited-leaves edit book)) (rising_after_all (leaves edit) book rise)

-- An edit that isn't broken is a sound step.
pub unbroken_sound :
    (next : ℕ) (book : Book) (edit : Edit) → IsRising book → is_broken next book edit ≡ false
    → IsSoundStep next book edit
unfolding is_refused is_unsound
unbroken_sound next book edit rise e =
    let rules = first_broken (edit_rules book edit) in
    let key = first_unsound (edited edit book) next in
    let parts = or_parts (is_some rules) (is_some key) e in
    let both = sound_where_none (edited edit book) next (edited_rises edit book rise) (none_of key parts.1) in
    record { allowed = none_of rules parts.0; sound = both.0; drawn = both.1 }

-- A sound book whose numbers are drawn is not unsound.
pub known_sound : (next : ℕ) (book : Book) → IsSoundBook book → AreDrawn book next → is_unsound next book ≡ false
unfolding is_unsound
known_sound next book is are = ap is_some (none_where_sound book next is are)

-- A sound step is not broken.
pub sound_unbroken :
    (next : ℕ) (book : Book) (edit : Edit) → IsSoundStep next book edit → is_broken next book edit ≡ false
unfolding is_refused is_unsound
sound_unbroken next book edit is =
    or_from (is_some (first_broken (edit_rules book edit))) (is_some (first_unsound (edited edit book) next))
    (ap is_some is.allowed) (ap is_some (none_where_sound (edited edit book) next is.sound is.drawn))

no_fault : (broken : Bool) (number : ℕ) (further : Option ℕ) → (if broken then Some number else further) ≡ None
    → (broken ≡ false) × (further ≡ None)
no_fault true number further e = absurd cc
no_fault false number further e = (refl, e)

-- Where none of the steps is broken, each is sound.
pub faultless_sound :
    (next : ℕ) (steps : List (ℕ × Edit)) (book : Book) → IsRising book → first_fault next steps book ≡ None
    → AreSound next steps book
faultless_sound next [] book rise e = tt
faultless_sound next (step ∷ steps) book rise e =
    let after = edited step.1 book in
    let parts = no_fault (is_broken next book step.1) step.0 (first_fault next steps after) e in (
      unbroken_sound next book step.1 rise parts.0,
      faultless_sound next steps (edited step.1 book) (edited_rises step.1 book rise) parts.1,
    )

-- Where each of the steps is sound, none is broken.
pub sound_faultless :
    (next : ℕ) (steps : List (ℕ × Edit)) (book : Book) → AreSound next steps book → first_fault next steps book ≡ None
sound_faultless next [] book is = refl
sound_faultless next (step ∷ steps) book is =
    ap (λ (t : Bool). if t then Some step.0 else first_fault next steps (edited step.1 book))
    (sound_unbroken next book step.1 is.0)
    ∙ sound_faultless next steps (edited step.1 book) is.1

-- No more than eight lists of the edit of a sound step stand in one another.
pub sound_shallow :
    (next : ℕ) (steps : List (ℕ × Edit)) (book : Book) → AreSound next steps book
    → AllByRecursion (λ step. depth step.1 ≤ 8) steps
sound_shallow next [] book is = tt
sound_shallow next (step ∷ steps) book is =
    (allowed_depth book step.1 is.0.allowed, sound_shallow next steps (edited step.1 book) is.1)

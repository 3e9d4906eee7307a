-- The changes of steps that a change of the book comes to have spellings where the step back has.
use Rattle.std.proofs.Common.{ℕ, Bool, true, false, if◌then◌else◌, List, [], ◌∷◌, ◌++◌, map, Result, Ok, Err, OnOk}
use Rattle.std.specs.List.{AllByRecursion}
use Rattle.book_undo.specs.declared.edit.Edit.{Edit}
use Rattle.book_opening.specs.Changes.{GoneBack, GoneForth, PutBack, StepFits}

pub on_ok : {T E P : Type 0} (result : Result T E) → P → OnOk result P
on_ok (Ok value) holds = holds
on_ok (Err why) holds = tt

gone_fit : (numbers : List ℕ) → AllByRecursion StepFits (map (λ number. GoneForth number) numbers)
gone_fit [] = tt
gone_fit (number ∷ numbers) = (tt, gone_fit numbers)

pub change_fits :
    (full : Bool) (oldest number : ℕ) (inverse : Edit) (numbers : List ℕ) → StepFits (PutBack number inverse)
    → AllByRecursion StepFits
    ((if full then GoneBack oldest ∷ [] else [])
    ++ PutBack number inverse ∷ map (λ number. GoneForth number) numbers)
change_fits true oldest number inverse numbers fits = (tt, (fits, gone_fit numbers))
change_fits false oldest number inverse numbers fits = (fits, gone_fit numbers)

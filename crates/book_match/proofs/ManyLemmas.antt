-- Many splits put in or taken out: which stand there then, and that they rise.
use Rattle.std.proofs.Common.{◌≡◌, ℕ, ◌+◌, Bool, true, false, not, ◌&&◌, ◌||◌, if◌then◌else◌, List, [], ◌∷◌, length}
use Rattle.std.proofs.Common.{◌<◌, drop, get_or, refl, sym, ap, ◌∙◌}
use Rattle.std.proofs.lemmas.List.{drop_more}
use Rattle.book_match.specs.AmountIndex.{AreAbsent, AreThere, PrecedesAll, Rises, is_same, is_there, with_all}
use Rattle.book_match.specs.AmountIndex.{with_free, without_all, without_free}
use Rattle.book_match.specs.declared.free.Free.{Free}
use Rattle.book_match.proofs.IndexLaws.{same-is, there-with, there-without}
use Rattle.book_match.proofs.IndexLemmas.{before-other, rises-with, rises-without}

-- ---- taken out
pub rises-without_all : (gs es : List Free) → Rises es → Rises (without_all gs es)
rises-without_all [] es up = up
rises-without_all (g ∷ gs) es up = rises-without_all gs (without_free g es) (rises-without g es up)

neither : (a b c : Bool) → (not b && (not a && c)) ≡ (not (a || b) && c)
neither true true c = refl
neither true false c = refl
neither false true c = refl
neither false false c = refl

pub there-without_all : (x : Free) (gs es : List Free) → Rises es
    → is_there x (without_all gs es) ≡ (not (is_there x gs) && is_there x es)
there-without_all x [] es up = refl
there-without_all x (g ∷ gs) es up =
    there-without_all x gs (without_free g es) (rises-without g es up)
    ∙ ap (λ (b : Bool). not (is_there x gs) && b) (there-without x g es up)
    ∙ neither (is_same x g) (is_there x gs) (is_there x es)

there-other : (x free : Free) (es : List Free) → is_same x free ≡ false
    → is_there x (without_free free es) ≡ is_there x es
there-other x free [] other = refl
there-other x free (e ∷ es) other = by_test (is_same free e) refl (there-other x free es other)
  where
    by_test : (t : Bool) → is_same free e ≡ t → is_there x (without_free free es) ≡ is_there x es
        → is_there x (if t then es else e ∷ without_free free es) ≡ (is_same x e || is_there x es)
    by_test true t more =
        ap (λ (b : Bool). b || is_there x es) (sym (ap (is_same x) (sym (same-is free e t)) ∙ other))
    by_test false t more = ap (λ (b : Bool). is_same x e || b) more

pub there-behind : (g : Free) (gs es : List Free) → PrecedesAll g gs → AreThere gs es → AreThere gs (without_free g es)
there-behind g [] es all are = tt
there-behind g (x ∷ xs) es all are =
    (there-other x g es (before-other x g all.0) ∙ are.0, there-behind g xs es all.1 are.1)

-- ---- put in
pub absent-with : (c : Free) (cs es : List Free) → PrecedesAll c cs → AreAbsent cs es → AreAbsent cs (with_free c es)
absent-with c [] es all are = tt
absent-with c (x ∷ xs) es all are = (
  there-with x c es ∙ ap (λ (b : Bool). b || is_there x es) (before-other x c all.0) ∙ are.0,
  absent-with c xs es all.1 are.1,
)

either : (a b c : Bool) → (b || (a || c)) ≡ ((a || b) || c)
either true true c = refl
either true false c = refl
either false true c = refl
either false false c = refl

pub there-with_all : (x : Free) (cs es : List Free) → is_there x (with_all cs es) ≡ (is_there x cs || is_there x es)
there-with_all x [] es = refl
there-with_all x (c ∷ cs) es =
    there-with_all x cs (with_free c es) ∙ ap (λ (b : Bool). is_there x cs || b) (there-with x c es)
    ∙ either (is_same x c) (is_there x cs) (is_there x es)

pub rises-with_all : (cs es : List Free) → Rises cs → Rises es → AreAbsent cs es → Rises (with_all cs es)
rises-with_all [] es up_c up_e are = up_e
rises-with_all (c ∷ cs) es up_c up_e are =
    rises-with_all cs (with_free c es) up_c.1 (rises-with c es up_e are.0) (absent-with c cs es up_c.0 are.1)

-- ---- one of them, and those behind it
pub drop-here : (fs : List Free) (i : ℕ) (free : Free) → i < length fs → free ≡ get_or fs i free
    → drop i fs ≡ free ∷ drop (i + 1) fs
drop-here fs i free lt is = drop_more fs i free lt ∙ ap (λ (f : Free). f ∷ drop (i + 1) fs) (sym is)

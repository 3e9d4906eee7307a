-- Runs that go on, and runs over another type of states.
use Rattle.std.proofs.Common.{◌≡◌, ℕ, suc, List, [], ◌∷◌, ◌++◌, length, refl, sym, ap, ◌∙◌, subst, append_assoc}
use Rattle.book_lines.specs.Marks.{Mark}
use Rattle.book_lines.specs.Transcript.{AnswerRelation, Run}

-- a run that goes on with the lines of another
pub Run-append : {S : Type 0} (answers : AnswerRelation S) (a : S) (xs : List (List ℕ)) (ms : List Mark) (t : List ℕ)
    (b : S) (ys : List (List ℕ)) (ns : List Mark) (u : List ℕ) (c : S)
    → Run answers a xs ms t b → Run answers b ys ns u c → Run answers a (xs ++ ys) (ms ++ ns) (t ++ u) c
Run-append answers a [] [] t b ys ns u c p q =
    subst (λ s. Run answers s ys ns (t ++ u) c) p.1 (subst (λ l. Run answers b ys ns (l ++ u) c) (sym p.0) q)
Run-append answers a [] (m ∷ ms) t b ys ns u c p q = absurd p
Run-append answers a (x ∷ xs) [] t b ys ns u c p q = absurd p
Run-append answers a (x ∷ xs) (m ∷ ms) t b ys ns u c p q = (
  p.0,
  p.1,
  p.2 ++ u,
  p.3,
  ap (λ l. l ++ u) p.4 ∙ append_assoc p.0 (10 ∷ p.2) u,
  Run-append answers p.1 xs ms p.2 b ys ns u c p.5 q,
)

-- each line has one mark
pub Run-length : {S : Type 0} (answers : AnswerRelation S) (a : S) (xs : List (List ℕ)) (ms : List Mark) (t : List ℕ)
    (b : S) → Run answers a xs ms t b → length xs ≡ length ms
Run-length answers a [] [] t b p = refl
Run-length answers a [] (m ∷ ms) t b p = absurd p
Run-length answers a (x ∷ xs) [] t b p = absurd p
Run-length answers a (x ∷ xs) (m ∷ ms) t b p = ap suc (Run-length answers p.1 xs ms p.2 b p.5)

-- a run over the states that a map gives
pub Run-map : {S T : Type 0} (A : AnswerRelation S) (B : AnswerRelation T) (f : S → T)
    → ((a : S) (line : List ℕ) (mark : Mark) (text : List ℕ) (b : S) → A a line mark text b
    → B (f a) line mark text (f b))
    → (a : S) (xs : List (List ℕ)) (ms : List Mark) (t : List ℕ) (b : S) → Run A a xs ms t b
    → Run B (f a) xs ms t (f b)
Run-map A B f h a [] [] t b p = (p.0, ap f p.1)
Run-map A B f h a [] (m ∷ ms) t b p = absurd p
Run-map A B f h a (x ∷ xs) [] t b p = absurd p
Run-map A B f h a (x ∷ xs) (m ∷ ms) t b p =
    (p.0, f p.1, p.2, h a x m p.0 p.1 p.3, p.4, Run-map A B f h p.1 xs ms p.2 b p.5)

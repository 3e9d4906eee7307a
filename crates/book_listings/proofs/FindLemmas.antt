-- A part stands in a text exactly where the text is cut around it.
use Rattle.std.proofs.Common.{◌≡◌, ◌↔◌, ℕ, ◌&&◌, ◌||◌, ◌==◌, Bool, true, false, List, [], ◌∷◌, ◌++◌, refl, sym, ap, eq-eqb, ◌∙◌}
use Rattle.std.specs.Str.Iter.{HasSubslice}
use Rattle.std.proofs.lemmas.Bool.{eqb-true}
use Rattle.book_listings.specs.Find.{begins, holds}

both : (a b : Bool) → (a && b) ≡ true → (a ≡ true) × (b ≡ true)
both true b h = (refl, h)
both false b h = absurd (let e : false ≡ true = h in cc)

-- what begins with a part is the part and what stands behind it
begun : (part text : List ℕ) → begins part text ≡ true → (rest : List ℕ) × (text ≡ part ++ rest)
begun [] text h = (text, refl)
begun (byte ∷ part) [] h = absurd (let e : false ≡ true = h in cc)
begun (byte ∷ part) (other ∷ text) h =
    let parts = both (byte == other) (begins part text) h in
    let more = begun part text parts.1 in
    (more.0, ap (λ (l : List ℕ). other ∷ l) more.1 ∙ ap (λ (n : ℕ). n ∷ (part ++ more.0)) (sym (eqb-true byte other parts.0)))

begins_itself : (part rest : List ℕ) → begins part (part ++ rest) ≡ true
begins_itself [] rest = refl
begins_itself (byte ∷ part) rest =
    ap (λ (t : Bool). t && begins part (part ++ rest)) (eq-eqb byte byte refl) ∙ begins_itself part rest

holds_here : (part text : List ℕ) → begins part text ≡ true → holds part text ≡ true
holds_here part [] h = h
holds_here part (byte ∷ text) h = ap (λ (t : Bool). t || holds part text) h

or_true : (a : Bool) → (a || true) ≡ true
or_true true = refl
or_true false = refl

pub held : (part front rest : List ℕ) → holds part (front ++ (part ++ rest)) ≡ true
held part [] rest = holds_here part (part ++ rest) (begins_itself part rest)
held part (byte ∷ front) rest =
    ap (λ (t : Bool). begins part (byte ∷ (front ++ (part ++ rest))) || t) (held part front rest)
    ∙ or_true (begins part (byte ∷ (front ++ (part ++ rest))))

cases : (a b : Bool) (P : Type 0) → (a || b) ≡ true → (a ≡ true → P) → (b ≡ true → P) → P
cases true b P h left right = left refl
cases false b P h left right = right h

pub cut : (part text : List ℕ) → holds part text ≡ true → HasSubslice text part
cut part [] h = let more = begun part [] h in ([], more.0, more.1)
cut part (byte ∷ text) h =
    cases (begins part (byte ∷ text)) (holds part text) (HasSubslice (byte ∷ text) part) h
    (λ here. let more = begun part (byte ∷ text) here in ([], more.0, more.1))
    (λ there. let more = cut part text there in
    (byte ∷ more.0, more.1, ap (λ (l : List ℕ). byte ∷ l) more.2))

-- a test that is true exactly there is this one
pub is_held : (t : Bool) (part text : List ℕ) → (t ≡ true) ↔ HasSubslice text part → t ≡ holds part text
is_held true part text h =
    let parts = h.0 refl in sym (ap (holds part) parts.2 ∙ held part parts.0 parts.1)
is_held false part text h = none (holds part text) (λ there. h.1 (cut part text there))
  where
    none : (b : Bool) → (b ≡ true → false ≡ true) → false ≡ b
    none true never = absurd (let e : false ≡ true = never refl in cc)
    none false never = refl

-- What was written, one piece after another.
use Rattle.std.proofs.Common.{◌≡◌, ℕ, ◌+◌, ◌<◌, List, [], ◌∷◌, ◌++◌, length, take, drop, get_or, Result, Ok, Err, refl}
use Rattle.std.proofs.Common.{sym, ap, subst, ◌∙◌, append_assoc, append-nil, take-append-drop}
use Rattle.std.specs.List.{flat_map}
use Rattle.std.proofs.lemmas.Grind.{flat_map-append}
use Rattle.std.proofs.lemmas.List.{take_more}
use Rattle.book_keeper.specs.Stream.{Wrote}
use Rattle.book_keeper.proofs.StreamLemmas.{Wrote-append, Wrote-nil, WrotePart-longer}
use Rattle.book_export.specs.Export.{HasWritten, WroteFront}
use Rattle.book_export.specs.declared.error.ExportError.{ExportError}
use Rattle.book_export.specs.declared.error.ExportError.TheVariants.{Memory, Output}

-- out of memory before anything was written
pub nothing_written : (a : List ℕ → Type 0) (text : List ℕ) → WroteFront a a text
nothing_written a text = record { front = []; rest = text; parts = refl; wrote = Wrote-nil a }

-- one piece was written, and then of the next what the result says
pub then_written :
    (a b c : List ℕ → Type 0) (first next : List ℕ) (r : Result Unit ExportError) → Wrote a b first
    → HasWritten b c next r → HasWritten a c (first ++ next) r
then_written a b c first next (Ok u) p q = Wrote-append a b c first next p q
then_written a b c first next (Err Output) p q = record {
  part = first ++ q.part;
  rest = q.rest;
  parts = ap (λ (l : List ℕ). first ++ l) q.parts ∙ sym (append_assoc first q.part q.rest);
  short = q.short;
  wrote = Wrote-append a b c first q.part p q.wrote;
}
then_written a b c first next (Err Memory) p q = record {
  front = first ++ q.front;
  rest = q.rest;
  parts = ap (λ (l : List ℕ). first ++ l) q.parts ∙ sym (append_assoc first q.front q.rest);
  wrote = Wrote-append a b c first q.front p q.wrote;
}

-- a piece wasn't written to its end, and none after it
pub cut : (a b : List ℕ → Type 0) (first next : List ℕ) (e : ExportError) → HasWritten a b first (Err e)
    → HasWritten a b (first ++ next) (Err e)
cut a b first next Output p = WrotePart-longer a b first next p
cut a b first next Memory p = record {
  front = p.front;
  rest = p.rest ++ next;
  parts = ap (λ (l : List ℕ). l ++ next) p.parts ∙ append_assoc p.front p.rest next;
  wrote = p.wrote;
}

-- the pieces up to a place, and the one there
pieces_to :
    {X : Type 0} (f : X → List ℕ) (xs : List X) (i : ℕ) (x d : X) → i < length xs → x ≡ get_or xs i d
    → flat_map f (take i xs) ++ f x ≡ flat_map f (take (i + 1) xs)
pieces_to {X} f xs i x d below is =
    sym
    (ap (λ (l : List X). flat_map f l) (take_more xs i d below ∙ ap (λ (y : X). take i xs ++ y ∷ []) (sym is))
    ∙ flat_map-append f (take i xs) (x ∷ [])
    ∙ ap (λ (l : List ℕ). flat_map f (take i xs) ++ l) (append-nil (f x)))

-- and all that come after it
all_pieces :
    {X : Type 0} (f : X → List ℕ) (xs : List X) (i : ℕ) (x d : X) → i < length xs → x ≡ get_or xs i d
    → flat_map f (take i xs) ++ (f x ++ flat_map f (drop (i + 1) xs)) ≡ flat_map f xs
all_pieces {X} f xs i x d below is =
    sym (append_assoc (flat_map f (take i xs)) (f x) (flat_map f (drop (i + 1) xs)))
    ∙ ap (λ (l : List ℕ). l ++ flat_map f (drop (i + 1) xs)) (pieces_to f xs i x d below is)
    ∙ sym (flat_map-append f (take (i + 1) xs) (drop (i + 1) xs))
    ∙ ap (λ (l : List X). flat_map f l) (take-append-drop (i + 1) xs)

-- the piece at a place was written behind those before it
pub next_piece :
    {X : Type 0} (f : X → List ℕ) (xs : List X) (i : ℕ) (x d : X) (a b c : List ℕ → Type 0) → i < length xs
    → x ≡ get_or xs i d → Wrote a b (flat_map f (take i xs)) → Wrote b c (f x)
    → Wrote a c (flat_map f (take (i + 1) xs))
next_piece f xs i x d a b c below is p q =
    subst (λ (l : List ℕ). Wrote a c l) (pieces_to f xs i x d below is)
    (Wrote-append a b c (flat_map f (take i xs)) (f x) p q)

-- the piece at a place wasn't written to its end
pub cut_piece :
    {X : Type 0} (f : X → List ℕ) (xs : List X) (i : ℕ) (x d : X) (a b c : List ℕ → Type 0) (e : ExportError)
    → i < length xs → x ≡ get_or xs i d → Wrote a b (flat_map f (take i xs)) → HasWritten b c (f x) (Err e)
    → HasWritten a c (flat_map f xs) (Err e)
cut_piece f xs i x d a b c e below is p q =
    subst (λ (l : List ℕ). HasWritten a c l (Err e)) (all_pieces f xs i x d below is)
    (then_written a b c (flat_map f (take i xs)) (f x ++ flat_map f (drop (i + 1) xs)) (Err e) p
    (cut b c (f x) (flat_map f (drop (i + 1) xs)) e q))

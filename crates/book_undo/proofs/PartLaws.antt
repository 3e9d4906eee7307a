-- An edit that is a list, by its parts as a plain list; and what holds of the leaves of some edits, one after another.
use Rattle.std.proofs.Common.{◌≡◌, ℕ, ◌+◌, max, List, [], ◌∷◌, ◌++◌, flat_map, map, Option, Some, None}
use Rattle.std.proofs.Common.{Result, Ok, Err}
use Rattle.std.proofs.Common.{refl, sym, ap, ◌∙◌, append_assoc, arith, Bool, true, false}
use Rattle.std.proofs.Common.{if◌then◌else◌, is_none, is_some, OnErr}
use Rattle.std.proofs.lemmas.List.{flat_map_more, map-append}
use mathlib.Core.Former.{Count}
use Rattle.book_undo.specs.Book.{Book, thing_at}
use Rattle.book_undo.specs.Edit.{edited, edited_row, edited_all, Leaf, OfCurrency, OfPut, OfGone, leaves, leaves_row}
use Rattle.book_undo.specs.Edit.{depth, depth_row, deepest, Begins, Ends, outline, outline_row, key_of}
use Rattle.book_undo.specs.EditRules.{first_missing, stepped, walked}
use Rattle.book_undo.specs.Room.{puts}
use Rattle.book_undo.specs.declared.edit.Edit.{Edit, All, All', Row_of-Edit, end_of-Edit, more_of-Edit}
use Rattle.book_undo.specs.declared.edit.Edit.{items-the_row-Edit, items_hidden-the_row-Edit-0}
use Rattle.book_undo.specs.declared.order.Walk.{Walk}
use Rattle.book_undo.specs.declared.rule.EditRule.{EditRule}
use Rattle.book_undo.specs.declared.rule.EditRule.TheVariants.{Missing}
use Rattle.book_undo.specs.declared.thing.ThingKind.{ThingKind}

-- ---- a list's row of parts
abbrev row_of : Edit → (count : Count) × Row_of-Edit count
row_of (All' _ row) = (_, row)
row_of _ = (_, end_of-Edit)

leaves_of_row : (n : _) (row : Row_of-Edit n) → leaves_row row ≡ flat_map leaves (items-the_row-Edit n row)
leaves_of_row n end_of-Edit = refl
leaves_of_row n (more_of-Edit part more) = ap (λ l. leaves part ++ l) (leaves_of_row _ more)

depth_of_row : (n : _) (row : Row_of-Edit n) → depth_row row ≡ deepest (items-the_row-Edit n row)
depth_of_row n end_of-Edit = refl
depth_of_row n (more_of-Edit part more) = ap (λ d. max (depth part) d) (depth_of_row _ more)

outline_of_row : (n : _) (row : Row_of-Edit n) → outline_row row ≡ flat_map outline (items-the_row-Edit n row)
outline_of_row n end_of-Edit = refl
outline_of_row n (more_of-Edit part more) = ap (λ l. outline part ++ l) (outline_of_row _ more)

edited_of_row : (n : _) (row : Row_of-Edit n) (b : Book) → edited_row row b ≡ edited_all (items-the_row-Edit n row) b
edited_of_row n end_of-Edit b = refl
edited_of_row n (more_of-Edit part more) b = edited_of_row _ more (edited part b)

-- the leaves of a list are those of its parts
pub leaves_of_all : (parts : List Edit) → leaves (All parts) ≡ flat_map leaves parts
leaves_of_all parts =
    let row = row_of (All parts) in
    leaves_of_row row.0 row.1 ∙ ap (flat_map leaves) (items_hidden-the_row-Edit-0 parts)

pub depth_of_all : (parts : List Edit) → depth (All parts) ≡ 1 + deepest parts
depth_of_all parts =
    let row = row_of (All parts) in
    ap (λ d. 1 + d) (depth_of_row row.0 row.1 ∙ ap deepest (items_hidden-the_row-Edit-0 parts))

pub outline_of_all : (parts : List Edit) → outline (All parts) ≡ Begins ∷ flat_map outline parts ++ Ends ∷ []
outline_of_all parts =
    let row = row_of (All parts) in
    ap (λ l. Begins ∷ l ++ Ends ∷ [])
    (outline_of_row row.0 row.1 ∙ ap (flat_map outline) (items_hidden-the_row-Edit-0 parts))

pub edited_of_all : (parts : List Edit) (b : Book) → edited (All parts) b ≡ edited_all parts b
edited_of_all parts b =
    let row = row_of (All parts) in
    edited_of_row row.0 row.1 b ∙ ap (λ l. edited_all l b) (items_hidden-the_row-Edit-0 parts)

-- a list by its parts
pub ruleset parts_of_all = (leaves_of_all, depth_of_all, outline_of_all, edited_of_all)

-- what is said of an error is said where it holds anyway
pub on_err : {T E : Type 0} (result : Result T E) (P : Type 0) → P → OnErr result P
on_err (Ok x) P p = tt
on_err (Err e) P p = p

-- ---- leaves one after another
pub puts-append : (k : ThingKind) (xs ys : List Leaf) → puts k (xs ++ ys) ≡ puts k xs + puts k ys
puts-append k [] ys = omega arith
puts-append k (OfCurrency c ∷ xs) ys = puts-append k xs ys
puts-append k (OfPut n t ∷ xs) ys = omega (arith, puts-append k xs ys)
puts-append k (OfGone j n ∷ xs) ys = puts-append k xs ys

kept_first :
    (t : Bool) (now rule : EditRule) (o p : Option EditRule) → (if t then Some now else o) ≡ Some rule
    → (o ≡ Some rule → p ≡ Some rule) → (if t then Some now else p) ≡ Some rule
kept_first true now rule o p e h = e
kept_first false now rule o p e h = h e

passed_first :
    (t : Bool) (now : EditRule) (o p q : Option EditRule) → (if t then Some now else o) ≡ None → (o ≡ None → p ≡ q)
    → (if t then Some now else p) ≡ q
passed_first true now o p q e h = absurd cc
passed_first false now o p q e h = h e

pub missing-here :
    (b : Book) (xs ys : List Leaf) (rule : EditRule) → first_missing b xs ≡ Some rule
    → first_missing b (xs ++ ys) ≡ Some rule
missing-here b [] ys rule e = absurd cc
missing-here b (OfCurrency c ∷ xs) ys rule e = missing-here b xs ys rule e
missing-here b (OfPut n t ∷ xs) ys rule e = missing-here b xs ys rule e
missing-here b (OfGone j n ∷ xs) ys rule e =
    kept_first (is_none (thing_at j n b)) (Missing j n) rule (first_missing b xs) (first_missing b (xs ++ ys)) e
    (missing-here b xs ys rule)

pub missing-later :
    (b : Book) (xs ys : List Leaf) → first_missing b xs ≡ None → first_missing b (xs ++ ys) ≡ first_missing b ys
missing-later b [] ys e = refl
missing-later b (OfCurrency c ∷ xs) ys e = missing-later b xs ys e
missing-later b (OfPut n t ∷ xs) ys e = missing-later b xs ys e
missing-later b (OfGone j n ∷ xs) ys e =
    passed_first (is_none (thing_at j n b)) (Missing j n) (first_missing b xs) (first_missing b (xs ++ ys))
    (first_missing b ys) e (missing-later b xs ys)

pub walked-append : (r : Result Walk ℕ) (xs ys : List Leaf) → walked r (xs ++ ys) ≡ walked (walked r xs) ys
walked-append r [] ys = refl
walked-append (Ok walk) (x ∷ xs) ys = walked-append (stepped walk (key_of x)) xs ys
walked-append (Err place) (x ∷ xs) [] = refl
walked-append (Err place) (x ∷ xs) (y ∷ ys) = refl

walked-stopped : (place : ℕ) (xs : List Leaf) → walked (Err place) xs ≡ Err place
walked-stopped place [] = refl
walked-stopped place (x ∷ xs) = refl

deepest-append : (xs ys : List Edit) → deepest (xs ++ ys) ≡ max (deepest xs) (deepest ys)
deepest-append [] ys = omega arith
deepest-append (x ∷ xs) ys = omega (arith, deepest-append xs ys)

-- ---- a part and those behind it
-- what the first part lacks is what they lack
pub missing-part :
    (b : Book) (part : Edit) (more : List Edit) (o : Option EditRule) → o ≡ first_missing b (leaves part)
    → is_some o ≡ true → first_missing b (flat_map leaves (part ∷ more)) ≡ o
missing-part b part more None e some = absurd cc
missing-part b part more (Some rule) e some = missing-here b (leaves part) (flat_map leaves more) rule (sym e)

-- where the first part lacks nothing, what those behind it lack is what they lack
pub missing-parts :
    (b : Book) (part : Edit) (more : List Edit) (o : Option EditRule) → o ≡ first_missing b (leaves part)
    → is_some o ≡ false
    → first_missing b (flat_map leaves (part ∷ more)) ≡ first_missing b (flat_map leaves more)
missing-parts b part more None e none = missing-later b (leaves part) (flat_map leaves more) (sym e)
missing-parts b part more (Some rule) e none = absurd cc

pub walked-part :
    (walk : Walk) (part : Edit) (more : List Edit) (place : ℕ) → Err place ≡ walked (Ok walk) (leaves part)
    → walked (Ok walk) (flat_map leaves (part ∷ more)) ≡ Err place
walked-part walk part more place e =
    walked-append (Ok walk) (leaves part) (flat_map leaves more)
    ∙ ap (λ (r : Result Walk ℕ). walked r (flat_map leaves more)) (sym e) ∙ walked-stopped place (flat_map leaves more)

pub walked-parts :
    (walk next : Walk) (part : Edit) (more : List Edit) → Ok next ≡ walked (Ok walk) (leaves part)
    → walked (Ok walk) (flat_map leaves (part ∷ more)) ≡ walked (Ok next) (flat_map leaves more)
walked-parts walk next part more e =
    walked-append (Ok walk) (leaves part) (flat_map leaves more)
    ∙ ap (λ (r : Result Walk ℕ). walked r (flat_map leaves more)) (sym e)

pub puts-parts :
    (k : ThingKind) (part : Edit) (more : List Edit)
    → puts k (flat_map leaves (part ∷ more)) ≡ puts k (leaves part) + puts k (flat_map leaves more)
puts-parts k part more = puts-append k (leaves part) (flat_map leaves more)

-- what was gathered of some parts, with one more at the end
pub gathered :
    {X A : Type 0} (g : X → List A) (h : A → A) (done : List X) (new part : X) (more : List X)
    → g new ≡ map h (g part)
    → flat_map g (done ++ new ∷ []) ++ map h (flat_map g more) ≡ flat_map g done ++ map h (flat_map g (part ∷ more))
gathered {X} {A} g h done new part more e =
    let rest = map h (flat_map g more) in
    ap (λ (l : List A). l ++ rest) (sym (flat_map_more g [] done new))
    ∙ append_assoc (flat_map g done) (g new) rest
    ∙ ap (λ (l : List A). flat_map g done ++ l)
    (ap (λ (l : List A). l ++ rest) e ∙ sym (map-append h (g part) (flat_map g more)))

pub gathered_same :
    {X A : Type 0} (g : X → List A) (done : List X) (new part : X) (more : List X) → g new ≡ g part
    → flat_map g (done ++ new ∷ []) ++ flat_map g more ≡ flat_map g done ++ flat_map g (part ∷ more)
gathered_same {X} {A} g done new part more e =
    let rest = flat_map g more in
    ap (λ (l : List A). l ++ rest) (sym (flat_map_more g [] done new))
    ∙ append_assoc (flat_map g done) (g new) rest
    ∙ ap (λ (l : List A). flat_map g done ++ (l ++ rest)) e

pub deepest-gathered :
    (done : List Edit) (new part : Edit) (more : List Edit) → depth new ≡ depth part
    → max (deepest (done ++ new ∷ [])) (deepest more) ≡ max (deepest done) (deepest (part ∷ more))
deepest-gathered done new part more e = omega (arith, deepest-append done (new ∷ []))

-- Lists that are read item by item.
use Rattle.std.proofs.Common.{◌≡◌, ℕ, ◌<◌, List, [], ◌∷◌, ◌++◌, length, sym, ap, ◌∙◌}
use Rattle.std.proofs.Common.{append_assoc, append-nil, length-append, arith}
use Rattle.std.specs.List.{flat_map, AllByRecursion}

-- Of these items those `so_far` were read; the others are spelled by what is left, before the tail.
pub record AreLeft {T : Type 0} (fits : T → Type 0) (spelling : T → List ℕ) (items so_far : List T)
    (now tail : List ℕ) : Type 0 where
  pub others : List T
  pub whole : items ≡ so_far ++ others
  pub spelled : now ≡ flat_map spelling others ++ tail
  pub fit : AllByRecursion fits others

others_more :
    {T : Type 0} (fits : T → Type 0) (spelling : T → List ℕ) (items so_far : List T) (item : T)
    (now next tail : List ℕ) (others : List T) → length so_far < length items → items ≡ so_far ++ others
    → now ≡ flat_map spelling others ++ tail → AllByRecursion fits others
    → ((y : T) (more : List ℕ) → fits y → now ≡ spelling y ++ more → ◌≡◌ {A = T × List ℕ} (item, next) (y, more))
    → AreLeft fits spelling items (so_far ++ item ∷ []) next tail
others_more fits spelling items so_far item now next tail [] short whole spelled fit read =
    absurd (omega (arith, short, ap length whole, length-append so_far []))
others_more {T} fits spelling items so_far item now next tail (y ∷ ys) short whole spelled fit read =
    let same = read y (flat_map spelling ys ++ tail) fit.0
    (spelled ∙ append_assoc (spelling y) (flat_map spelling ys) tail) in
    let head : item ≡ y = ap (λ (p : T × List ℕ). p.0) same in
    record {
      others = ys;
      whole = whole ∙ ap (λ z. so_far ++ z ∷ ys) (sym head) ∙ sym (append_assoc so_far (item ∷ []) ys);
      spelled = ap (λ (p : T × List ℕ). p.1) same;
      fit = fit.1;
    }

-- one item more was read
pub left_more :
    {T : Type 0} (fits : T → Type 0) (spelling : T → List ℕ) (items so_far : List T) (item : T)
    (now next tail : List ℕ) → length so_far < length items → AreLeft fits spelling items so_far now tail
    → ((y : T) (more : List ℕ) → fits y → now ≡ spelling y ++ more → ◌≡◌ {A = T × List ℕ} (item, next) (y, more))
    → AreLeft fits spelling items (so_far ++ item ∷ []) next tail
left_more fits spelling items so_far item now next tail short are read =
    others_more fits spelling items so_far item now next tail are.others short are.whole are.spelled are.fit read

others_err :
    {T : Type 0} (fits : T → Type 0) (spelling : T → List ℕ) (items so_far : List T) (now tail : List ℕ)
    (others : List T) (Q : Type 0) → length so_far < length items → items ≡ so_far ++ others
    → now ≡ flat_map spelling others ++ tail → AllByRecursion fits others
    → ((y : T) (more : List ℕ) → fits y → now ≡ spelling y ++ more → Q) → Q
others_err fits spelling items so_far now tail [] Q short whole spelled fit read =
    absurd (omega (arith, short, ap length whole, length-append so_far []))
others_err fits spelling items so_far now tail (y ∷ ys) Q short whole spelled fit read =
    read y (flat_map spelling ys ++ tail) fit.0 (spelled ∙ append_assoc (spelling y) (flat_map spelling ys) tail)

-- an item is left to read
pub left_one :
    {T : Type 0} (fits : T → Type 0) (spelling : T → List ℕ) (items so_far : List T) (now tail : List ℕ)
    (Q : Type 0) → length so_far < length items → AreLeft fits spelling items so_far now tail
    → ((y : T) (more : List ℕ) → fits y → now ≡ spelling y ++ more → Q) → Q
left_one fits spelling items so_far now tail Q short are read =
    others_err fits spelling items so_far now tail are.others Q short are.whole are.spelled are.fit read

others_none :
    {T : Type 0} (spelling : T → List ℕ) (items so_far : List T) (now tail : List ℕ) (others : List T)
    → length so_far ≡ length items → items ≡ so_far ++ others → now ≡ flat_map spelling others ++ tail
    → ◌≡◌ {A = List T × List ℕ} (so_far, now) (items, tail)
others_none {T} spelling items so_far now tail [] long whole spelled =
    ap (λ (l : List T). (l, now)) (sym (whole ∙ append-nil so_far)) ∙ ap (λ (b : List ℕ). (items, b)) spelled
others_none spelling items so_far now tail (y ∷ ys) long whole spelled =
    absurd (omega (arith, long, ap length whole, length-append so_far (y ∷ ys)))

-- no item is left
pub left_none :
    {T : Type 0} (fits : T → Type 0) (spelling : T → List ℕ) (items so_far : List T) (now tail : List ℕ)
    → length so_far ≡ length items → AreLeft fits spelling items so_far now tail
    → ◌≡◌ {A = List T × List ℕ} (so_far, now) (items, tail)
left_none fits spelling items so_far now tail long are =
    others_none spelling items so_far now tail are.others long are.whole are.spelled

-- pairs of equal parts are equal
pub same_pair :
    {A B : Type 0} (a x : A) (b y : B) → a ≡ x → b ≡ y → ◌≡◌ {A = A × B} (a, b) (x, y)
same_pair {A} {B} a x b y first second =
    ap (λ (p : A). (p, b)) first ∙ ap (λ (q : B). (x, q)) second

-- the bytes of items, and then of one more, are those of all of them
pub read_on :
    {T : Type 0} (spelling : T → List ℕ) (items : List T) (item : T) (rest : List ℕ)
    → flat_map spelling items ++ (spelling item ++ rest) ≡ flat_map spelling (items ++ item ∷ []) ++ rest
read_on spelling [] item rest = ap (λ b. b ++ rest) (sym (append-nil (spelling item)))
read_on spelling (x ∷ xs) item rest =
    append_assoc (spelling x) (flat_map spelling xs) (spelling item ++ rest)
    ∙ ap (λ b. spelling x ++ b) (read_on spelling xs item rest)
    ∙ sym (append_assoc (spelling x) (flat_map spelling (xs ++ item ∷ [])) rest)

-- items that fit, and one more that does, all fit
pub fit_more :
    {T : Type 0} (fits : T → Type 0) (items : List T) (item : T) → AllByRecursion fits items → fits item
    → AllByRecursion fits (items ++ item ∷ [])
fit_more fits [] item all one = (one, tt)
fit_more fits (x ∷ xs) item all one = (all.0, fit_more fits xs item all.1 one)

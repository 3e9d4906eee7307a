-- Lists in rising order of a rank, cut into pieces: what is put in or taken out changes one piece.
use Rattle.std.proofs.Common.{◌≡◌, ℕ, zero, suc, ◌+◌, ◌<◌, ◌≤◌, nat_lt, ◌==◌, Bool, true, false, if◌then◌else◌}
use Rattle.std.proofs.Common.{List, [], ◌∷◌, ◌++◌, map, length, refl, ap, ◌∙◌, subst, arith}
use Rattle.std.proofs.lemmas.Bool.Decides.{nat_tests}
use Rattle.std.specs.List.{AllByRecursion, flat_map}
use Rattle.book_commodity.specs.Table.{AllAbove, Rises, with_entry, without_entry}

-- The list with an item in rising order of the ranks, in place of the one with its rank.
abbrev pub put_in : {X : Type 0} → (X → ℕ) → X → List X → List X
put_in r x [] = x ∷ []
put_in r x (y ∷ ys) = if nat_lt (r x) (r y) then x ∷ y ∷ ys else (if r x == r y then x ∷ ys else y ∷ put_in r x ys)

-- The list without the item of a rank.
abbrev pub take_out : {X : Type 0} → (X → ℕ) → ℕ → List X → List X
take_out r n [] = []
take_out r n (y ∷ ys) = if n == r y then ys else y ∷ take_out r n ys

-- ---- all items
-- What holds of an item, before what holds of those behind it.
pub beside : {A B : Type 0} → A → B → A × B
beside a b = (a, b)

pub all_both :
    {X : Type 0} (P : X → Type 0) (xs ys : List X) → AllByRecursion P xs → AllByRecursion P ys
    → AllByRecursion P (xs ++ ys)
all_both P [] ys h k = k
all_both P (x ∷ xs) ys h k = (h.0, all_both P xs ys h.1 k)

pub all_first : {X : Type 0} (P : X → Type 0) (xs ys : List X) → AllByRecursion P (xs ++ ys) → AllByRecursion P xs
all_first P [] ys h = tt
all_first P (x ∷ xs) ys h = (h.0, all_first P xs ys h.1)

pub all_last : {X : Type 0} (P : X → Type 0) (xs ys : List X) → AllByRecursion P (xs ++ ys) → AllByRecursion P ys
all_last P [] ys h = h
all_last P (x ∷ xs) ys h = all_last P xs ys h.1

pub all_weak :
    {X : Type 0} (P Q : X → Type 0) → ((x : X) → P x → Q x) → (xs : List X) → AllByRecursion P xs → AllByRecursion Q xs
all_weak P Q f [] h = tt
all_weak P Q f (x ∷ xs) h = (f x h.0, all_weak P Q f xs h.1)

all_chosen :
    {X : Type 0} (P : X → Type 0) (s t : Bool) (a b c : List X) → AllByRecursion P a → AllByRecursion P b
    → AllByRecursion P c → AllByRecursion P (if s then a else (if t then b else c))
all_chosen P true t a b c h k l = h
all_chosen P false true a b c h k l = k
all_chosen P false false a b c h k l = l

-- what holds of all items holds of them with one put in, where it holds of that
pub all_put :
    {X : Type 0} (P : X → Type 0) (r : X → ℕ) (x : X) (xs : List X) → P x → AllByRecursion P xs
    → AllByRecursion P (put_in r x xs)
all_put P r x [] here h = (here, tt)
all_put P r x (y ∷ ys) here h =
    all_chosen P (nat_lt (r x) (r y)) (r x == r y) (x ∷ y ∷ ys) (x ∷ ys) (y ∷ put_in r x ys)
    (here, h) (here, h.1) (h.0, all_put P r x ys here h.1)

all_either :
    {X : Type 0} (P : X → Type 0) (t : Bool) (a b : List X) → AllByRecursion P a → AllByRecursion P b
    → AllByRecursion P (if t then a else b)
all_either P true a b h k = h
all_either P false a b h k = k

pub all_take :
    {X : Type 0} (P : X → Type 0) (r : X → ℕ) (n : ℕ) (xs : List X) → AllByRecursion P xs
    → AllByRecursion P (take_out r n xs)
all_take P r n [] h = tt
all_take P r n (y ∷ ys) h = all_either P (n == r y) ys (y ∷ take_out r n ys) h.1 (h.0, all_take P r n ys h.1)

-- ---- mapped lists
pub pushed :
    {X Y : Type 0} (f : X → Y) (s t : Bool) (a b c : List X) (d : List Y) → d ≡ map f c
    → (if s then map f a else (if t then map f b else d)) ≡ map f (if s then a else (if t then b else c))
pushed f true t a b c d e = refl
pushed f false true a b c d e = refl
pushed f false false a b c d e = e

pub pushed_one :
    {X Y : Type 0} (f : X → Y) (t : Bool) (a b : List X) (d : List Y) → d ≡ map f b
    → (if t then map f a else d) ≡ map f (if t then a else b)
pushed_one f true a b d e = refl
pushed_one f false a b d e = e

chosen :
    {A : Type 0} (s t u v : Bool) (a b c : A) → s ≡ u → t ≡ v
    → (if s then a else (if t then b else c)) ≡ (if u then a else (if v then b else c))
chosen s t u v a b c p q =
    ap (λ (x : Bool). if x then a else (if t then b else c)) p
    ∙ ap (λ (x : Bool). if u then a else (if x then b else c)) q

less_shifted : (k a b x y : ℕ) → x ≡ k + a → y ≡ k + b → nat_lt x y ≡ nat_lt a b
less_shifted k a b x y p q = grind (arith, nat_tests)

same_shifted : (k a b x y : ℕ) → x ≡ k + a → y ≡ k + b → (x == y) ≡ (a == b)
same_shifted k a b x y p q = grind (arith, nat_tests)

-- an entry that is put in a table is put among its items
pub put_entry :
    {T X : Type 0} (k : ℕ) (f : ℕ × T → X) (r : X → ℕ) → ((e : ℕ × T) → r (f e) ≡ k + e.0) → (n : ℕ) (v : T)
    (es : List (ℕ × T)) → put_in r (f (n, v)) (map f es) ≡ map f (with_entry n v es)
put_entry k f r h n v [] = refl
put_entry k f r h n v (e ∷ es) =
    chosen (nat_lt (r (f (n, v))) (r (f e))) (r (f (n, v)) == r (f e)) (nat_lt n e.0) (n == e.0)
    (f (n, v) ∷ f e ∷ map f es) (f (n, v) ∷ map f es) (f e ∷ put_in r (f (n, v)) (map f es))
    (less_shifted k n e.0 (r (f (n, v))) (r (f e)) (h (n, v)) (h e))
    (same_shifted k n e.0 (r (f (n, v))) (r (f e)) (h (n, v)) (h e))
    ∙ pushed f (nat_lt n e.0) (n == e.0) ((n, v) ∷ e ∷ es) ((n, v) ∷ es) (e ∷ with_entry n v es)
    (f e ∷ put_in r (f (n, v)) (map f es)) (ap (λ l. f e ∷ l) (put_entry k f r h n v es))

-- an entry that is taken out of a table is taken out of its items
pub take_entry :
    {T X : Type 0} (k : ℕ) (f : ℕ × T → X) (r : X → ℕ) → ((e : ℕ × T) → r (f e) ≡ k + e.0) → (n m : ℕ) → m ≡ k + n
    → (es : List (ℕ × T)) → take_out r m (map f es) ≡ map f (without_entry n es)
take_entry k f r h n m is [] = refl
take_entry k f r h n m is (e ∷ es) =
    ap (λ (t : Bool). if t then map f es else f e ∷ take_out r m (map f es)) (same_shifted k n e.0 m (r (f e)) is (h e))
    ∙ pushed_one f (n == e.0) es (e ∷ without_entry n es) (f e ∷ take_out r m (map f es))
    (ap (λ l. f e ∷ l) (take_entry k f r h n m is es))

-- ---- pieces
pub put_pass :
    {X : Type 0} (r : X → ℕ) (x : X) (xs ys : List X) → AllByRecursion (λ y. r y < r x) xs
    → put_in r x (xs ++ ys) ≡ xs ++ put_in r x ys
put_pass r x [] ys h = refl
put_pass r x (y ∷ xs) ys h = grind (arith, nat_tests, h.0, put_pass r x xs ys h.1)

pub put_front :
    {X : Type 0} (r : X → ℕ) (x : X) (ys : List X) → AllByRecursion (λ y. r x < r y) ys → put_in r x ys ≡ x ∷ ys
put_front r x [] h = refl
put_front r x (y ∷ ys) h = grind (arith, nat_tests, h.0)

pub put_stop :
    {X : Type 0} (r : X → ℕ) (x : X) (xs ys : List X) → AllByRecursion (λ y. r x < r y) ys
    → put_in r x (xs ++ ys) ≡ put_in r x xs ++ ys
put_stop r x [] ys h = put_front r x ys h
put_stop r x (y ∷ xs) ys h = grind (arith, nat_tests, put_stop r x xs ys h)

pub take_pass :
    {X : Type 0} (r : X → ℕ) (n : ℕ) (xs ys : List X) → AllByRecursion (λ y. r y < n) xs
    → take_out r n (xs ++ ys) ≡ xs ++ take_out r n ys
take_pass r n [] ys h = refl
take_pass r n (y ∷ xs) ys h = grind (arith, nat_tests, h.0, take_pass r n xs ys h.1)

pub take_front :
    {X : Type 0} (r : X → ℕ) (n : ℕ) (ys : List X) → AllByRecursion (λ y. n < r y) ys → take_out r n ys ≡ ys
take_front r n [] h = refl
take_front r n (y ∷ ys) h = grind (arith, nat_tests, h.0, take_front r n ys h.1)

pub take_stop :
    {X : Type 0} (r : X → ℕ) (n : ℕ) (xs ys : List X) → AllByRecursion (λ y. n < r y) ys
    → take_out r n (xs ++ ys) ≡ take_out r n xs ++ ys
take_stop r n [] ys h = take_front r n ys h
take_stop r n (y ∷ xs) ys h = grind (arith, nat_tests, take_stop r n xs ys h)

-- The pieces, one after another.
abbrev pub joined : {X : Type 0} → List (List X) → List X
joined pieces = flat_map (λ piece. piece) pieces

-- The pieces, of which that at a place has an item put in.
abbrev pub put_at : {X : Type 0} → (X → ℕ) → ℕ → X → List (List X) → List (List X)
put_at r d x [] = []
put_at r zero x (s ∷ ss) = put_in r x s ∷ ss
put_at r (suc d) x (s ∷ ss) = s ∷ put_at r d x ss

-- The pieces, of which that at a place has an item taken out.
abbrev pub take_at : {X : Type 0} → (X → ℕ) → ℕ → ℕ → List (List X) → List (List X)
take_at r d n [] = []
take_at r zero n (s ∷ ss) = take_out r n s ∷ ss
take_at r (suc d) n (s ∷ ss) = s ∷ take_at r d n ss

-- The ranks of each piece lie between two edges, and those of the next piece behind them.
abbrev pub InOrder : {X : Type 0} → (X → ℕ) → (ℕ → ℕ) → ℕ → List (List X) → Type 0
InOrder r edge k [] = Unit {0}
InOrder r edge k (s ∷ ss) =
    AllByRecursion (λ x. (edge k ≤ r x) × (r x < edge (suc k))) s × InOrder r edge (suc k) ss

above_edge :
    {X : Type 0} (r : X → ℕ) (edge : ℕ → ℕ) → ((i : ℕ) → edge i ≤ edge (suc i)) → (k : ℕ) (ss : List (List X))
    → InOrder r edge k ss → (n : ℕ) → n < edge k → AllByRecursion (λ y. n < r y) (joined ss)
above_edge r edge up k [] o n lt = tt
above_edge {X} r edge up k (s ∷ ss) o n lt =
    all_both (λ y. n < r y) s (joined ss)
    (all_weak (λ (x : X). (edge k ≤ r x) × (r x < edge (suc k))) (λ (y : X). n < r y)
    (λ x h. let low = h.0 in omega (arith, low)) s o.0)
    (above_edge r edge up (suc k) ss o.1 n (let rise = up k in omega (arith, rise)))

edge_up : (edge : ℕ → ℕ) → ((i : ℕ) → edge i ≤ edge (suc i)) → (k d : ℕ) → edge k ≤ edge (k + d)
edge_up edge up k zero = let same : k ≡ k + 0 = omega arith in subst (λ (i : ℕ). edge k ≤ edge i) same (omega arith)
edge_up edge up k (suc d) =
    let same : suc (k + d) ≡ k + suc d = omega arith in
    let one = up (k + d) in
    let rest = edge_up edge up k d in
    subst (λ (i : ℕ). edge k ≤ edge i) same (omega (arith, one, rest))

-- an item is put in among the pieces where it is put in the piece of its edges
pub put_joined :
    {X : Type 0} (r : X → ℕ) (edge : ℕ → ℕ) → ((i : ℕ) → edge i ≤ edge (suc i)) → (d k : ℕ) (x : X) (ss : List (List X))
    → InOrder r edge k ss → d < length ss → edge (k + d) ≤ r x → r x < edge (suc (k + d))
    → put_in r x (joined ss) ≡ joined (put_at r d x ss)
put_joined r edge up d k x [] o lt low high = absurd (omega arith)
put_joined r edge up zero k x (s ∷ ss) o lt low high =
    let same : suc (k + 0) ≡ suc k = omega arith in
    let below : r x < edge (suc k) = subst (λ (i : ℕ). r x < edge i) same high in
    put_stop r x s (joined ss) (above_edge r edge up (suc k) ss o.1 (r x) below)
put_joined {X} r edge up (suc d) k x (s ∷ ss) o lt low high =
    let same : k + suc d ≡ suc k + d = omega arith in
    let least : edge (suc k + d) ≤ r x = subst (λ (i : ℕ). edge i ≤ r x) same low in
    let most : r x < edge (suc (suc k + d)) = subst (λ (i : ℕ). r x < edge (suc i)) same high in
    let past = edge_up edge up (suc k) d in
    put_pass r x s (joined ss)
    (all_weak (λ (y : X). (edge k ≤ r y) × (r y < edge (suc k))) (λ (y : X). r y < r x)
    (λ y h. let high' = h.1 in omega (arith, high', past, least)) s o.0)
    ∙ ap (λ l. s ++ l) (put_joined r edge up d (suc k) x ss o.1 (omega arith) least most)

-- and likewise one that is taken out
pub take_joined :
    {X : Type 0} (r : X → ℕ) (edge : ℕ → ℕ) → ((i : ℕ) → edge i ≤ edge (suc i)) → (d k n : ℕ) (ss : List (List X))
    → InOrder r edge k ss → d < length ss → edge (k + d) ≤ n → n < edge (suc (k + d))
    → take_out r n (joined ss) ≡ joined (take_at r d n ss)
take_joined r edge up d k n [] o lt low high = absurd (omega arith)
take_joined r edge up zero k n (s ∷ ss) o lt low high =
    let same : suc (k + 0) ≡ suc k = omega arith in
    let below : n < edge (suc k) = subst (λ (i : ℕ). n < edge i) same high in
    take_stop r n s (joined ss) (above_edge r edge up (suc k) ss o.1 n below)
take_joined {X} r edge up (suc d) k n (s ∷ ss) o lt low high =
    let same : k + suc d ≡ suc k + d = omega arith in
    let least : edge (suc k + d) ≤ n = subst (λ (i : ℕ). edge i ≤ n) same low in
    let most : n < edge (suc (suc k + d)) = subst (λ (i : ℕ). n < edge (suc i)) same high in
    let past = edge_up edge up (suc k) d in
    take_pass r n s (joined ss)
    (all_weak (λ (y : X). (edge k ≤ r y) × (r y < edge (suc k))) (λ (y : X). r y < n)
    (λ y h. let high' = h.1 in omega (arith, high', past, least)) s o.0)
    ∙ ap (λ l. s ++ l) (take_joined r edge up d (suc k) n ss o.1 (omega arith) least most)

-- ---- rising ranks
-- The ranks rise from item to item.
abbrev pub RisesBy : {X : Type 0} → (X → ℕ) → List X → Type 0
RisesBy r [] = Unit {0}
RisesBy r (x ∷ xs) = AllByRecursion (λ y. r x < r y) xs × RisesBy r xs

pub rises_both :
    {X : Type 0} (r : X → ℕ) (xs ys : List X) → RisesBy r xs → RisesBy r ys
    → AllByRecursion (λ x. AllByRecursion (λ y. r x < r y) ys) xs → RisesBy r (xs ++ ys)
rises_both r [] ys p q h = q
rises_both r (x ∷ xs) ys p q h =
    (all_both (λ y. r x < r y) xs ys p.0 h.0, rises_both r xs ys p.1 q h.1)

-- pieces in order, the ranks of each of which rise, have rising ranks
pub rises_joined :
    {X : Type 0} (r : X → ℕ) (edge : ℕ → ℕ) → ((i : ℕ) → edge i ≤ edge (suc i)) → (k : ℕ) (ss : List (List X))
    → InOrder r edge k ss → AllByRecursion (RisesBy r) ss → RisesBy r (joined ss)
rises_joined r edge up k [] o h = tt
rises_joined {X} r edge up k (s ∷ ss) o h =
    rises_both r s (joined ss) h.0 (rises_joined r edge up (suc k) ss o.1 h.1)
    (all_weak (λ (x : X). (edge k ≤ r x) × (r x < edge (suc k)))
    (λ (x : X). AllByRecursion (λ (y : X). r x < r y) (joined ss))
    (λ x within. above_edge r edge up (suc k) ss o.1 (r x) within.1) s o.0)

above_entries :
    {T X : Type 0} (k : ℕ) (f : ℕ × T → X) (r : X → ℕ) → ((e : ℕ × T) → r (f e) ≡ k + e.0) → (n : ℕ) (es : List (ℕ × T))
    → AllAbove n es → (m : ℕ) → m ≡ k + n → AllByRecursion (λ y. m < r y) (map f es)
above_entries k f r h n [] a m is = tt
above_entries k f r h n (e ∷ es) a m is =
    ((let here = h e in let past = a.0 in omega (arith, here, past, is)), above_entries k f r h n es a.1 m is)

-- the items of a table have rising ranks
pub rises_entries :
    {T X : Type 0} (k : ℕ) (f : ℕ × T → X) (r : X → ℕ) → ((e : ℕ × T) → r (f e) ≡ k + e.0) → (es : List (ℕ × T))
    → Rises es → RisesBy r (map f es)
rises_entries k f r h [] rise = tt
rises_entries k f r h (e ∷ es) rise =
    (above_entries k f r h e.0 es rise.0 (r (f e)) (h e), rises_entries k f r h es rise.1)

pub above_first_edge :
    {X : Type 0} (r : X → ℕ) (edge : ℕ → ℕ) → ((i : ℕ) → edge i ≤ edge (suc i)) → (k : ℕ) (ss : List (List X))
    → InOrder r edge k ss → (n : ℕ) → n < edge k → AllByRecursion (λ y. n < r y) (joined ss)
above_first_edge r edge up k ss o n lt = above_edge r edge up k ss o n lt

-- the items of pieces in order are below the edge behind the last
pub below_edge :
    {X : Type 0} (r : X → ℕ) (edge : ℕ → ℕ) → ((i : ℕ) → edge i ≤ edge (suc i)) → (k : ℕ) (ss : List (List X))
    → InOrder r edge k ss → AllByRecursion (λ y. r y < edge (k + length ss)) (joined ss)
below_edge r edge up k [] o = tt
below_edge {X} r edge up k (s ∷ ss) o =
    let same : suc k + length ss ≡ k + suc (length ss) = omega arith in
    let past = edge_up edge up (suc k) (length ss) in
    all_both (λ (y : X). r y < edge (k + suc (length ss))) s (joined ss)
    (all_weak (λ (x : X). (edge k ≤ r x) × (r x < edge (suc k))) (λ (y : X). r y < edge (k + suc (length ss)))
    (λ x h. subst (λ (i : ℕ). r x < edge i) same (let high = h.1 in omega (arith, high, past))) s o.0)
    (subst (λ (i : ℕ). AllByRecursion (λ (y : X). r y < edge i) (joined ss)) same
    (below_edge r edge up (suc k) ss o.1))

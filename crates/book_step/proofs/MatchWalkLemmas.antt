-- The loops over pairs: which numbers are in a set, and what a map has, from place to place.
use Rattle.std.proofs.Common.{◌≡◌, ℕ, ◌+◌, ◌<◌, ◌==◌, ◌||◌, nat_lt, Bool, true, false, cond, if◌then◌else◌, List, ◌∷◌}
use Rattle.std.proofs.Common.{drop, find, get_or, length, Option, Some, option_map, refl, sym, ap, ◌∙◌, arith}
use Rattle.std.specs.BTreeMap.{BTreeMap, get, is_at}
use Rattle.std.specs.BTreeSet.{BTreeSet, contains}
use Rattle.std.specs.Ordering.{is_eq, nat_cmp}
use Rattle.std.specs.declared.cmp.Ordering.TheVariants.{Less, Equal, Greater}
use Rattle.std.proofs.lemmas.Bool.{ne_eqb}
use Rattle.std.proofs.lemmas.Bool.Decides.{nat_tests}
use Rattle.std.proofs.lemmas.List.{get_or_default}
use Rattle.book_commodity.proofs.ListLemmas.{from-item}
use Rattle.book_match.specs.declared.views.Matched.{Matched}
use Rattle.book_step.specs.AutoMatching.{has_pair, split_of}

-- ---- a number in a set, or in a map

at_number : (k q : ℕ) → is_at (nat_cmp k) q ≡ (k == q)
at_number k q =
    by_tests (nat_lt k q) (k == q)
    (λ e. ne_eqb k q (λ same. absurd (let less : k < q = grind (arith, nat_tests, e) in omega (arith, less, same))))
  where
    by_tests : (s t : Bool) → (s ≡ true → t ≡ false)
        → is_eq (if s then Less else (if t then Equal else Greater)) ≡ t
    by_tests true t less = sym (less refl)
    by_tests false true less = refl
    by_tests false false less = refl

either : (this before : Bool) → cond this true before ≡ (this || before)
either true before = refl
either false before = refl

or_moved : (here rest before : Bool) → (rest || (here || before)) ≡ ((here || rest) || before)
or_moved true true before = refl
or_moved true false before = refl
or_moved false rest before = refl

-- a number is in the set that an insertion leaves where it is the one that is put in, or was there
pub inserted :
    (old new : BTreeSet ℕ) (k : ℕ)
    → ((q : ℕ) → contains nat_cmp new q ≡ cond (is_at (nat_cmp k) q) true (contains nat_cmp old q))
    → (q : ℕ) → contains nat_cmp new q ≡ ((k == q) || contains nat_cmp old q)
inserted old new k updates q =
    updates q ∙ ap (λ (b : Bool). cond b true (contains nat_cmp old q)) (at_number k q)
    ∙ either (k == q) (contains nat_cmp old q)

drop_item :
    {X : Type 0} (xs : List X) (i : ℕ) (d : X) → i < length xs → drop i xs ≡ get_or xs i d ∷ drop (i + 1) xs
drop_item xs i d below = from-item xs i (get_or xs i d) below (get_or_default xs i d (get_or xs i d) below)

-- ---- the splits of the pairs

pub paired-more :
    (pairs : List Matched) (i : ℕ) (d : Matched) (old new : BTreeSet ℕ) → i < length pairs
    → ((q : ℕ) → contains nat_cmp new q
    ≡ cond (is_at (nat_cmp (get_or pairs i d).split) q) true (contains nat_cmp old q))
    → ((n : ℕ) → (has_pair (drop i pairs) n || contains nat_cmp old n) ≡ has_pair pairs n)
    → (n : ℕ) → (has_pair (drop (i + 1) pairs) n || contains nat_cmp new n) ≡ has_pair pairs n
paired-more pairs i d old new below updates before n =
    let pair = get_or pairs i d in
    let here = drop_item pairs i d below in
    let rest = has_pair (drop (i + 1) pairs) n in
    ap (λ (b : Bool). rest || b) (inserted old new pair.split updates n)
    ∙ or_moved (pair.split == n) rest (contains nat_cmp old n)
    ∙ sym (ap (λ (ps : List Matched). has_pair ps n || contains nat_cmp old n) here)
    ∙ before n

-- ---- the split that each line takes

pub takes-more :
    (pairs : List Matched) (i : ℕ) (d : Matched) (old new : BTreeMap ℕ ℕ) → i < length pairs
    → ((q : ℕ) → get nat_cmp new q
    ≡ cond (is_at (nat_cmp (get_or pairs i d).line) q) (Some (get_or pairs i d).split) (get nat_cmp old q))
    → ((n : ℕ) → get nat_cmp old n ≡ split_of (drop (i + 1) pairs) n)
    → (n : ℕ) → get nat_cmp new n ≡ split_of (drop i pairs) n
takes-more pairs i d old new below updates before n =
    let pair = get_or pairs i d in
    let here = drop_item pairs i d below in
    let rest = drop (i + 1) pairs in
    updates n
    ∙ ap (λ (b : Bool). cond b (Some pair.split) (get nat_cmp old n)) (at_number pair.line n)
    ∙ ap (λ (o : Option ℕ). cond (pair.line == n) (Some pair.split) o) (before n)
    ∙ mapped pair (pair.line == n) (find (λ p. p.line == n) rest)
    ∙ sym (ap (λ (ps : List Matched). split_of ps n) here)
  where
    mapped : (p : Matched) (b : Bool) (found : Option Matched)
        → cond b (Some p.split) (option_map (λ (x : Matched). x.split) found)
        ≡ option_map (λ (x : Matched). x.split) (cond b (Some p) found)
    mapped p true found = refl
    mapped p false found = refl

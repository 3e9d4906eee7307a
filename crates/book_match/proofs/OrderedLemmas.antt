-- All splits of an index at once: what a sort by account, amount, day and number gives.
use Rattle.std.proofs.Common.{◌≡◌, ℕ, ◌==◌, nat_lt, ℤ, Bool, true, false, if◌then◌else◌, List, [], ◌∷◌, refl}
use Rattle.std.proofs.Common.{sym, ap, ◌∙◌, arith}
use Rattle.std.proofs.lemmas.Bool.Decides.{nat_tests}
use Rattle.std.proofs.lemmas.Int.{ints}
use Rattle.std.specs.Cmp.{IsStrictWeakOrder}
use Rattle.std.specs.Ordering.{int_cmp, is_lt, nat_cmp, ordering_then}
use Rattle.std.specs.Prelude.{int_lt}
use Rattle.std.specs.declared.cmp.Ordering.{Ordering}
use Rattle.std.specs.declared.cmp.Ordering.TheVariants.{Less, Equal, Greater}
use Rattle.book_match.specs.AmountIndex.{AreApart, Rises, ordered, precedes, with_free}
use Rattle.book_match.specs.Proposal.{in_turn}
use Rattle.book_match.specs.declared.free.Free.{Free}
use Rattle.book_match.proofs.IndexLaws.{one-before, there-ordered}
use Rattle.book_match.proofs.IndexLemmas.{rises-with}
use Rattle.book_match.proofs.OrderLemmas.{sorted, with_row}

-- ---- they rise
pub rises-ordered : (es : List Free) → AreApart es → Rises (ordered es)
rises-ordered [] apart = tt
rises-ordered (e ∷ es) apart =
    rises-with e (ordered es) (rises-ordered es apart.1) (there-ordered e es ∙ apart.0)

-- ---- the order is one in which any two compare
nat-chain : (a b c : ℕ) (u v w : Bool) → (u ≡ false → v ≡ false → w ≡ false) → in_turn (nat_lt a b) (nat_lt b a) u ≡ false
    → in_turn (nat_lt b c) (nat_lt c b) v ≡ false → in_turn (nat_lt a c) (nat_lt c a) w ≡ false
nat-chain a b c false false w next e f = let is = next refl refl in grind (arith, nat_tests, is)
nat-chain a b c false true w next e f = grind (arith, nat_tests)
nat-chain a b c true v w next e f = grind (arith, nat_tests)

int-chain : (a b c : ℤ) (u v w : Bool) → (u ≡ false → v ≡ false → w ≡ false) → in_turn (int_lt a b) (int_lt b a) u ≡ false
    → in_turn (int_lt b c) (int_lt c b) v ≡ false → in_turn (int_lt a c) (int_lt c a) w ≡ false
int-chain a b c false false w next e f = let is = next refl refl in grind (arith, ints, is)
int-chain a b c false true w next e f = grind (arith, ints)
int-chain a b c true v w next e f = grind (arith, ints)

less-chain : (a b c : ℕ) → nat_lt a b ≡ false → nat_lt b c ≡ false → nat_lt a c ≡ false
less-chain a b c e f = grind (arith, nat_tests)

abbrev by_day : Free → Free → Bool
by_day a b = in_turn (int_lt a.day b.day) (int_lt b.day a.day) (nat_lt a.split b.split)

abbrev by_amount : Free → Free → Bool
by_amount a b = in_turn (int_lt a.amount b.amount) (int_lt b.amount a.amount) (by_day a b)

none-chain : (a b c : Free) → precedes a b ≡ false → precedes b c ≡ false → precedes a c ≡ false
none-chain a b c e f =
    nat-chain a.account b.account c.account (by_amount a b) (by_amount b c) (by_amount a c)
    (int-chain a.amount b.amount c.amount (by_day a b) (by_day b c) (by_day a c)
    (int-chain a.day b.day c.day (nat_lt a.split b.split) (nat_lt b.split c.split) (nat_lt a.split c.split)
    (less-chain a.split b.split c.split)))
    e f

pub precedes-order : IsStrictWeakOrder precedes
precedes-order = record { one_way = one-before; chain = none-chain }

-- ---- the order of keys is that of the splits
then-int : (a b : ℤ) (o : Ordering) (w : Bool) → is_lt o ≡ w
    → is_lt (ordering_then (int_cmp a b) o) ≡ in_turn (int_lt a b) (int_lt b a) w
then-int a b o w e = by_tests (int_lt a b) (int_lt b a)
  where
    by_tests : (s t : Bool)
        → is_lt (ordering_then (if s then Less else (if t then Greater else Equal)) o) ≡ in_turn s t w
    by_tests true t = refl
    by_tests false true = refl
    by_tests false false = e

then-nat : (a b : ℕ) (o : Ordering) (w : Bool) → is_lt o ≡ w
    → is_lt (ordering_then (nat_cmp a b) o) ≡ in_turn (nat_lt a b) (nat_lt b a) w
then-nat a b o w e =
    by_tests (nat_lt a b) (nat_lt b a) (a == b) (λ f g. grind (arith, nat_tests, f, g))
    (λ f. grind (arith, nat_tests, f))
  where
    by_tests : (s t v : Bool) → (s ≡ false → v ≡ false → t ≡ true) → (v ≡ true → t ≡ false)
        → is_lt (ordering_then (if s then Less else (if v then Equal else Greater)) o) ≡ in_turn s t w
    by_tests true t v more same = refl
    by_tests false t true more same = e ∙ ap (λ (b : Bool). in_turn false b w) (sym (same refl))
    by_tests false t false more same = ap (λ (b : Bool). in_turn false b w) (sym (more refl refl))

less-nat : (a b : ℕ) → is_lt (nat_cmp a b) ≡ nat_lt a b
less-nat a b = by_tests (nat_lt a b) (a == b)
  where
    by_tests : (s v : Bool) → is_lt (if s then Less else (if v then Equal else Greater)) ≡ s
    by_tests true v = refl
    by_tests false true = refl
    by_tests false false = refl

then-then : (o p q : Ordering) → ordering_then (ordering_then o p) q ≡ ordering_then o (ordering_then p q)
then-then Less p q = refl
then-then Equal p q = refl
then-then Greater p q = refl

abbrev pub key_less : Free → Free → Bool
key_less a b =
    is_lt (ordering_then (ordering_then (ordering_then (nat_cmp a.account b.account) (int_cmp a.amount b.amount))
    (int_cmp a.day b.day)) (nat_cmp a.split b.split))

pub key-less : (a b : Free) → key_less a b ≡ precedes a b
key-less a b =
    let account : Ordering = nat_cmp a.account b.account in
    let amount : Ordering = int_cmp a.amount b.amount in
    let day : Ordering = int_cmp a.day b.day in
    let split : Ordering = nat_cmp a.split b.split in
    ap is_lt (then-then (ordering_then account amount) day split ∙ then-then account amount (ordering_then day split))
    ∙ then-nat a.account b.account (ordering_then amount (ordering_then day split)) (by_amount a b)
    (then-int a.amount b.amount (ordering_then day split) (by_day a b)
    (then-int a.day b.day split (nat_lt a.split b.split) (less-nat a.split b.split)))

-- ---- a sort by them gives the order
with-same : (lt less : Free → Free → Bool) → ((a b : Free) → lt a b ≡ less a b) → (row : Free) (rows : List Free)
    → with_row lt row rows ≡ with_row less row rows
with-same lt less same row [] = refl
with-same lt less same row (first ∷ more) =
    ap (λ (t : Bool). if t then first ∷ with_row lt row more else row ∷ first ∷ more) (same first row)
    ∙ ap (λ l. if less first row then first ∷ l else row ∷ first ∷ more) (with-same lt less same row more)

with_free-is : (free : Free) (es : List Free) → with_free free es ≡ with_row precedes free es
with_free-is free [] = refl
with_free-is free (e ∷ es) =
    ap (λ l. if precedes e free then e ∷ l else free ∷ e ∷ es) (with_free-is free es)

pub ordered-is : (es : List Free) → sorted key_less es ≡ ordered es
ordered-is [] = refl
ordered-is (e ∷ es) =
    with-same key_less precedes key-less e (sorted key_less es)
    ∙ ap (with_row precedes e) (ordered-is es) ∙ sym (with_free-is e (ordered es))

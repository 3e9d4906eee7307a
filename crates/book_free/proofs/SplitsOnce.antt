-- Each split of a sound book has a number that no other has.
use Rattle.std.proofs.Common.{◌≡◌, ℕ, ◌==◌, ◌&&◌, nat_lt, not, Bool, true, false, List, [], ◌∷◌, ◌++◌, Some, refl, sym}
use Rattle.std.proofs.Common.{ap, ◌∙◌, arith}
use Rattle.std.specs.List.{list_any}
use Rattle.std.proofs.lemmas.Bool.{and_from, and_parts, not-true, not_from_false, or_from, or_parts}
use Rattle.std.proofs.lemmas.Bool.Decides.{nat_tests}
use Rattle.std.proofs.lemmas.List.{map-append}
use Rattle.std.proofs.lemmas.List.Folds.{list_any-append}
use Rattle.book_commodity.specs.Rules.{stands_before}
use Rattle.book_commodity.specs.Table.{Rises, value_of}
use Rattle.book_splits.specs.Balance.{splits_of}
use Rattle.book_splits.specs.TransactionRules.{are_once, is_among, numbers_of, share_numbers}
use Rattle.book_splits.specs.declared.split.Split.{Split}
use Rattle.book_splits.specs.declared.transaction.Txn.{Txn}
use Rattle.book_undo.specs.Book.{Book}
use Rattle.book_sound.proofs.SplitFrames.{above_there}
use Rattle.book_sound.specs.Soundness.{IsSoundBook}

-- ---- lists that share no number

-- what is apart from a number and others is apart from both
apart_parts :
    (m : ℕ) (ms ns : List ℕ) → list_any (is_among (m ∷ ms)) ns ≡ false
    → (is_among ns m ≡ false) × (list_any (is_among ms) ns ≡ false)
apart_parts m ms [] apart = (refl, refl)
apart_parts m ms (n ∷ ns) apart =
    let parts = or_parts (is_among (m ∷ ms) n) (list_any (is_among (m ∷ ms)) ns) apart in
    let here = or_parts (m == n) (is_among ms n) parts.0 in
    let rest = apart_parts m ms ns parts.1 in
    let turned : (n == m) ≡ false = let other = here.0 in grind (arith, nat_tests, other) in
    (or_from (n == m) (is_among ns m) turned rest.0, or_from (is_among ms n) _ here.1 rest.1)

apart_turned :
    (ms ns : List ℕ) → list_any (is_among ms) ns ≡ false → list_any (is_among ns) ms ≡ false
apart_turned [] ns apart = refl
apart_turned (m ∷ ms) ns apart =
    let parts = apart_parts m ms ns apart in
    or_from (is_among ns m) (list_any (is_among ns) ms) parts.0 (apart_turned ms ns parts.1)

-- numbers that stand once in both of two such lists do in both together
once_together :
    (ms ns : List ℕ) → are_once ms ≡ true → are_once ns ≡ true → list_any (is_among ns) ms ≡ false
    → are_once (ms ++ ns) ≡ true
once_together [] ns once other apart = other
once_together (m ∷ ms) ns once other apart =
    let parts = and_parts (not (is_among ms m)) (are_once ms) once in
    let both = or_parts (is_among ns m) (list_any (is_among ns) ms) apart in
    let none : is_among (ms ++ ns) m ≡ false = list_any-append (λ (k : ℕ). k == m) ms ns
    ∙ or_from (is_among ms m) (is_among ns m) (not-true (is_among ms m) parts.0) both.0 in
    and_from (not (is_among (ms ++ ns) m)) (are_once (ms ++ ns)) (not_from_false (is_among (ms ++ ns) m) none)
    (once_together ms ns parts.1 other both.1)

-- ---- the splits of a table

-- What the rules say of the numbers of a table's transactions: none has a number twice, or one of another before it.
abbrev pub AreApart : List (ℕ × Txn) → Type 0
AreApart ts =
    (k : ℕ) (t : Txn) → value_of k ts ≡ Some t
    → (are_once (numbers_of t.splits) ≡ true) × (stands_before (share_numbers t) k ts ≡ false)

-- none of the numbers behind is one of the first's
apart_behind :
    (numbers : List ℕ) (ts : List (ℕ × Txn)) → Rises ts
    → ((k : ℕ) (t : Txn) → value_of k ts ≡ Some t → list_any (is_among numbers) (numbers_of t.splits) ≡ false)
    → list_any (is_among numbers) (numbers_of (splits_of ts)) ≡ false
apart_behind numbers [] r each = refl
apart_behind numbers (e ∷ ts) r each =
    let first : value_of e.0 (e ∷ ts) ≡ Some e.1 = grind (arith, nat_tests) in
    let rest = apart_behind numbers ts r.1
    (λ k t found.
    let past = above_there e.0 k t ts r.0 found in
    let later : value_of k (e ∷ ts) ≡ Some t = grind (arith, nat_tests, past, found) in
    each k t later) in
    ap (list_any (is_among numbers)) (map-append (λ (s : Split). s.id) e.1.splits (splits_of ts))
    ∙ list_any-append (is_among numbers) (numbers_of e.1.splits) (numbers_of (splits_of ts))
    ∙ or_from (list_any (is_among numbers) (numbers_of e.1.splits)) _ (each e.0 e.1 first) rest

pub once_of :
    (ts : List (ℕ × Txn)) → Rises ts → AreApart ts → are_once (numbers_of (splits_of ts)) ≡ true
once_of [] r apart = refl
once_of (e ∷ ts) r apart =
    let first : value_of e.0 (e ∷ ts) ≡ Some e.1 = grind (arith, nat_tests) in
    let past = λ (k : ℕ) (t : Txn) (found : value_of k ts ≡ Some t).
    above_there e.0 k t ts r.0 found in
    let there = λ (k : ℕ) (t : Txn) (found : value_of k ts ≡ Some t).
    (let less = past k t found in
    let is : value_of k (e ∷ ts) ≡ Some t = grind (arith, nat_tests, less, found) in is) in
    let parts = λ (k : ℕ) (t : Txn) (found : value_of k ts ≡ Some t).
    or_parts (nat_lt e.0 k && share_numbers t e.1) (stands_before (share_numbers t) k ts)
    (apart k t (there k t found)).1 in
    let own = (apart e.0 e.1 first).0 in
    let rest = once_of ts r.1 (λ k t found. ((apart k t (there k t found)).0, (parts k t found).1)) in
    let behind = apart_behind (numbers_of e.1.splits) ts r.1
    (λ k t found.
    let less = past k t found in
    let before : nat_lt e.0 k ≡ true = grind (arith, nat_tests, less) in
    sym (ap (λ (b : Bool). b && share_numbers t e.1) before) ∙ (parts k t found).0) in
    ap are_once (map-append (λ (s : Split). s.id) e.1.splits (splits_of ts))
    ∙ once_together (numbers_of e.1.splits) (numbers_of (splits_of ts)) own rest
    (apart_turned (numbers_of e.1.splits) (numbers_of (splits_of ts)) behind)

-- No two splits of a sound book have one number.
pub splits_once : (book : Book) → IsSoundBook book → are_once (numbers_of (splits_of book.transactions)) ≡ true
splits_once book is =
    once_of book.transactions is.transactions.rise
    (λ k t there. let kept = is.transactions.keep.each k t there in (kept.1.0, not-true _ kept.1.1.0))

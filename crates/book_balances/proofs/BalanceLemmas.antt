-- The transaction that stands under a number after an edit which puts one there.
use Rattle.std.proofs.Common.{◌≡◌, ℕ, ℤ, ◌==◌, Bool, true, false, if◌then◌else◌, List, [], ◌∷◌, ◌++◌, flat_map}
use Rattle.std.proofs.Common.{Option, Some, None, is_some, option_map, inr, refl, Bor, ap, subst, ◌∙◌, sym, arith}
use Rattle.std.specs.Option.{option_copied, option_or}
use Rattle.std.proofs.lemmas.Bool.{eqb-true}
use Rattle.book_commodity.specs.Table.{value_of, with_entry}
use Rattle.book_commodity.proofs.DrawnLemmas.{value_here}
use Rattle.book_commodity.proofs.TableLemmas.{value_of_with, value_of_without}
use Rattle.book_splits.specs.Balance.{balances_in, splits_of}
use Rattle.book_splits.specs.declared.transaction.Txn.{Txn}
use Rattle.book_undo.specs.Book.{Book, IsRising, with_currency, with_thing, without_thing}
use Rattle.book_undo.specs.Edit.{Key, Leaf, OfCurrency, OfPut, OfGone, edited, key_at, key_of, leaves}
use Rattle.book_undo.specs.EditRules.{IsAllowed, first_unordered}
use Rattle.book_undo.specs.declared.edit.Edit.{Edit}
use Rattle.book_undo.specs.declared.thing.Thing.TheVariants as thing
use Rattle.book_undo.specs.declared.thing.ThingKind.TheVariants as kind
use Rattle.book_undo.proofs.BookLaws.{rising-with, rising-without}
use Rattle.book_undo.proofs.EditLaws.{after_leaves, edited-leaves, rising_after, untouched}
use Rattle.book_undo.proofs.ExactLaws.{allowed_order}
use Rattle.book_undo.proofs.InverseLaws.{above_untouched, rises_first}
use Rattle.book_step.specs.AnswerBalances.{balances_at}
use Rattle.book_balances.specs.Balances.{put_at}

-- ---- the transaction that leaves put

put-here :
    (n : ℕ) (xs ys : List Leaf) (t : Txn) → put_at xs n ≡ Some t → put_at (xs ++ ys) n ≡ Some t
put-here n [] ys t e = absurd cc
put-here n (OfCurrency c ∷ xs) ys t e = put-here n xs ys t e
put-here n (OfGone k m ∷ xs) ys t e = put-here n xs ys t e
put-here n (OfPut m (thing.Txn x) ∷ xs) ys t e =
    elim (n == m) as
    (λ (b : Bool). (if b then Some x else put_at xs n) ≡ Some t → (if b then Some x else put_at (xs ++ ys) n) ≡ Some t)
    [ true ↦ λ here. here | false ↦ λ more. put-here n xs ys t more ] e
put-here n (OfPut m (thing.Commodity x) ∷ xs) ys t e = put-here n xs ys t e
put-here n (OfPut m (thing.Account x) ∷ xs) ys t e = put-here n xs ys t e
put-here n (OfPut m (thing.Price x) ∷ xs) ys t e = put-here n xs ys t e
put-here n (OfPut m (thing.Schedule x) ∷ xs) ys t e = put-here n xs ys t e
put-here n (OfPut m (thing.Held x) ∷ xs) ys t e = put-here n xs ys t e
put-here n (OfPut m (thing.Line x) ∷ xs) ys t e = put-here n xs ys t e
put-here n (OfPut m (thing.Binding x) ∷ xs) ys t e = put-here n xs ys t e
put-here n (OfPut m (thing.Recon x) ∷ xs) ys t e = put-here n xs ys t e

put-later :
    (n : ℕ) (xs ys : List Leaf) → put_at xs n ≡ None → put_at (xs ++ ys) n ≡ put_at ys n
put-later n [] ys e = refl
put-later n (OfCurrency c ∷ xs) ys e = put-later n xs ys e
put-later n (OfGone k m ∷ xs) ys e = put-later n xs ys e
put-later n (OfPut m (thing.Txn x) ∷ xs) ys e =
    elim (n == m) as
    (λ (b : Bool). (if b then Some x else put_at xs n) ≡ None
    → (if b then Some x else put_at (xs ++ ys) n) ≡ put_at ys n)
    [ true ↦ λ here. absurd cc | false ↦ λ more. put-later n xs ys more ] e
put-later n (OfPut m (thing.Commodity x) ∷ xs) ys e = put-later n xs ys e
put-later n (OfPut m (thing.Account x) ∷ xs) ys e = put-later n xs ys e
put-later n (OfPut m (thing.Price x) ∷ xs) ys e = put-later n xs ys e
put-later n (OfPut m (thing.Schedule x) ∷ xs) ys e = put-later n xs ys e
put-later n (OfPut m (thing.Held x) ∷ xs) ys e = put-later n xs ys e
put-later n (OfPut m (thing.Line x) ∷ xs) ys e = put-later n xs ys e
put-later n (OfPut m (thing.Binding x) ∷ xs) ys e = put-later n xs ys e
put-later n (OfPut m (thing.Recon x) ∷ xs) ys e = put-later n xs ys e

-- where the first part puts it, that is the one
pub put-part :
    (n : ℕ) (part : Edit) (more : List Edit) (found : Option (Bor Txn)) → option_copied found ≡ put_at (leaves part) n
    → is_some found ≡ true → put_at (flat_map leaves (part ∷ more)) n ≡ option_copied found
put-part n part more None e some = absurd cc
put-part n part more (Some x) e some =
    put-here n (leaves part) (flat_map leaves more) x.now (sym e)

-- and else it is the one that those behind it put
pub put-parts :
    (n : ℕ) (part : Edit) (more : List Edit) (found : Option (Bor Txn)) → option_copied found ≡ put_at (leaves part) n
    → is_some found ≡ false → put_at (flat_map leaves (part ∷ more)) n ≡ put_at (flat_map leaves more) n
put-parts n part more None e none = put-later n (leaves part) (flat_map leaves more) (sym e)
put-parts n part more (Some x) e none = absurd cc

-- ---- what stands there after the leaves

one_of : (t x : Txn) → Some (thing.Txn t) ≡ Some (thing.Txn x) → x ≡ t
one_of t x same = cc

-- a leaf that puts a transaction is the only one for its number
put_alone :
    (n : ℕ) (x t : Txn) (ls : List Leaf) (now : Book) → IsRising now
    → first_unordered (key_at 4 n) ls ≡ None
    → value_of n (after_leaves ls (with_thing n (thing.Txn x) now)).transactions ≡ Some t → x ≡ t
put_alone n x t ls now r up e =
    let next = with_thing n (thing.Txn x) now in
    let rises = rising-with n (thing.Txn x) now r in
    let past = above_untouched kind.Txn n (key_at 4 n) ls (inr (refl, omega arith)) up in
    let still = untouched kind.Txn n ls next rises past in
    let here = value_here n n x now.transactions refl in
    one_of t x
    (sym (ap (option_map (λ (y : Txn). thing.Txn y)) e) ∙ still ∙ ap (option_map (λ (y : Txn). thing.Txn y)) here)

or_none : (found old : Option Txn) (t : Txn) → option_or found None ≡ Some t → option_or found old ≡ Some t
or_none None old t e = absurd cc
or_none (Some x) old t e = e

stands :
    (n : ℕ) (t : Txn) (before : Key) (ls : List Leaf) (now : Book) → IsRising now → first_unordered before ls ≡ None
    → value_of n (after_leaves ls now).transactions ≡ Some t
    → option_or (put_at ls n) (value_of n now.transactions) ≡ Some t
stands n t before [] now r up e = e
stands n t before (OfCurrency c ∷ ls) now r up e =
    stands n t (key_at 1 0) ls (with_currency c now) (rising_after (OfCurrency c) now r)
    (rises_first before (OfCurrency c) ls up).1 e
stands n t before (OfPut m (thing.Txn x) ∷ ls) now r up e =
    let next = with_thing m (thing.Txn x) now in
    let rises = rising-with m (thing.Txn x) now r in
    let more = (rises_first before (OfPut m (thing.Txn x)) ls up).1 in
    let rest = stands n t (key_at 4 m) ls next rises more e in
    let Here : Bool → Type 0 = λ b. (n == m) ≡ b
    → option_or (if b then Some x else put_at ls n) (value_of n now.transactions) ≡ Some t in
    elim (n == m) as Here [
      | true ↦ λ same.
          let one = eqb-true n m same in
          let Up : ℕ → Type 0 = λ k. first_unordered (key_at 4 k) ls ≡ None in
          let After : ℕ → Type 0 = λ k.
          value_of n (after_leaves ls (with_thing k (thing.Txn x) now)).transactions ≡ Some t in
          ap (λ (y : Txn). Some y) (put_alone n x t ls now r (subst Up (sym one) more) (subst After (sym one) e))
      | false ↦ λ apart.
          let still = value_of_with n m x now.transactions
          ∙ ap (λ (b : Bool). if b then Some x else value_of n now.transactions) apart in
          ap (option_or (put_at ls n)) (sym still) ∙ rest
    ] refl
stands n t before (OfPut m (thing.Commodity x) ∷ ls) now r up e =
    stands n t (key_of (OfPut m (thing.Commodity x))) ls (with_thing m (thing.Commodity x) now)
    (rising-with m (thing.Commodity x) now r) (rises_first before (OfPut m (thing.Commodity x)) ls up).1 e
stands n t before (OfPut m (thing.Account x) ∷ ls) now r up e =
    stands n t (key_of (OfPut m (thing.Account x))) ls (with_thing m (thing.Account x) now)
    (rising-with m (thing.Account x) now r) (rises_first before (OfPut m (thing.Account x)) ls up).1 e
stands n t before (OfPut m (thing.Price x) ∷ ls) now r up e =
    stands n t (key_of (OfPut m (thing.Price x))) ls (with_thing m (thing.Price x) now)
    (rising-with m (thing.Price x) now r) (rises_first before (OfPut m (thing.Price x)) ls up).1 e
stands n t before (OfPut m (thing.Schedule x) ∷ ls) now r up e =
    stands n t (key_of (OfPut m (thing.Schedule x))) ls (with_thing m (thing.Schedule x) now)
    (rising-with m (thing.Schedule x) now r) (rises_first before (OfPut m (thing.Schedule x)) ls up).1 e
stands n t before (OfPut m (thing.Held x) ∷ ls) now r up e =
    stands n t (key_of (OfPut m (thing.Held x))) ls (with_thing m (thing.Held x) now)
    (rising-with m (thing.Held x) now r) (rises_first before (OfPut m (thing.Held x)) ls up).1 e
stands n t before (OfPut m (thing.Line x) ∷ ls) now r up e =
    stands n t (key_of (OfPut m (thing.Line x))) ls (with_thing m (thing.Line x) now)
    (rising-with m (thing.Line x) now r) (rises_first before (OfPut m (thing.Line x)) ls up).1 e
stands n t before (OfPut m (thing.Binding x) ∷ ls) now r up e =
    stands n t (key_of (OfPut m (thing.Binding x))) ls (with_thing m (thing.Binding x) now)
    (rising-with m (thing.Binding x) now r) (rises_first before (OfPut m (thing.Binding x)) ls up).1 e
stands n t before (OfPut m (thing.Recon x) ∷ ls) now r up e =
    stands n t (key_of (OfPut m (thing.Recon x))) ls (with_thing m (thing.Recon x) now)
    (rising-with m (thing.Recon x) now r) (rises_first before (OfPut m (thing.Recon x)) ls up).1 e
stands n t before (OfGone kind.Txn m ∷ ls) now r up e =
    let rest = stands n t (key_at 4 m) ls (without_thing kind.Txn m now) (rising-without kind.Txn m now r)
    (rises_first before (OfGone kind.Txn m) ls up).1 e in
    let left = value_of_without n m now.transactions r.transactions in
    let Here : Bool → Type 0 = λ b. (n == m) ≡ b
    → option_or (put_at ls n) (value_of n now.transactions) ≡ Some t in
    elim (n == m) as Here [
      | true ↦ λ same.
          let none = left ∙ ap (λ (b : Bool). if b then None else value_of n now.transactions) same in
          or_none (put_at ls n) (value_of n now.transactions) t (ap (option_or (put_at ls n)) (sym none) ∙ rest)
      | false ↦ λ apart.
          let still = left ∙ ap (λ (b : Bool). if b then None else value_of n now.transactions) apart in
          ap (option_or (put_at ls n)) (sym still) ∙ rest
    ] refl
stands n t before (OfGone kind.Commodity m ∷ ls) now r up e =
    stands n t (key_of (OfGone kind.Commodity m)) ls (without_thing kind.Commodity m now)
    (rising-without kind.Commodity m now r) (rises_first before (OfGone kind.Commodity m) ls up).1 e
stands n t before (OfGone kind.Account m ∷ ls) now r up e =
    stands n t (key_of (OfGone kind.Account m)) ls (without_thing kind.Account m now)
    (rising-without kind.Account m now r) (rises_first before (OfGone kind.Account m) ls up).1 e
stands n t before (OfGone kind.Price m ∷ ls) now r up e =
    stands n t (key_of (OfGone kind.Price m)) ls (without_thing kind.Price m now)
    (rising-without kind.Price m now r) (rises_first before (OfGone kind.Price m) ls up).1 e
stands n t before (OfGone kind.Schedule m ∷ ls) now r up e =
    stands n t (key_of (OfGone kind.Schedule m)) ls (without_thing kind.Schedule m now)
    (rising-without kind.Schedule m now r) (rises_first before (OfGone kind.Schedule m) ls up).1 e
stands n t before (OfGone kind.Held m ∷ ls) now r up e =
    stands n t (key_of (OfGone kind.Held m)) ls (without_thing kind.Held m now)
    (rising-without kind.Held m now r) (rises_first before (OfGone kind.Held m) ls up).1 e
stands n t before (OfGone kind.Line m ∷ ls) now r up e =
    stands n t (key_of (OfGone kind.Line m)) ls (without_thing kind.Line m now)
    (rising-without kind.Line m now r) (rises_first before (OfGone kind.Line m) ls up).1 e
stands n t before (OfGone kind.Binding m ∷ ls) now r up e =
    stands n t (key_of (OfGone kind.Binding m)) ls (without_thing kind.Binding m now)
    (rising-without kind.Binding m now r) (rises_first before (OfGone kind.Binding m) ls up).1 e
stands n t before (OfGone kind.Recon m ∷ ls) now r up e =
    stands n t (key_of (OfGone kind.Recon m)) ls (without_thing kind.Recon m now)
    (rising-without kind.Recon m now r) (rises_first before (OfGone kind.Recon m) ls up).1 e

-- It is the one that the edit puts, or else the one that stood there.
pub stands_after :
    (book : Book) (change : Edit) (n : ℕ) (t : Txn) → IsRising book → IsAllowed book change
    → (edited change book).transactions ≡ with_entry n t book.transactions
    → option_or (put_at (leaves change) n) (value_of n book.transactions) ≡ Some t
stands_after book change n t r allowed e =
    let up = allowed_order book change allowed in
    stands n t (key_at 0 0) (leaves change) book r up
    (ap (λ (b : Book). value_of n b.transactions) (sym (edited-leaves change book)) ∙ ap (value_of n) e
    ∙ value_here n n t book.transactions refl)

-- The balances of its splits, once they are summed, are those of the book after the edit.
pub summed_after :
    (transactions later : List (ℕ × Txn)) (n : ℕ) (x t : Txn) (balances : List ℤ) → x ≡ t
    → later ≡ with_entry n t transactions
    → balances ≡ balances_in (splits_of (with_entry n x transactions)) x.splits
    → balances ≡ balances_at later (value_of n later)
summed_after transactions later n x t balances same e summed =
    let entries = with_entry n t transactions in
    summed ∙ ap (λ (y : Txn). balances_at (with_entry n y transactions) (Some y)) same
    ∙ ap (balances_at entries) (sym (value_here n n t transactions refl))
    ∙ ap (λ (ts : List (ℕ × Txn)). balances_at ts (value_of n ts)) (sym e)

-- What is borrowed of two options, of which the first counts.
pub copied_or : (a b : Option (Bor Txn)) → option_copied (option_or a b) ≡ option_or (option_copied a) (option_copied b)
copied_or None b = refl
copied_or (Some x) b = refl

-- Registers that follow the leaves of an edit: those of a book become those of the book after the edit.
use Rattle.std.proofs.Common.{◌≡◌, ℕ, zero, suc, get_or, ◌+◌, ◌<◌, ◌≤◌, ◌==◌, Bool, true, false, if◌then◌else◌, List}
use Rattle.std.proofs.Common.{[], ◌∷◌, ◌++◌}
use Rattle.std.proofs.Common.{Some, None, is_some, length, find, refl, sym, ap, ◌∙◌, subst, arith, inl, inr}
use Rattle.std.proofs.lemmas.Bool.{eqb-true}
use Rattle.std.proofs.lemmas.Bool.Decides.{nat_tests}
use Rattle.book_commodity.specs.Table.{Rises, value_of}
use Rattle.book_commodity.proofs.DrawnLemmas.{value_here}
use Rattle.book_commodity.proofs.TableLemmas.{value_of_with, value_of_without, rises_with, rises_without}
use Rattle.book_register.specs.Register.{has_key}
use Rattle.book_ledger.specs.Page.{Page}
use Rattle.book_splits.specs.declared.transaction.Txn.{Txn}
use Rattle.book_undo.specs.Book.{Book}
use Rattle.book_undo.specs.Edit.{Key, Leaf, OfCurrency, OfPut, OfGone, deepest, depth, edited, key_at, key_of, leaves}
use Rattle.book_undo.specs.EditRules.{IsAllowed, first_unordered}
use Rattle.book_undo.specs.Thing.{kind_of, row_kind}
use Rattle.book_undo.specs.declared.edit.Edit.{Edit}
use Rattle.book_undo.specs.declared.thing.Thing.{Thing}
use Rattle.book_undo.specs.declared.thing.Thing.TheVariants as thing
use Rattle.book_undo.specs.declared.thing.ThingKind.{ThingKind}
use Rattle.book_undo.specs.declared.thing.ThingKind.TheVariants as kind
use Rattle.book_undo.proofs.EditLaws.{after-append, after_leaf, after_leaves, edited-leaves}
use Rattle.book_undo.proofs.ExactLaws.{allowed_order}
use Rattle.book_undo.proofs.InverseLaws.{NotBelow, Past, past_above, past_not_below, rises_first}
use Rattle.book_ledger.specs.Change.{Holds, is_there}
use Rattle.book_ledger.specs.Ledger.{HasPlaces, Keeps, register_of, rows_at}
use Rattle.book_ledger.specs.Room.{AreSorted, ChangeOnce, HasPut, IsOnWay, LeavesHavePlaces, ThingHasPlaces}
use Rattle.book_ledger.specs.Room.{is_account, is_txn, is_txn_kind, puts_on}
use Rattle.book_ledger.proofs.OrderLemmas.{same_rows}
use Rattle.book_ledger.proofs.RegisterLemmas.{found_in_register, register_sorted}
use Rattle.book_ledger.proofs.SortedLemmas.{sorted_at}

-- ---- the transactions after a leaf
pub rises_after : (l : Leaf) (b : Book) → Rises b.transactions → Rises (after_leaf l b).transactions
rises_after (OfCurrency c) b r = r
rises_after (OfPut n (thing.Txn t)) b r = rises_with n t b.transactions r
rises_after (OfPut n (thing.Commodity x)) b r = r
rises_after (OfPut n (thing.Account x)) b r = r
rises_after (OfPut n (thing.Price x)) b r = r
rises_after (OfPut n (thing.Schedule x)) b r = r
rises_after (OfPut n (thing.Held x)) b r = r
rises_after (OfPut n (thing.Line x)) b r = r
rises_after (OfPut n (thing.Binding x)) b r = r
rises_after (OfPut n (thing.Recon x)) b r = r
rises_after (OfGone kind.Txn n) b r = rises_without n b.transactions r
rises_after (OfGone kind.Commodity n) b r = r
rises_after (OfGone kind.Account n) b r = r
rises_after (OfGone kind.Price n) b r = r
rises_after (OfGone kind.Schedule n) b r = r
rises_after (OfGone kind.Held n) b r = r
rises_after (OfGone kind.Line n) b r = r
rises_after (OfGone kind.Binding n) b r = r
rises_after (OfGone kind.Recon n) b r = r

pub rises_after_all : (ls : List Leaf) (b : Book) → Rises b.transactions → Rises (after_leaves ls b).transactions
rises_after_all [] b r = r
rises_after_all (l ∷ ls) b r = rises_after_all ls (after_leaf l b) (rises_after l b r)

-- a leaf whose key isn't that of a transaction leaves what stands under its number
above_four : (k : ℕ) (n m : ℕ) → Past 4 n (key_at 4 m) → n < m
above_four k n m (inl less) = absurd (omega (arith, less))
above_four k n m (inr (same, less)) = less

beside :
    (m : ℕ) (l : Leaf) (b : Book) → Rises b.transactions → Past (key_of l).kind (key_of l).number (key_at 4 m)
    → value_of m (after_leaf l b).transactions ≡ value_of m b.transactions
beside m (OfCurrency c) b r past = refl
beside m (OfPut n (thing.Txn t)) b r past =
    let less = above_four 4 n m past in
    let other : (m == n) ≡ false = grind (arith, nat_tests, less) in
    value_of_with m n t b.transactions
    ∙ ap (λ (s : Bool). if s then Some t else value_of m b.transactions) other
beside m (OfPut n (thing.Commodity x)) b r past = refl
beside m (OfPut n (thing.Account x)) b r past = refl
beside m (OfPut n (thing.Price x)) b r past = refl
beside m (OfPut n (thing.Schedule x)) b r past = refl
beside m (OfPut n (thing.Held x)) b r past = refl
beside m (OfPut n (thing.Line x)) b r past = refl
beside m (OfPut n (thing.Binding x)) b r past = refl
beside m (OfPut n (thing.Recon x)) b r past = refl
beside m (OfGone kind.Txn n) b r past =
    let less = above_four 4 n m past in
    let other : (m == n) ≡ false = grind (arith, nat_tests, less) in
    value_of_without m n b.transactions r
    ∙ ap (λ (s : Bool). if s then None else value_of m b.transactions) other
beside m (OfGone kind.Commodity n) b r past = refl
beside m (OfGone kind.Account n) b r past = refl
beside m (OfGone kind.Price n) b r past = refl
beside m (OfGone kind.Schedule n) b r past = refl
beside m (OfGone kind.Held n) b r past = refl
beside m (OfGone kind.Line n) b r past = refl
beside m (OfGone kind.Binding n) b r past = refl
beside m (OfGone kind.Recon n) b r past = refl

-- so does one whose key is above
below_four : (n m : ℕ) → Past 4 m (key_at 4 n) → m < n
below_four n m (inl less) = absurd (omega (arith, less))
below_four n m (inr (same, less)) = less

before :
    (m : ℕ) (l : Leaf) (b : Book) → Rises b.transactions → Past 4 m (key_of l)
    → value_of m (after_leaf l b).transactions ≡ value_of m b.transactions
before m (OfCurrency c) b r past = refl
before m (OfPut n (thing.Txn t)) b r past =
    let less = below_four n m past in
    let other : (m == n) ≡ false = grind (arith, nat_tests, less) in
    value_of_with m n t b.transactions
    ∙ ap (λ (s : Bool). if s then Some t else value_of m b.transactions) other
before m (OfPut n (thing.Commodity x)) b r past = refl
before m (OfPut n (thing.Account x)) b r past = refl
before m (OfPut n (thing.Price x)) b r past = refl
before m (OfPut n (thing.Schedule x)) b r past = refl
before m (OfPut n (thing.Held x)) b r past = refl
before m (OfPut n (thing.Line x)) b r past = refl
before m (OfPut n (thing.Binding x)) b r past = refl
before m (OfPut n (thing.Recon x)) b r past = refl
before m (OfGone kind.Txn n) b r past =
    let less = below_four n m past in
    let other : (m == n) ≡ false = grind (arith, nat_tests, less) in
    value_of_without m n b.transactions r
    ∙ ap (λ (s : Bool). if s then None else value_of m b.transactions) other
before m (OfGone kind.Commodity n) b r past = refl
before m (OfGone kind.Account n) b r past = refl
before m (OfGone kind.Price n) b r past = refl
before m (OfGone kind.Schedule n) b r past = refl
before m (OfGone kind.Held n) b r past = refl
before m (OfGone kind.Line n) b r past = refl
before m (OfGone kind.Binding n) b r past = refl
before m (OfGone kind.Recon n) b r past = refl

-- ---- leaves whose keys rise change each transaction once
past_by : (a b c : Key) → Past a.kind a.number b → Past b.kind b.number c → Past a.kind a.number c
past_by a b c (inl one) (inl two) = inl (omega (arith, one, two))
past_by a b c (inl one) (inr (same, two)) = inl (omega (arith, one, same))
past_by a b c (inr (same, one)) (inl two) = inl (omega (arith, same, two))
past_by a b c (inr (same, one)) (inr (kinds, two)) = inr (same ∙ kinds, omega (arith, one, two))

-- What stands above a key among the transactions stands there as before.
abbrev AboveAsBefore : List (ℕ × Txn) → Key → Book → Type 0
AboveAsBefore before key now =
    (m : ℕ) → Past key.kind key.number (key_at 4 m) → value_of m now.transactions ≡ value_of m before

put_kind : (thing : Thing) → is_txn thing ≡ true → row_kind (kind_of thing) ≡ 4
put_kind (thing.Txn x) is = refl
put_kind (thing.Commodity x) is = absurd cc
put_kind (thing.Account x) is = absurd cc
put_kind (thing.Price x) is = absurd cc
put_kind (thing.Schedule x) is = absurd cc
put_kind (thing.Held x) is = absurd cc
put_kind (thing.Line x) is = absurd cc
put_kind (thing.Binding x) is = absurd cc
put_kind (thing.Recon x) is = absurd cc

gone_kind : (k : ThingKind) → is_txn_kind k ≡ true → row_kind k ≡ 4
gone_kind kind.Txn is = refl
gone_kind kind.Commodity is = absurd cc
gone_kind kind.Account is = absurd cc
gone_kind kind.Price is = absurd cc
gone_kind kind.Schedule is = absurd cc
gone_kind kind.Held is = absurd cc
gone_kind kind.Line is = absurd cc
gone_kind kind.Binding is = absurd cc
gone_kind kind.Recon is = absurd cc

pub change_once :
    (before : List (ℕ × Txn)) (key : Key) (ls : List Leaf) (now : Book) → Rises now.transactions
    → first_unordered key ls ≡ None → AboveAsBefore before key now → ChangeOnce before ls now
change_once before key [] now r up same = tt
change_once before key (l ∷ ls) now r up same =
    let both = rises_first key l ls up in
    let past = past_above key.kind key.number (key_of l) key (inr (refl, omega arith)) both.0 in
    here l past (change_once before (key_of l) ls (after_leaf l now) (rises_after l now r) both.1
    (λ m later. beside m l now r later ∙ same m (past_by key (key_of l) (key_at 4 m) past later)))
  where
    here :
        (leaf : Leaf) → Past key.kind key.number (key_of leaf) → ChangeOnce before ls (after_leaf leaf now)
        → ChangeOnce before (leaf ∷ ls) now
    here (OfCurrency c) past rest = rest
    here (OfPut n t) past rest = (
      λ is. same n (subst (λ (k : ℕ). Past key.kind key.number (key_at k n)) (put_kind t is) past),
      rest,
    )
    here (OfGone k n) past rest = (
      λ is. same n (subst (λ (j : ℕ). Past key.kind key.number (key_at j n)) (gone_kind k is) past),
      rest,
    )

-- ---- the accounts after the leaves
accounts_rise : (l : Leaf) (b : Book) → Rises b.accounts → Rises (after_leaf l b).accounts
accounts_rise (OfCurrency c) b r = r
accounts_rise (OfPut n (thing.Account x)) b r = rises_with n x b.accounts r
accounts_rise (OfPut n (thing.Commodity x)) b r = r
accounts_rise (OfPut n (thing.Txn x)) b r = r
accounts_rise (OfPut n (thing.Price x)) b r = r
accounts_rise (OfPut n (thing.Schedule x)) b r = r
accounts_rise (OfPut n (thing.Held x)) b r = r
accounts_rise (OfPut n (thing.Line x)) b r = r
accounts_rise (OfPut n (thing.Binding x)) b r = r
accounts_rise (OfPut n (thing.Recon x)) b r = r
accounts_rise (OfGone kind.Account n) b r = rises_without n b.accounts r
accounts_rise (OfGone kind.Commodity n) b r = r
accounts_rise (OfGone kind.Txn n) b r = r
accounts_rise (OfGone kind.Price n) b r = r
accounts_rise (OfGone kind.Schedule n) b r = r
accounts_rise (OfGone kind.Held n) b r = r
accounts_rise (OfGone kind.Line n) b r = r
accounts_rise (OfGone kind.Binding n) b r = r
accounts_rise (OfGone kind.Recon n) b r = r

-- Each account has a register.
abbrev pub AllThere : List (ℕ × Page) → Book → Type 0
AllThere registers b = (a : ℕ) → is_some (value_of a b.accounts) ≡ true → is_there a registers ≡ true

live_all :
    (registers : List (ℕ × Page)) (ls : List Leaf) (b : Book) → Rises b.accounts → AllThere registers b
    → HasPut registers ls → AllThere registers (after_leaves ls b)
live_all registers [] b r all has = all
live_all registers (OfCurrency c ∷ ls) b r all has = live_all registers ls (after_leaf (OfCurrency c) b) r all has
live_all registers (OfPut n t ∷ ls) b r all has =
    live_all registers ls (after_leaf (OfPut n t) b) (accounts_rise (OfPut n t) b r) (put t has.0) has.1
  where
    put :
        (t : Thing) → (is_account t ≡ true → is_there n registers ≡ true)
        → AllThere registers (after_leaf (OfPut n t) b)
    put (thing.Account x) here = λ a live.
        with_one a (a == n) refl (sym (ap is_some (value_of_with a n x b.accounts)) ∙ live)
      where
        with_one :
            (a : ℕ) (s : Bool) → (a == n) ≡ s → is_some (if s then Some x else value_of a b.accounts) ≡ true
            → is_there a registers ≡ true
        with_one a true is some = ap (λ (m : ℕ). is_there m registers) (eqb-true a n is) ∙ here refl
        with_one a false is some = all a some
    put (thing.Commodity x) here = all
    put (thing.Txn x) here = all
    put (thing.Price x) here = all
    put (thing.Schedule x) here = all
    put (thing.Held x) here = all
    put (thing.Line x) here = all
    put (thing.Binding x) here = all
    put (thing.Recon x) here = all
live_all registers (OfGone k n ∷ ls) b r all has =
    live_all registers ls (after_leaf (OfGone k n) b) (accounts_rise (OfGone k n) b r) (gone k) has
  where
    gone : (k : ThingKind) → AllThere registers (after_leaf (OfGone k n) b)
    gone kind.Account = λ a live. without_one a (a == n) (sym (ap is_some (value_of_without a n b.accounts r)) ∙ live)
      where
        without_one :
            (a : ℕ) (s : Bool) → is_some (if s then None else value_of a b.accounts) ≡ true
            → is_there a registers ≡ true
        without_one a true some = absurd cc
        without_one a false some = all a some
    gone kind.Commodity = all
    gone kind.Txn = all
    gone kind.Price = all
    gone kind.Schedule = all
    gone kind.Held = all
    gone kind.Line = all
    gone kind.Binding = all
    gone kind.Recon = all

-- ---- from registers that are kept to their rows, and back
pub held_of_kept :
    (registers : List (ℕ × Page)) (b : Book) → Rises b.transactions → Keeps registers b
    → Holds registers b.transactions
held_of_kept registers b r kept = record {
  rows = λ account key.
      ap (find (has_key key)) (kept.rows account) ∙ found_in_register account key b.transactions r;
}

pub kept_of_held :
    (registers : List (ℕ × Page)) (b : Book) → Rises b.transactions → AreSorted registers
    → Holds registers b.transactions → AllThere registers b → Keeps registers b
kept_of_held registers b r in_order holds all = record {
  rows = λ account.
      same_rows (rows_at account registers) (register_of account b.transactions)
      (sorted_at account registers in_order) (register_sorted account b.transactions r)
      (λ key. holds.rows account key ∙ sym (found_in_register account key b.transactions r));
  live = all;
}

-- the leaves of an allowed edit change each transaction once
pub edited_once :
    (b : Book) (e : Edit) → Rises b.transactions → IsAllowed b e → ChangeOnce b.transactions (leaves e) b
edited_once b e r allowed =
    change_once b.transactions (key_at 0 0) (leaves e) b r (allowed_order b e allowed) (λ m past. refl)

-- what was kept for a book is, once it followed the leaves of an allowed edit, kept for the edited book
pub kept_edited :
    (old new : List (ℕ × Page)) (b : Book) (e : Edit) → Rises b.transactions → Rises b.accounts → IsAllowed b e
    → Keeps old b → HasPut old (leaves e) → AreSorted new
    → ((a : ℕ) → is_there a new ≡ is_there a old)
    → ((now : Book) → Rises now.transactions → ChangeOnce b.transactions (leaves e) now → Holds old now.transactions
    → Holds new (after_leaves (leaves e) now).transactions)
    → Keeps new (edited e b)
kept_edited old new b e r accounts allowed kept has in_order there follows =
    subst (Keeps new) (sym (edited-leaves e b)) (kept_of_held new after (rises_after_all (leaves e) b r) in_order
    (follows b r once (held_of_kept old b r kept)) (λ a live. there a ∙ all a live))
  where
    after : Book
    after = after_leaves (leaves e) b

    once : ChangeOnce b.transactions (leaves e) b
    once = edited_once b e r allowed

    all : AllThere old (after_leaves (leaves e) b)
    all = live_all old (leaves e) b accounts kept.live has

-- ---- leaves one after another
pub puts-append :
    (account : ℕ) (xs ys : List Leaf) → puts_on account (xs ++ ys) ≡ puts_on account xs + puts_on account ys
puts-append account [] ys = omega arith
puts-append account (OfCurrency c ∷ xs) ys = puts-append account xs ys
puts-append account (OfPut n t ∷ xs) ys = omega (arith, puts-append account xs ys)
puts-append account (OfGone k n ∷ xs) ys = puts-append account xs ys

pub places_parts :
    (xs ys : List Leaf) → LeavesHavePlaces (xs ++ ys) → LeavesHavePlaces xs × LeavesHavePlaces ys
places_parts [] ys places = (tt, places)
places_parts (OfCurrency c ∷ xs) ys places = places_parts xs ys places
places_parts (OfPut n t ∷ xs) ys places =
    let rest = places_parts xs ys places.1 in ((places.0, rest.0), rest.1)
places_parts (OfGone k n ∷ xs) ys places = places_parts xs ys places

pub once_parts :
    (before : List (ℕ × Txn)) (xs ys : List Leaf) (now : Book) → ChangeOnce before (xs ++ ys) now
    → ChangeOnce before xs now × ChangeOnce before ys (after_leaves xs now)
once_parts before [] ys now once = (tt, once)
once_parts before (OfCurrency c ∷ xs) ys now once = once_parts before xs ys (after_leaf (OfCurrency c) now) once
once_parts before (OfPut n t ∷ xs) ys now once =
    let rest = once_parts before xs ys (after_leaf (OfPut n t) now) once.1 in ((once.0, rest.0), rest.1)
once_parts before (OfGone k n ∷ xs) ys now once =
    let rest = once_parts before xs ys (after_leaf (OfGone k n) now) once.1 in ((once.0, rest.0), rest.1)

-- registers on the way follow the leaves of one part more
pub on_way_more :
    (before : List (ℕ × Txn)) (old new : List (ℕ × Page)) (part others all : List Leaf) (last : Book)
    → all ≡ part ++ others → IsOnWay before old all last
    → ((now : Book) → Rises now.transactions → ChangeOnce before part now → Holds old now.transactions
    → Holds new (after_leaves part now).transactions)
    → IsOnWay before new others last
on_way_more before old new part others all last is way follows =
    let once = once_parts before part others way.mid (subst (λ (l : List Leaf). ChangeOnce before l way.mid) is
    way.once) in
    record {
      mid = after_leaves part way.mid;
      rises = rises_after_all part way.mid way.rises;
      once = once.1;
      holds = follows way.mid way.rises once.0 way.holds;
      leads =
          sym (after-append part others way.mid) ∙ ap (λ (l : List Leaf). after_leaves l way.mid) (sym is)
          ∙ way.leads;
    }

-- and at the end hold the rows of the last book
pub on_way_end :
    (before : List (ℕ × Txn)) (registers : List (ℕ × Page)) (last : Book) → IsOnWay before registers [] last
    → Holds registers last.transactions
on_way_end before registers last way =
    subst (λ (b : Book). Holds registers b.transactions) way.leads way.holds

-- a part is no deeper than the deepest of all
pub depth_at :
    (parts : List Edit) (i : ℕ) (part : Edit) → i < length parts → part ≡ get_or parts i part
    → depth part ≤ deepest parts
depth_at [] i part lt is = absurd (omega (arith, lt))
depth_at (first ∷ more) zero part lt is = let same = ap depth is in omega (arith, same)
depth_at (first ∷ more) (suc i) part lt is =
    omega (arith, depth_at more i part (omega (arith, lt)) is)

-- ---- the transactions that an edit puts stand in the edited book
-- leaves whose keys rise leave the transactions that aren't above the first of them
untouched_by :
    (m : ℕ) (key : Key) (ls : List Leaf) (b : Book) → Rises b.transactions → NotBelow 4 m key
    → first_unordered key ls ≡ None → value_of m (after_leaves ls b).transactions ≡ value_of m b.transactions
untouched_by m key [] b r ge up = refl
untouched_by m key (l ∷ ls) b r ge up =
    let both = rises_first key l ls up in
    let past = past_above 4 m (key_of l) key ge both.0 in
    untouched_by m (key_of l) ls (after_leaf l b) (rises_after l b r) (past_not_below 4 m (key_of l) past) both.1
    ∙ before m l b r past

places_put :
    (key : Key) (ls : List Leaf) (b : Book) → Rises b.transactions → first_unordered key ls ≡ None
    → HasPlaces (after_leaves ls b).transactions → LeavesHavePlaces ls
places_put key [] b r up places = tt
places_put key (OfCurrency c ∷ ls) b r up places =
    places_put (key_at 1 0) ls (after_leaf (OfCurrency c) b) r (rises_first key (OfCurrency c) ls up).1 places
places_put key (OfGone k n ∷ ls) b r up places =
    places_put (key_of (OfGone k n)) ls (after_leaf (OfGone k n) b) (rises_after (OfGone k n) b r)
    (rises_first key (OfGone k n) ls up).1 places
places_put key (OfPut n t ∷ ls) b r up places = (
  here t (rises_first key (OfPut n t) ls up).1 places,
  places_put (key_of (OfPut n t)) ls (after_leaf (OfPut n t) b) (rises_after (OfPut n t) b r)
      (rises_first key (OfPut n t) ls up).1 places,
)
  where
    here :
        (t : Thing) → first_unordered (key_of (OfPut n t)) ls ≡ None
        → HasPlaces (after_leaves ls (after_leaf (OfPut n t) b)).transactions → ThingHasPlaces t
    here (thing.Txn x) more places =
        let next = after_leaf (OfPut n (thing.Txn x)) b in
        let stays = untouched_by n (key_at 4 n) ls next (rises_after (OfPut n (thing.Txn x)) b r)
        (inr (refl, omega arith)) more in
        places.each n x (stays ∙ value_here n n x b.transactions refl)
    here (thing.Commodity x) more places = tt
    here (thing.Account x) more places = tt
    here (thing.Price x) more places = tt
    here (thing.Schedule x) more places = tt
    here (thing.Held x) more places = tt
    here (thing.Line x) more places = tt
    here (thing.Binding x) more places = tt
    here (thing.Recon x) more places = tt

pub places_edited :
    (b : Book) (e : Edit) → Rises b.transactions → IsAllowed b e → HasPlaces (edited e b).transactions
    → LeavesHavePlaces (leaves e)
places_edited b e r allowed places =
    places_put (key_at 0 0) (leaves e) b r (allowed_order b e allowed)
    (subst (λ (x : Book). HasPlaces x.transactions) (edited-leaves e b) places)

-- When an edit may be applied to a book: the things that it deletes are there, the keys of its leaves rise, so that
-- none comes twice, and at most eight of its lists stand in one another.
use Rattle.std.specs.Prelude.{◌≡◌, ℕ, ◌+◌, ◌-◌, ◌^◌, ◌==◌, ◌&&◌, ◌||◌, min, nat_lt, Bool, is_none, if◌then◌else◌, suc}
use Rattle.std.specs.Prelude.{List, [], ◌∷◌, Option, Some, None, option_map, Result, Ok, Err}
use Rattle.book_commodity.specs.Rules.{broken_where, first_broken}
use Rattle.book_undo.specs.Book.{Book, thing_at}
use Rattle.book_undo.specs.Edit.{Leaf, OfCurrency, OfPut, OfGone, leaves, depth, Key, key_at, key_of}
use Rattle.book_undo.specs.declared.edit.Edit.{Edit}
use Rattle.book_undo.specs.declared.order.Walk.{Walk}
use Rattle.book_undo.specs.declared.rule.EditRule.{EditRule}
use Rattle.book_undo.specs.declared.rule.EditRule.TheVariants.{Missing, OutOfOrder, TooDeep}

-- The first thing that is deleted and that the book doesn't have.
abbrev pub first_missing : Book → List Leaf → Option EditRule
first_missing book [] = None
first_missing book (OfCurrency currency ∷ more) = first_missing book more
first_missing book (OfPut number thing ∷ more) = first_missing book more
first_missing book (OfGone kind number ∷ more) =
    if is_none (thing_at kind number book) then Some (Missing kind number) else first_missing book more

-- A key is above another: its kind is, or the kinds are the same and its number is.
abbrev pub is_above : Key → Key → Bool
is_above key before = nat_lt before.kind key.kind || ((before.kind == key.kind) && nat_lt before.number key.number)

-- The place, from 0, of the first leaf whose key is not above the key before it.
abbrev pub first_unordered : Key → List Leaf → Option ℕ
first_unordered before [] = None
first_unordered before (leaf ∷ more) =
    if is_above (key_of leaf) before then option_map (λ place. suc place) (first_unordered (key_of leaf) more)
    else Some 0

-- The first leaf is above the key that is below all. A place of 2^64 or more is named as 2^64 - 1.
abbrev pub out_of_order : List Leaf → Option EditRule
out_of_order changes =
    option_map (λ place. OutOfOrder (min place (2 ^ 64 - 1))) (first_unordered (key_at 0 0) changes)

-- The rules of an edit of a book, in the order in which they are asked.
abbrev pub edit_rules : Book → Edit → List (Option EditRule)
edit_rules book edit =
    first_missing book (leaves edit) ∷ out_of_order (leaves edit) ∷ broken_where (nat_lt 8 (depth edit)) TooDeep ∷ []

-- The edit may be applied to the book: it breaks no rule.
abbrev pub IsAllowed : Book → Edit → Type 0
IsAllowed book edit = first_broken (edit_rules book edit) ≡ None

-- A walk along leaves that is to go over one with a key: it stops at its place where the key is not above the last.
abbrev pub stepped : Walk → Key → Result Walk ℕ
stepped walk key =
    if is_above key (key_at walk.kind walk.number)
    then Ok (record { kind = key.kind; number = key.number; place = min (walk.place + 1) (2 ^ 64 - 1) })
    else Err walk.place

-- A walk along leaves, from the first to the last.
abbrev pub walked : Result Walk ℕ → List Leaf → Result Walk ℕ
walked walk [] = walk
walked (Ok walk) (leaf ∷ more) = walked (stepped walk (key_of leaf)) more
walked (Err place) (leaf ∷ more) = Err place

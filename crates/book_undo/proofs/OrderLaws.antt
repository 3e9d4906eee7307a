-- The walk along leaves stops at the first that is out of order; and which of three rules is the first that is broken.
use Rattle.std.proofs.Common.{◌≡◌, ℕ, suc, ◌+◌, ◌≤◌, ◌-◌, ◌^◌, min, Bool, true, false}
use Rattle.std.proofs.Common.{if◌then◌else◌, List, [], ◌∷◌, Option, Some, None, option_map}
use Rattle.std.proofs.Common.{refl, sym, ap, ◌∙◌, arith, Result, Ok, Err}
use Rattle.book_undo.specs.Edit.{Leaf}
use Rattle.book_undo.specs.Edit.{key_at, key_of}
use Rattle.book_undo.specs.EditRules.{is_above, first_unordered, out_of_order}
use Rattle.book_undo.specs.EditRules.{walked}
use Rattle.book_undo.specs.declared.order.Walk.{Walk}
use Rattle.book_undo.specs.declared.rule.EditRule.TheVariants.{OutOfOrder}

-- The place where a walk stopped, if it did.
abbrev pub stopped_at : Result Walk ℕ → Option ℕ
stopped_at (Ok walk) = None
stopped_at (Err place) = Some place

place_next : (p q most : ℕ) → min (min (p + 1) most + q) most ≡ min (p + suc q) most
place_next p q most = omega arith

next_places :
    (p most : ℕ) (o : Option ℕ)
    → option_map (λ q. min (min (p + 1) most + q) most) o
    ≡ option_map (λ q. min (p + q) most) (option_map (λ q. suc q) o)
next_places p most None = refl
next_places p most (Some q) = ap (λ (n : ℕ). Some n) (place_next p q most)

stopped_still : (p : ℕ) (ls : List Leaf) → stopped_at (walked (Err p) ls) ≡ Some p
stopped_still p [] = refl
stopped_still p (l ∷ ls) = refl

stopped_step :
    (t : Bool) (next : Walk) (p most : ℕ) (ls : List Leaf) (o : Option ℕ) → p ≤ most
    → stopped_at (walked (Ok next) ls) ≡ option_map (λ q. min (min (p + 1) most + q) most) o
    → stopped_at (walked (if t then Ok next else Err p) ls)
    ≡ option_map (λ q. min (p + q) most) (if t then option_map (λ q. suc q) o else Some 0)
stopped_step true next p most ls o below e = e ∙ next_places p most o
stopped_step false next p most ls o below e =
    stopped_still p ls ∙ (let same : p ≡ min (p + 0) most = omega arith in ap (λ (n : ℕ). Some n) same)

-- a walk stops at the first leaf whose key is not above the one before
walk_stopped :
    (walk : Walk) (ls : List Leaf) → walk.place ≤ 2 ^ 64 - 1
    → stopped_at (walked (Ok walk) ls)
    ≡ option_map (λ place. min (walk.place + place) (2 ^ 64 - 1)) (first_unordered (key_at walk.kind walk.number) ls)
walk_stopped walk [] below = refl
walk_stopped walk (l ∷ ls) below =
    let key = key_of l in
    let next : Walk = record { kind = key.kind; number = key.number; place = min (walk.place + 1) (2 ^ 64 - 1) } in
    let fits : next.place ≤ 2 ^ 64 - 1 = omega arith in
    stopped_step (is_above key (key_at walk.kind walk.number)) next walk.place (2 ^ 64 - 1) ls
    (first_unordered key ls) below
    (walk_stopped next ls fits)

abbrev pub start : Walk
start = record { kind = 0; number = 0; place = 0 }

named_places :
    (most : ℕ) (o : Option ℕ)
    → option_map (λ place. OutOfOrder (min place most)) o
    ≡ option_map (λ place. OutOfOrder place) (option_map (λ place. min (0 + place) most) o)
named_places most None = refl
named_places most (Some p) =
    let same : min p most ≡ min (0 + p) most = omega arith in ap (λ (n : ℕ). Some (OutOfOrder n)) same

-- the walk from the beginning stops at the place of the first leaf that is out of order
pub order_stopped :
    (ls : List Leaf) (r : Result Walk ℕ) → r ≡ walked (Ok start) ls
    → out_of_order ls ≡ option_map (λ place. OutOfOrder place) (stopped_at r)
order_stopped ls r e =
    named_places (2 ^ 64 - 1) (first_unordered (key_at 0 0) ls)
    ∙ ap (option_map (λ place. OutOfOrder place)) (sym (ap stopped_at e ∙ walk_stopped start ls (omega arith)))

-- Members put one after another have no number with a fraction.
use Rattle.std.proofs.Common.{◌||◌, ◌≡◌, Bool, List, Ordering, Less, Equal, Greater, false, true, refl, ℕ}
use Rattle.std.specs.Ordering.{nat_cmp, match_ordering}
use Rattle.std.specs.Cmp.Lexicographic.{slice_cmp}
use Rattle.serde_json.specs.Data.{Data, Members, no_members, member, put}
use Rattle.serde_json.specs.Written.{has_float, members_have_float}

first : (x y : Bool) → (x || y) ≡ false → x ≡ false
first true y h = h
first false y h = refl

second : (x y : Bool) → (x || y) ≡ false → y ≡ false
second true y h = absurd cc
second false y h = h

plain_at : (o : Ordering) (k l : List ℕ) (d e : Data) (ms : Members) → has_float d ≡ false
    → members_have_float (member l e ms) ≡ false
    → members_have_float (member l e (put k d ms)) ≡ false
    → members_have_float (match_ordering o (member k d (member l e ms)) (member l d ms) (member l e (put k d ms)))
    ≡ false
plain_at Less k l d e ms new old later = rw new old
plain_at Equal k l d e ms new old later = rw new (second (has_float e) (members_have_float ms) old)
plain_at Greater k l d e ms new old later = later

-- Neither have members with one more of which this holds.
pub put-plain : (k : List ℕ) (d : Data) (ms : Members) → has_float d ≡ false → members_have_float ms ≡ false
    → members_have_float (put k d ms) ≡ false
put-plain k d no_members new old = rw new refl
put-plain k d (member l e ms) new old =
    plain_at (slice_cmp nat_cmp k l) k l d e ms new old
    (rw (first (has_float e) (members_have_float ms) old)
    (put-plain k d ms new (second (has_float e) (members_have_float ms) old)))

-- Lists of which each item is looked at with those before it, and lists whose neighbours belong together.
use Rattle.std.specs.Prelude.{Bool, List, [], ◌∷◌, ◌++◌, if◌then◌else◌}

-- what each item gives with those before it; `before` stands in front of the list
abbrev pub each_after : {X Y : Type 0} → (List X → X → List Y) → List X → List X → List Y
each_after gives before [] = []
each_after gives before (x ∷ xs) = gives before x ++ each_after gives (before ++ x ∷ []) xs

-- an item in front of the first group, or in a group of its own in front of the groups
abbrev pub in_front : {X Y : Type 0} → (X → Y → Y) → (X → Y) → Bool → X → List Y → List Y
in_front onto alone joins x [] = alone x ∷ []
in_front onto alone joins x (y ∷ ys) = if joins then onto x y ∷ ys else alone x ∷ y ∷ ys

-- neighbours that join are one group: `alone` makes the group of one item, `onto` puts an item in front of a group
abbrev pub grouped : {X Y : Type 0} → (X → X → Bool) → (X → Y) → (X → Y → Y) → List X → List Y
grouped joins alone onto [] = []
grouped joins alone onto (x ∷ []) = alone x ∷ []
grouped joins alone onto (x ∷ y ∷ ys) = in_front onto alone (joins x y) x (grouped joins alone onto (y ∷ ys))

-- the list with its last item changed
abbrev pub on_last : {Y : Type 0} → (Y → Y) → List Y → List Y
on_last change [] = []
on_last change (y ∷ []) = change y ∷ []
on_last change (y ∷ z ∷ zs) = y ∷ on_last change (z ∷ zs)

-- the items from the last one on that passes the test; none where none does
abbrev pub since : {X : Type 0} → (X → Bool) → List X → List X
since test [] = []
since test (x ∷ xs) = if_any (since test xs) (if test x then x ∷ xs else [])
  where
    if_any : {X : Type 0} → List X → List X → List X
    if_any [] otherwise = otherwise
    if_any (y ∷ ys) otherwise = y ∷ ys

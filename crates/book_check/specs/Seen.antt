-- Keys that were seen, compared by their order: two are the same where neither is below the other.
use Rattle.std.specs.Prelude.{◌≡◌, ◌||◌, Bool, List}
use Rattle.std.specs.List.{list_any}
use Rattle.std.specs.Ordering.{is_eq}
use Rattle.std.specs.declared.cmp.Ordering.{Ordering}

-- Whether a key is the same as one of the list.
abbrev pub is_seen : {K : Type 0} → (K → K → Ordering) → List K → K → Bool
is_seen cmp keys key = list_any (λ other. is_eq (cmp key other)) keys

-- One key more is seen: afterwards a key is seen where it is the same as this one, or was seen before.
abbrev pub Adds : {K : Type 0} → (K → K → Ordering) → List K → K → List K → Type 0
Adds {K} cmp old key new = (other : K) → is_seen cmp new other ≡ (is_eq (cmp key other) || is_seen cmp old other)

-- The splits that are left: the code's own.
use Rattle.std.specs.Prelude.{ℕ, Bool, not, List, filter}
use Rattle.std.specs.BTreeSet.{BTreeSet, contains}
use Rattle.std.specs.Ordering.{nat_cmp}
use Rattle.book_match.specs.declared.free.Free.{Free}
use Rattle.book_match.specs.declared.views.SplitView.{SplitView}

-- Those whose number isn't in the set of numbers that are taken.
abbrev pub left : BTreeSet ℕ → List SplitView → List SplitView
left taken splits = filter (λ split. not (contains nat_cmp taken split.split)) splits

-- Whether a split of an index is left.
abbrev pub is_left : BTreeSet ℕ → Free → Bool
is_left taken free = not (contains nat_cmp taken free.split)

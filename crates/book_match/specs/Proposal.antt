-- Which split each line of a bank statement takes (GnuCash Manual, import matcher; the rule is this project's own).
use Rattle.std.specs.Prelude.{ℕ, ◌==◌, nat_eq, nat_lt, nat_le, ℤ, ◌-ℤ◌, int_lt, unsigned_abs, Bool, true, false, ◌&&◌}
use Rattle.std.specs.Prelude.{not, if◌then◌else◌, List, [], ◌∷◌, ◌++◌, filter, fold, Option, Some, None}
use Rattle.std.specs.Ordering.{int_eq}
use lib.Pointwise.{pointwise}
use Rattle.book_match.specs.declared.views.LineView.{LineView}
use Rattle.book_match.specs.declared.views.Matched.{Matched}
use Rattle.book_match.specs.declared.views.SplitView.{SplitView}

-- How many days lie between two days.
abbrev pub distance : ℤ → ℤ → ℕ
distance one other = unsigned_abs (one -ℤ other)

-- Whether a line may take a split: it has the line's amount as its quantity, and is at most so many days away.
abbrev pub is_candidate : ℕ → LineView → SplitView → Bool
is_candidate window line split = int_eq split.quantity line.amount && nat_le (distance line.day split.day) window

-- Whether a text is empty.
abbrev pub is_empty : List ℕ → Bool
is_empty [] = true
is_empty (c ∷ more) = false

-- Whether the number of a split's transaction is the line's, and the line has one.
abbrev pub same_number : LineView → SplitView → Bool
same_number line split = not (is_empty line.number) && pointwise nat_eq split.num line.number

-- What stands first in three things that are compared in turn: less, more, or what comes next where neither is.
abbrev pub in_turn : Bool → Bool → Bool → Bool
in_turn less more next = if less then true else (if more then false else next)

-- One split is nearer to a line than another: by days; where these are as many, by having the line's number; where both
-- have it or neither, by the split's number.
abbrev pub is_nearer : LineView → SplitView → SplitView → Bool
is_nearer line one other =
    in_turn (nat_lt (distance line.day one.day) (distance line.day other.day))
    (nat_lt (distance line.day other.day) (distance line.day one.day))
    (in_turn (same_number line one && not (same_number line other))
    (same_number line other && not (same_number line one)) (nat_lt one.split other.split))

-- The nearer to a line of a split and another, if there is another.
abbrev pub nearer : LineView → Option SplitView → SplitView → SplitView
nearer line None split = split
nearer line (Some other) split = if is_nearer line split other then split else other

-- The nearest to a line of some splits.
abbrev pub nearest : LineView → List SplitView → Option SplitView
nearest line splits = fold (λ other split. Some (nearer line other split)) None splits

-- The split that a line takes of some: the nearest of those that it may take.
abbrev pub choice : ℕ → LineView → List SplitView → Option SplitView
choice window line splits = nearest line (filter (is_candidate window line) splits)

-- The splits that are left once one is taken.
abbrev pub left_by : Option SplitView → List SplitView → List SplitView
left_by None splits = splits
left_by (Some taken) splits = filter (λ split. not (taken.split == split.split)) splits

-- A line with the split that it takes, if it takes one.
abbrev pub pair_of : LineView → Option SplitView → List Matched
pair_of line None = []
pair_of line (Some split) = record { line = line.line; split = split.split } ∷ []

-- The pairs of lines that choose one after another, each of what those before it left.
abbrev pub pairs_of : ℕ → List LineView → List SplitView → List Matched
pairs_of window [] splits = []
pairs_of window (line ∷ more) splits =
    pair_of line (choice window line splits) ++ pairs_of window more (left_by (choice window line splits) splits)

-- One line comes before another: by day, and on one day by number.
abbrev pub comes_before : LineView → LineView → Bool
comes_before one other = in_turn (int_lt one.day other.day) (int_lt other.day one.day) (nat_lt one.line other.line)

-- Lines with one more, which stands in front of the first that doesn't come before it.
abbrev pub with_line : LineView → List LineView → List LineView
with_line line [] = line ∷ []
with_line line (first ∷ more) =
    if comes_before first line then first ∷ with_line line more else line ∷ first ∷ more

-- The lines by day, and those of one day by number.
abbrev pub in_order : List LineView → List LineView
in_order [] = []
in_order (line ∷ more) = with_line line (in_order more)

-- The proposal: the pairs of the lines, which choose by day and number.
abbrev pub proposal : ℕ → List LineView → List SplitView → List Matched
proposal window lines splits = pairs_of window (in_order lines) splits

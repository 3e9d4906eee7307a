-- What the splits are compared by that a line may take: the code's own.
use Rattle.std.specs.Prelude.{nat_lt, Bool, not, ◌&&◌, if◌then◌else◌, Option, Some, None}
use Rattle.book_match.specs.Proposal.{distance, in_turn, same_number}
use Rattle.book_match.specs.declared.rank.Rank.{Rank}
use Rattle.book_match.specs.declared.views.LineView.{LineView}
use Rattle.book_match.specs.declared.views.SplitView.{SplitView}

-- How near a split is to a line.
abbrev pub rank_of : LineView → SplitView → Rank
rank_of line split = record {
  days = distance line.day split.day;
  same = same_number line split;
  split = split.split;
}

-- One comes before another: by days, by having the line's number, and by the split's number.
abbrev pub is_first : Rank → Rank → Bool
is_first one other =
    in_turn (nat_lt one.days other.days) (nat_lt other.days one.days)
    (in_turn (one.same && not other.same) (other.same && not one.same) (nat_lt one.split other.split))

-- The first of one and another, if there is another.
abbrev pub first_of : Option Rank → Rank → Rank
first_of None rank = rank
first_of (Some other) rank = if is_first rank other then rank else other

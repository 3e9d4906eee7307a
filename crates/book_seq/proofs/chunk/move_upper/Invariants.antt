use Rattle.std.proofs.Common.{◌≡◌, ◌+◌, ◌-◌, ◌≤◌, ◌++◌, reverse, vec_capacity, vec_len}
use Rattle.book_seq.specs.Sums.{AreWithin, sums_of}
use Rattle.book_seq.proofs.chunk.move_upper.Given as goal

abbrev pub invariant-loop-entries : goal.invariant-loop-entries
invariant-loop-entries g l = record {
  items : l.entries.items ++ reverse l.upper.items ≡ l.fn.entries.items;
  place : l.place ≤ vec_len l.entries;
  sums : l.sums ≡ sums_of g.E.Weigh.weights (reverse l.upper.items);
  within : AreWithin (vec_len l.upper) l.sums;
  count : vec_len l.entries + vec_len l.upper ≡ vec_len l.fn.entries;
  room : vec_capacity l.entries ≡ vec_capacity l.fn.entries;
  upper_room : vec_capacity l.fn.upper ≤ vec_capacity l.upper;
  steps : l.steps ≡ l.fn.steps + vec_len l.upper;
}

abbrev pub decreases-loop-entries : goal.decreases-loop-entries
decreases-loop-entries g l = vec_len l.entries - l.place

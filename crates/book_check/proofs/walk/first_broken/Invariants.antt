-- Those so far keep their rules, and what is to stand once of them is known.
use Rattle.std.proofs.Common.{◌≡◌, drop}
use Rattle.book_check.specs.FirstUnsound.{first_in, first_of_table}
use Rattle.book_check.proofs.walk.first_broken.Given as goal

abbrev pub invariant-loop-place : goal.invariant-loop-place
invariant-loop-place g l = record {
  walk :
      first_of_table (g.C.Checked.rules l.fn.things) l.most (g.C.Checked.entries l.fn.things)
      ≡ first_in (g.C.Checked.rules l.fn.things) l.most (λ _. 0) 0 l.place 0
      (drop l.place (g.C.Checked.entries l.fn.things));
  known : g.C.Checked.knows l.things l.place;
  same_entries : g.C.Checked.entries l.things ≡ g.C.Checked.entries l.fn.things;
  same_rules : g.C.Checked.rules l.things ≡ g.C.Checked.rules l.fn.things;
}

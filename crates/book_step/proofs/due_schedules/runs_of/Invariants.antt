use Rattle.std.proofs.Common.{◌≡◌, ◌++◌, drop}
use Rattle.book_commodity.specs.Rules.{first_broken}
use Rattle.book_step.specs.Schedules.{day_rules, runs_of}
use Rattle.book_step.proofs.due_schedules.runs_of.Given as goal

abbrev pub invariant-loop-number : goal.invariant-loop-number
invariant-loop-number l = record {
  runs : l.runs ++ runs_of l.upto (drop l.number-index l.schedules) ≡ runs_of l.upto l.schedules;
  rules : first_broken (day_rules l.upto (drop l.number-index l.schedules))
      ≡ first_broken (day_rules l.upto l.schedules);
}

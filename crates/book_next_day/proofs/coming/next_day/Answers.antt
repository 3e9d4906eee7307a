-- The one day that is due, or none.
use Rattle.std.proofs.Common.{rules}
use Rattle.book_next_day.proofs.AheadLemmas.{ended_is, first_is, no_two}
use Rattle.book_next_day.proofs.coming.next_day.Goals as goal

pub returns-then-not-has_more : goal.returns-then-not-has_more
returns-then-not-has_more c =
    ended_is c.args.timing.now (λ more. let yes = c.has_more.ensures.1 more in search (rules, yes))

pub returns-in-Ok : goal.returns-in-Ok
returns-in-Ok c =
    first_is c.args.timing.now c.in_ok-one.one c.last_asked.result c.in-Ok.days c.first_of.result (search rules)
    c.in_ok-one.ensures c.last_asked.ensures (search rules) (search rules)

pub unreachable-requires : goal.unreachable-requires
unreachable-requires c =
    no_two c.args.timing.now c.in_ok-one.one c.last_asked.result c.in_ok-one.ensures c.last_asked.ensures
    (search rules)

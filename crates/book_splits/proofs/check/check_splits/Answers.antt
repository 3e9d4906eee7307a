use Rattle.std.proofs.Common.{◌≡◌, rules, Some}
use Rattle.book_splits.specs.Check.{rules_of_splits}
use Rattle.book_commodity.specs.Rules.{first_broken}
use Rattle.book_splits.proofs.CheckLemmas.{first-of_splits}
use Rattle.book_splits.proofs.check.check_splits.Goals as goal

pub returns-in_err-check_split : goal.returns-in_err-check_split
returns-in_err-check_split c =
    let first : first_broken (rules_of_splits c.args.accounts.now.entries c.args.currency 0 c.args.splits.now)
    ≡ Some c.in_err-check_split.field-0.0 =
    first-of_splits c.args.accounts.now.entries c.args.currency c.args.splits.now c.loop-place.place
    c.index-splits-place.result c.in_err-check_split.field-0.0
    c.loop-place-test.true c.index-splits-place.is c.loop-place.invariant c.in_err-check_split.ensures in
    search rules

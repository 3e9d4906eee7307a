use Rattle.std.proofs.Common.{rules, ◌≡◌, [], List, Some, take, ap, ◌∙◌}
use Rattle.std.proofs.lemmas.List.{drop_all}
use Rattle.book_commodity.specs.Rules.{first_broken}
use Rattle.book_command.specs.declared.command.GivenSplit.{GivenSplit}
use Rattle.book_step.specs.Editing.{number_rules, numbers_given}
use Rattle.book_step.proofs.EditedSplitLemmas.{number-here, number-past}
use Rattle.book_step.proofs.edited_splits.check_given_numbers.Goals as goal

pub returns-in_err-check_number : goal.returns-in_err-check_number
returns-in_err-check_number c =
    let first : first_broken (number_rules c.args.splits.now [] c.args.given.now)
    ≡ Some c.in_err-check_number.field-0.0 =
    c.loop-place.invariant
    ∙ number-here c.args.splits.now c.args.given.now c.loop-place.place c.index-given-place.result
    c.in_err-check_number.field-0.0 c.loop-place-test.true c.index-given-place.is c.in_err-check_number.ensures in
    search rules

pub loop-place-preserved : goal.loop-place-preserved
loop-place-preserved c =
    c.loop-place.invariant
    ∙ number-past c.args.splits.now c.args.given.now c.loop-place.place c.index-given-place.result
    c.loop-place-test.true c.index-given-place.is c.in_ok-check_number.ensures

pub returns : goal.returns
returns c =
    c.loop-place.invariant
    ∙ ap (λ (rest : List GivenSplit). first_broken (number_rules c.args.splits.now
    (numbers_given (take c.loop-place.place c.args.given.now)) rest))
    (drop_all c.loop-place.place c.args.given.now c.loop-place-test.false)

use Rattle.std.proofs.Common.{◌++◌, ap, ◌∙◌}
use Rattle.book_commodity.proofs.RuleLemmas.{first-past}
use Rattle.book_import.specs.Import.{imported}
use Rattle.book_step.specs.Importing.{file_rules}
use Rattle.book_step.specs.State.{State}
use Rattle.book_step.proofs.ImportWalkLemmas.{added-from, bound-refused}
use Rattle.book_step.proofs.importing.import_all.Goals as goal

pub returns-in-Err : goal.returns-in-Err
returns-in-Err c = λ rules unbroken.
    bound-refused c.args.present.now rules c.args.given c.args.statements.now c.in-Err.refusal unbroken
    c.in-Err.ensures

pub returns : goal.returns
returns c = λ rules unbroken.
    let state = c.args.present.now in
    let file = file_rules state.book c.args.given c.args.statements.now in
    let bound = c.as_slice.ensures ∙ c.in-Ok.ensures.1 in
    let made = c.in_ok-added.ensures.added
    ∙ ap (λ (s : State). imported s.book.statements s.book.lines c.as_slice.result.now s.next) c.present.view_is in
    added-from state rules c.args.given c.args.statements.now c.as_slice.result.now c.in_ok-added.added c.add.result
    bound made (c.add.ensures (rules ++ file) (first-past rules file unbroken ∙ c.in-Ok.ensures.0))

use Rattle.std.proofs.Common.{List, subst}
use Rattle.book_statement.specs.declared.statement.Statement.{Statement}
use Rattle.book_step.specs.Importing.{given_rules, import_file, import_statements, said}
use Rattle.book_step.specs.Outcome.{StepsTo}
use Rattle.book_step.proofs.ImportWalkLemmas.{asked-broken, file-read}
use Rattle.book_step.proofs.OutcomeLemmas.{refused}
use Rattle.book_step.proofs.importing.import_file.Goals as goal

pub returns-in_err-check_asked : goal.returns-in_err-check_asked
returns-in_err-check_asked c =
    let state = c.args.present.now in
    let rules = given_rules state.book c.args.format c.args.given in
    let rule = c.in_err-check_asked.field-0.0 in
    refused state (import_file state c.args.format c.args.text c.args.given) rule c.from_residual.result
    c.from_residual.ensures.1
    (asked-broken state rules c.args.given (said state.book.commodities c.args.text c.args.format) rule
    c.in_err-check_asked.ensures)

pub returns-in-Ok : goal.returns-in-Ok
returns-in-Ok c =
    let state = c.args.present.now in
    let rules = given_rules state.book c.args.format c.args.given in
    let done = c.import_all.ensures rules c.in_ok-check_asked.ensures in
    file-read state rules c.args.given (said state.book.commodities c.args.text c.args.format) c.in-Ok.statements
    c.import_all.result c.in-Ok.ensures
    (subst (λ (statements : List Statement). StepsTo state (import_statements state rules c.args.given statements)
    c.import_all.result) c.as_slice.ensures done)

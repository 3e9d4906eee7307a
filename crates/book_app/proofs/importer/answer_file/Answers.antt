use Rattle.std.proofs.Common.{◌≡◌, ◌∙◌, ap}
use Rattle.book_engine.specs.Books.{machine_kept}
use Rattle.book_app.specs.Machine.{import_command, import_of_text}
use Rattle.book_app.proofs.ImportLemmas.{change_same, outcome_same}
use Rattle.book_app.proofs.importer.answer_file.Goals as goal

pub returns-in-Ok-clause-answered : goal.returns-in-Ok-clause-answered
returns-in-Ok-clause-answered g c =
    let is : c.import_command.result ≡ import_command c.args.words c.args.bytes.now =
    c.import_command.ensures ∙ ap (import_of_text c.args.words) c.in-Ok.ensures in
    outcome_same c.reply.result (machine_kept c.args.engine.now) (machine_kept c.reply.new.engine)
    c.import_command.result (import_command c.args.words c.args.bytes.now) is c.reply.ensures.answered

pub returns-in-Ok-clause-changes : goal.returns-in-Ok-clause-changes
returns-in-Ok-clause-changes g c =
    let is : c.import_command.result ≡ import_command c.args.words c.args.bytes.now =
    c.import_command.ensures ∙ ap (import_of_text c.args.words) c.in-Ok.ensures in
    change_same c.reply.result (machine_kept c.args.engine.now) c.import_command.result
    (import_command c.args.words c.args.bytes.now) is c.reply.ensures.changes

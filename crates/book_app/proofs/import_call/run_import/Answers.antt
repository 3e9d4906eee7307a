use Rattle.std.proofs.Common.{◌≡◌, ◌∙◌, None, Some, sym, subst}
use Rattle.book_engine.specs.Books.{machine_kept}
use Rattle.book_app.specs.Numbers.{status_unopened}
use Rattle.book_app.specs.StatusClause.{IsBookRun, over}
use Rattle.book_app.specs.Words.{Import, named_book}
use Rattle.book_app.specs.declared.status.Status.{Status}
use Rattle.book_app.proofs.CauseLemmas.{causes_of_run}
use Rattle.book_engine.proofs.StandLemmas.{kept_format}
use Rattle.book_app.proofs.StatusClauseLemmas.{not_asked, run_of_import, run_of_nothing, same_rows, still_unopened, unopened, unopened_import}
use Rattle.book_app.proofs.StatusClauseLemmas.{untouched}
use Rattle.book_app.proofs.import_call.run_import.Goals as goal

pub returns-in_default-clause-run : goal.returns-in_default-clause-run
returns-in_default-clause-run g c =
    run_of_nothing (Import c.args.import) _ _ _ _ (λ bytes. untouched _ (not_asked g.K.Keeper c.args.keeper.now))

pub returns-in_default-room_after-clause-run : goal.returns-in_default-room_after-clause-run
returns-in_default-room_after-clause-run g c =
    run_of_nothing (Import c.args.import) _ _ _ _ (λ bytes. unopened _
    (still_unopened _ (not_asked g.K.Keeper c.args.keeper.now)))

pub returns-in-Ok-open_book-clause-run : goal.returns-in-Ok-open_book-clause-run
returns-in-Ok-open_book-clause-run g c =
    let keeping = over g.K.Keeper c.args.keeper.now c.import_input.new.keeper in
    let later = c.import_input.ensures.keeper in
    run_of_import c.args.import keeping (machine_kept c.in-Ok-open_book.engine)
    (machine_kept c.import_input.new.importer.engine) (g.K.Keeper.faults c.open_book.new.keeper) _ _ _ _
    c.import_input.result c.in-Ok-open_book.ensures.cause.done
    (λ honest rows held. c.in-Ok-open_book.ensures.opened (later.still_honest honest) rows held)
    (λ still. let stood = c.import_input.ensures.stands.rows still in (stood.0, stood.1, stood.2.0, kept_format c.import_input.new.importer.engine stood.0 stood.2))
    c.import_input.ensures.stands.left
    (λ is. same_rows g.K.Keeper c.args.keeper.now c.open_book.new.keeper
    c.import_input.new.keeper (c.import_input.ensures.limit is) c.in-Ok-open_book.ensures.before)
    (λ is. same_rows g.K.Keeper c.args.keeper.now c.open_book.new.keeper
    c.import_input.new.keeper (c.import_input.ensures.fault is) c.in-Ok-open_book.ensures.before)
    c.import_input.ensures.run

pub returns-in-Ok-open_book-clause-causes : goal.returns-in-Ok-open_book-clause-causes
returns-in-Ok-open_book-clause-causes g c =
    let run = c.import_input.ensures.run in
    causes_of_run (named_book c.args.words.now ≡ None) _ _ _ _ _ _ run.ended c.import_input.result
    (λ none. let e : Some c.in-Some.book.now ≡ None = c.in-Some.ensures ∙ none in cc) run.status_is
    c.import_input.ensures.causes

pub returns-clause-run : goal.returns-clause-run
returns-clause-run g c =
    let keeping = over g.K.Keeper c.args.keeper.now c.open_book.new.keeper in
    let input = g.S.Source.left c.args.input.now in
    let output = g.O.Sink.written c.args.output.now in
    subst (λ (s : Status). IsBookRun (Import c.args.import) keeping input input output output s)
    (sym c.status_unopened.ensures)
    (run_of_nothing (Import c.args.import) keeping input output (status_unopened c.in-Err.error)
    (λ bytes. unopened_import c.args.import keeping output bytes c.in-Err.error c.in-Err.ensures.before
    c.in-Err.ensures.opened))

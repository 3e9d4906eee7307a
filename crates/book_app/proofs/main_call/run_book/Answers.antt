use Rattle.std.proofs.Common.{◌≡◌, ◌∙◌, None, Some, sym, subst}
use Rattle.book_engine.specs.Books.{machine_kept}
use Rattle.book_app.specs.Numbers.{status_unopened}
use Rattle.book_app.specs.StatusClause.{IsBookRun, over}
use Rattle.book_app.specs.Words.{Lines, named_book}
use Rattle.book_app.specs.declared.status.Status.{Status}
use Rattle.book_app.proofs.CauseLemmas.{causes_of_run}
use Rattle.book_engine.proofs.StandLemmas.{kept_format}
use Rattle.book_app.proofs.StatusClauseLemmas.{run_of_lines, run_of_nothing, still_unopened, unopened, unopened_clause, untouched}
use Rattle.book_app.proofs.StatusClauseLemmas.{not_asked}
use Rattle.book_app.proofs.main_call.run_book.Goals as goal

pub returns-in_default-clause-run : goal.returns-in_default-clause-run
returns-in_default-clause-run g c =
    run_of_nothing Lines _ _ _ _ (λ bytes. untouched _ (not_asked g.K.Keeper c.args.keeper.now))

pub returns-in_default-room_after-clause-run : goal.returns-in_default-room_after-clause-run
returns-in_default-room_after-clause-run g c =
    run_of_nothing Lines _ _ _ _ (λ bytes. unopened _
    (still_unopened _ (not_asked g.K.Keeper c.args.keeper.now)))

pub returns-in-Ok-open_book-clause-run : goal.returns-in-Ok-open_book-clause-run
returns-in-Ok-open_book-clause-run g c =
    let keeping = over g.K.Keeper c.args.keeper.now c.run_lines.new.keeper in
    let later = c.run_lines.ensures.keeper in
    run_of_lines keeping (machine_kept c.in-Ok-open_book.engine) (machine_kept c.run_lines.new.engine)
    (g.K.Keeper.faults c.open_book.new.keeper) _ _ _ _ _ c.in-Ok-open_book.ensures.cause.done
    (λ honest rows held. c.in-Ok-open_book.ensures.opened (later.still_honest honest) rows held)
    (λ still. let stood = c.run_lines.ensures.stands.rows still in (stood.0, stood.1, stood.2.0, kept_format c.run_lines.new.engine stood.0 stood.2))
    c.run_lines.ensures.stands.left c.run_lines.ensures.run

pub returns-in-Ok-open_book-clause-causes : goal.returns-in-Ok-open_book-clause-causes
returns-in-Ok-open_book-clause-causes g c =
    let run = c.run_lines.ensures.run in
    causes_of_run (named_book c.args.words.now ≡ None) _ _ _ _ _ _ run.ended c.run_lines.result
    (λ none. let e : Some c.in-Some.book.now ≡ None = c.in-Some.ensures ∙ none in cc) run.status_is
    c.run_lines.ensures.causes

pub returns-clause-run : goal.returns-clause-run
returns-clause-run g c =
    let keeping = over g.K.Keeper c.args.keeper.now c.open_book.new.keeper in
    let input = g.S.Source.left c.args.input.now in
    let output = g.O.Sink.written c.args.output.now in
    subst (λ (s : Status). IsBookRun Lines keeping input input output output s) (sym c.status_unopened.ensures)
    (run_of_nothing Lines keeping input output (status_unopened c.in-Err.error)
    (λ bytes. unopened_clause keeping output bytes c.in-Err.error c.in-Err.ensures.before c.in-Err.ensures.opened))

use Rattle.std.proofs.Common.{◌≡◌, ◌∙◌, None, Some, sym, subst, inl}
use Rattle.book_serve.specs.Served.{link_reports}
use Rattle.book_app.specs.ServeClause.{ServeClause, across}
use Rattle.book_app.specs.StatusClause.{ServedRows, over}
use Rattle.book_app.specs.Words.{named_book}
use Rattle.book_app.specs.declared.status.Status.{Status}
use Rattle.book_app.proofs.CauseLemmas.{causes_of_serving}
use Rattle.book_app.proofs.ServeLemmas.{has_served, none_accepted, served_clause, served_rows}
use Rattle.book_app.proofs.ServeLemmas.{unopened_links}
use Rattle.book_engine.proofs.StandLemmas.{kept_format}
use Rattle.book_app.proofs.StatusClauseLemmas.{not_asked, still_unopened, unopened_rows}
use Rattle.book_app.proofs.serve_call.run_serve.Goals as goal

-- the words name no book
pub returns-in_default-clause-rows : goal.returns-in_default-clause-rows
returns-in_default-clause-rows g c = not_asked g.K.Keeper c.args.keeper.now

pub returns-in_default-clause-serve : goal.returns-in_default-clause-serve
returns-in_default-clause-serve g c = none_accepted _ _ _ _

-- there was no memory before the keeper was opened
pub returns-in_default-routes_after-clause-rows : goal.returns-in_default-routes_after-clause-rows
returns-in_default-routes_after-clause-rows g c = inl (still_unopened _ (not_asked g.K.Keeper c.args.keeper.now))

pub returns-in_default-routes_after-clause-serve : goal.returns-in_default-routes_after-clause-serve
returns-in_default-routes_after-clause-serve g c = inl (none_accepted _ _ _ _, still_unopened _ (not_asked g.K.Keeper c.args.keeper.now))

-- links were served
pub returns-in-Ok-open_book-clause-rows : goal.returns-in-Ok-open_book-clause-rows
returns-in-Ok-open_book-clause-rows g c =
    let keeping = over g.K.Keeper c.args.keeper.now c.serve_links.new.keeper in
    let of = link_reports g.P.L.Source.left g.P.L.Sink.written g.P.L.Source.faults g.P.L.Sink.faults in
    let ports = across g.P.Ports.coming g.P.Ports.closed g.P.Ports.accepted_links g.P.Ports.port_given
    c.args.ports.now c.serve_links.new.ports in
    let later = c.serve_links.ensures.keeper in
    let served = has_served c.args.serve keeping of ports c.in-Ok-open_book.engine c.serve_links.new.engine
    (g.K.Keeper.faults c.open_book.new.keeper) c.serve_links.result c.in-Ok-open_book.ensures.cause.done
    (λ honest rows held. c.in-Ok-open_book.ensures.opened (later.still_honest honest) rows held)
    (λ still. let stood = c.serve_links.ensures.stands.rows still in (stood.0, stood.1, stood.2.0, kept_format c.serve_links.new.engine stood.0 stood.2))
    c.serve_links.ensures.stands.left
    c.serve_links.ensures.served in
    subst (λ (s : Status). ServedRows keeping s) (sym c.status_served.ensures)
    (served_rows c.args.serve keeping of ports c.serve_links.result served)

pub returns-in-Ok-open_book-clause-serve : goal.returns-in-Ok-open_book-clause-serve
returns-in-Ok-open_book-clause-serve g c =
    let keeping = over g.K.Keeper c.args.keeper.now c.serve_links.new.keeper in
    let of = link_reports g.P.L.Source.left g.P.L.Sink.written g.P.L.Source.faults g.P.L.Sink.faults in
    let ports = across g.P.Ports.coming g.P.Ports.closed g.P.Ports.accepted_links g.P.Ports.port_given
    c.args.ports.now c.serve_links.new.ports in
    let later = c.serve_links.ensures.keeper in
    let served = has_served c.args.serve keeping of ports c.in-Ok-open_book.engine c.serve_links.new.engine
    (g.K.Keeper.faults c.open_book.new.keeper) c.serve_links.result c.in-Ok-open_book.ensures.cause.done
    (λ honest rows held. c.in-Ok-open_book.ensures.opened (later.still_honest honest) rows held)
    (λ still. let stood = c.serve_links.ensures.stands.rows still in (stood.0, stood.1, stood.2.0, kept_format c.serve_links.new.engine stood.0 stood.2))
    c.serve_links.ensures.stands.left
    c.serve_links.ensures.served in
    subst (λ (s : Status). ServeClause c.args.serve keeping of ports s) (sym c.status_served.ensures)
    (served_clause c.args.serve keeping of ports c.serve_links.result served)

pub returns-in-Ok-open_book-clause-causes : goal.returns-in-Ok-open_book-clause-causes
returns-in-Ok-open_book-clause-causes g c =
    causes_of_serving (named_book c.args.words.now ≡ None) _ _ _ _ c.serve_links.result c.status_served.result
    (λ none. let e : Some c.in-Some.book.now ≡ None = c.in-Some.ensures ∙ none in cc) c.status_served.ensures
    c.serve_links.ensures.port_faults

-- no book was opened
pub returns-clause-rows : goal.returns-clause-rows
returns-clause-rows g c =
    let keeping = over g.K.Keeper c.args.keeper.now c.open_book.new.keeper in
    subst (λ (s : Status). ServedRows keeping s) (sym c.status_unopened.ensures)
    (unopened_rows keeping c.in-Err.error c.in-Err.ensures.before c.in-Err.ensures.opened)

pub returns-clause-serve : goal.returns-clause-serve
returns-clause-serve g c =
    let keeping = over g.K.Keeper c.args.keeper.now c.open_book.new.keeper in
    let of = link_reports g.P.L.Source.left g.P.L.Sink.written g.P.L.Source.faults g.P.L.Sink.faults in
    let ports = across g.P.Ports.coming g.P.Ports.closed g.P.Ports.accepted_links g.P.Ports.port_given
    c.args.ports.now c.args.ports.now in
    subst (λ (s : Status). ServeClause c.args.serve keeping of ports s) (sym c.status_unopened.ensures)
    (unopened_links c.args.serve keeping of ports c.in-Err.error (none_accepted _ _ _ _) c.in-Err.ensures.before)

use Rattle.std.proofs.Common.{ℕ, Option, None, Some, ◌≡◌, ◌∙◌, sym, ap, subst}
use Rattle.std.specs.Prelude.{IfSome}
use Rattle.book_serve.specs.Served.{link_reports}
use Rattle.book_app.specs.ServeClause.{ServeClause, across}
use Rattle.book_app.specs.StatusClause.{IsBookRun, over}
use Rattle.book_app.specs.Words.{AreNoWords, named_import, named_serve, work_named}
use Rattle.book_app.specs.declared.words.ServeWords.{ServeWords}
use Rattle.book_app.proofs.CauseLemmas.{causes_of_sample}
use Rattle.book_app.proofs.ServeLemmas.{sample_serves_none}
use Rattle.book_app.proofs.StatusClauseLemmas.{not_asked, path_of_sample, run_of_sample}
use Rattle.book_app.proofs.main_call.book_main.Goals as goal

-- the words name a number
pub returns-in-Some-clause-run : goal.returns-in-Some-clause-run
returns-in-Some-clause-run g c =
    run_of_sample _ c.in-Some.number
    (over g.K.Keeper c.args.keeper.now c.args.keeper.now) _ _ _
    c.run_sample.result (not_asked g.K.Keeper c.args.keeper.now)
    (ap (work_named (named_import c.args.words.now) (named_serve c.args.words.now)) c.in-Some.ensures)
    c.run_sample.ensures.shown

pub returns-in-Some-clause-path : goal.returns-in-Some-clause-path
returns-in-Some-clause-path g c =
    path_of_sample c.args.words.now (g.K.Keeper.path_given c.args.keeper.now) c.in-Some.number c.run_sample.result
    c.in-Some.ensures

pub returns-in-Some-clause-causes : goal.returns-in-Some-clause-causes
returns-in-Some-clause-causes g c =
    causes_of_sample (AreNoWords c.args.words.now) _ _ _ _ _ c.in-Some.number _ _ c.run_sample.result
    (λ none. let e : Some c.in-Some.number ≡ None = c.in-Some.ensures ∙ none.no_number in cc)
    c.run_sample.ensures.shown c.run_sample.ensures.output_faults

pub returns-in-Some-clause-serve : goal.returns-in-Some-clause-serve
returns-in-Some-clause-serve g c =
    let keeping = over g.K.Keeper c.args.keeper.now c.args.keeper.now in
    let of = link_reports g.P.L.Source.left g.P.L.Sink.written g.P.L.Source.faults g.P.L.Sink.faults in
    let ports = across g.P.Ports.coming g.P.Ports.closed g.P.Ports.accepted_links g.P.Ports.port_given
    c.args.ports.now c.args.ports.now in
    subst (λ (named : Option ServeWords). IfSome named (λ serve. ServeClause serve keeping of ports c.run_sample.result))
    (sym (sample_serves_none c.args.words.now c.in-Some.number c.in-Some.ensures)) tt

-- they name none
pub returns-in-None-clause-run : goal.returns-in-None-clause-run
returns-in-None-clause-run g c =
    subst
    (λ (named : Option ℕ). IsBookRun (work_named (named_import c.args.words.now) (named_serve c.args.words.now) named)
    (over g.K.Keeper c.args.keeper.now c.run_with_book.new.keeper)
    (g.S.Source.left c.args.input.now) (g.S.Source.left c.run_with_book.new.input)
    (g.O.Sink.written c.args.output.now) (g.O.Sink.written c.run_with_book.new.output) c.run_with_book.result)
    c.in-None.ensures c.run_with_book.ensures.run

pub returns-in-None-clause-causes : goal.returns-in-None-clause-causes
returns-in-None-clause-causes g c =
    let causes = c.run_with_book.ensures.causes in
    record {
      book = record {
        usage = (
          λ is. record { no_book = causes.book.usage.0 is; no_number = sym c.in-None.ensures },
          λ none. causes.book.usage.1 none.no_book,
        );
        keeper_fault = causes.book.keeper_fault;
        port_faults = causes.book.port_faults;
      };
      streams = causes.streams;
    }

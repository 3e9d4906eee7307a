use Rattle.std.proofs.Common.{◌≡◌, ◌∙◌, Option, None, Some, ap, subst}
use Rattle.std.specs.Prelude.{IfSome}
use Rattle.book_serve.specs.Served.{link_reports}
use Rattle.book_app.specs.ServeClause.{ServeClause, across}
use Rattle.book_app.specs.StatusClause.{IsBookRun, over}
use Rattle.book_app.specs.Words.{named_import, work_named}
use Rattle.book_app.specs.declared.words.ServeWords.{ServeWords}
use Rattle.book_app.specs.declared.status.Status.TheVariants.{InputFault, OutputFault}
use Rattle.book_app.proofs.CauseLemmas.{tells_none}
use Rattle.book_app.proofs.StatusClauseLemmas.{no_serving, run_of_serving}
use Rattle.book_app.proofs.main_call.run_with_book.Goals as goal

-- the words are those of `serve`
pub returns-in-Some-clause-run : goal.returns-in-Some-clause-run
returns-in-Some-clause-run g c =
    run_of_serving _ c.in-Some.serve
    (over g.K.Keeper c.args.keeper.now c.run_serve.new.keeper) _ _
    c.run_serve.result c.run_serve.ensures.rows
    (ap (λ (named : Option ServeWords). work_named (named_import c.args.words.now) named None) c.in-Some.ensures)

pub returns-in-Some-clause-causes : goal.returns-in-Some-clause-causes
returns-in-Some-clause-causes g c =
    let keeping = over g.K.Keeper c.args.keeper.now c.run_serve.new.keeper in
    let causes = c.run_serve.ensures.causes in
    let rows = c.run_serve.ensures.rows in
    record {
      book = record {
        usage = causes.usage;
        keeper_fault = causes.keeper_fault;
        port_faults = causes.port_faults;
      };
      streams = record {
        input_faults = tells_none InputFault c.run_serve.result _
            (no_serving keeping c.run_serve.result InputFault rows (λ never. never));
        output_faults = tells_none OutputFault c.run_serve.result _
            (no_serving keeping c.run_serve.result OutputFault rows (λ never. never));
      };
    }

pub returns-in-Some-clause-serve : goal.returns-in-Some-clause-serve
returns-in-Some-clause-serve g c =
    let keeping = over g.K.Keeper c.args.keeper.now c.run_serve.new.keeper in
    let of = link_reports g.P.L.Source.left g.P.L.Sink.written g.P.L.Source.faults g.P.L.Sink.faults in
    let ports = across g.P.Ports.coming g.P.Ports.closed g.P.Ports.accepted_links g.P.Ports.port_given
    c.args.ports.now c.run_serve.new.ports in
    subst (λ (named : Option ServeWords). IfSome named (λ serve. ServeClause serve keeping of ports c.run_serve.result))
    c.in-Some.ensures c.run_serve.ensures.serve

pub returns-in-Some-clause-other_words : goal.returns-in-Some-clause-other_words
returns-in-Some-clause-other_words g c =
    λ none. absurd (let e : Some c.in-Some.serve ≡ None = c.in-Some.ensures ∙ none in cc)

-- they are not
pub returns-in-None-clause-run : goal.returns-in-None-clause-run
returns-in-None-clause-run g c =
    subst
    (λ (named : Option ServeWords). IsBookRun (work_named (named_import c.args.words.now) named None)
    (over g.K.Keeper c.args.keeper.now c.run_over_input.new.keeper)
    (g.S.Source.left c.args.input.now) (g.S.Source.left c.run_over_input.new.input)
    (g.O.Sink.written c.args.output.now) (g.O.Sink.written c.run_over_input.new.output) c.run_over_input.result)
    c.in-None.ensures c.run_over_input.ensures.run

pub returns-in-None-clause-serve : goal.returns-in-None-clause-serve
returns-in-None-clause-serve g c =
    let keeping = over g.K.Keeper c.args.keeper.now c.run_over_input.new.keeper in
    let of = link_reports g.P.L.Source.left g.P.L.Sink.written g.P.L.Source.faults g.P.L.Sink.faults in
    let ports = across g.P.Ports.coming g.P.Ports.closed g.P.Ports.accepted_links g.P.Ports.port_given
    c.args.ports.now c.args.ports.now in
    subst
    (λ (named : Option ServeWords). IfSome named (λ serve. ServeClause serve keeping of ports c.run_over_input.result))
    c.in-None.ensures tt

use Rattle.std.proofs.Common.{Some}
use Rattle.book_complete.proofs.SureLaws.{sure-import, sure-run, sure-sample, sure_keeping}
use Rattle.book_complete.proofs.sure.run_sure.Goals as goal

pub returns : goal.returns
returns g c =
    let run = c.book_main-status.ensures in
    let new = c.book_main-status.new in
    record {
      lines = λ machine are opens all.
          sure-run machine g.row.ROOM c.args.input.now new.input c.args.keeper.now new.keeper c.args.output.now
          new.output c.kept.ensures.fits c.rows.ensures.rises c.rows-2.ensures.rises opens c.args.words.now
          (g.P.Ports.faults c.args.ports.now) (g.P.Ports.faults new.ports) c.book_main-status.result are all
          run.causes run.run;
      import = λ machine import ask opens few.
          sure-import machine g.row.ROOM c.args.input.now new.input c.args.keeper.now new.keeper c.args.output.now
          new.output c.kept.ensures.fits c.rows.ensures.rises c.rows-2.ensures.rises opens c.args.words.now import
          (g.P.Ports.faults c.args.ports.now) (g.P.Ports.faults new.ports) c.book_main-status.result ask few
          run.causes run.run;
      sample = λ number ask.
          sure-sample number g.row.ROOM (sure_keeping c.args.keeper.now new.keeper) (Some c.args.input.now.left)
          (Some new.input.left) c.args.output.now new.output c.args.words.now (g.P.Ports.faults c.args.ports.now)
          (g.P.Ports.faults new.ports) c.book_main-status.result c.kept.ensures.fits ask
          run.causes run.run;
    }

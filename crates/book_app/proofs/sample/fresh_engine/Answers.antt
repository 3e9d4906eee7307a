use Rattle.std.proofs.Common.{[], Ok}
use Rattle.book_keeper.specs.RisingRows.{told_where}
use Rattle.book_app.specs.Fresh.{in_memory}
use Rattle.book_app.proofs.FreshLemmas.{opened_fresh}
use Rattle.book_app.proofs.StatusClauseLemmas.{stands_opened}
use Rattle.book_app.proofs.sample.fresh_engine.Goals as goal

pub returns-in-Ok : goal.returns-in-Ok
returns-in-Ok c = record {
  new_book = opened_fresh _
      (c.in-Ok.ensures.opened (told_where c.open.new.keeper.rows c.rows.ensures.rises) [] (c.requires, tt));
  stands = stands_opened in_memory c.args.keeper.now c.args.keeper.now c.open.new.keeper (λ honest. honest)
      c.in-Ok.ensures.keeper (Ok c.in-Ok.engine) (λ still. ([], (c.requires, tt))) (λ still rows left. left)
      c.in-Ok.ensures.known c.in-Ok.ensures.opened c.in-Ok.ensures.stand;
}

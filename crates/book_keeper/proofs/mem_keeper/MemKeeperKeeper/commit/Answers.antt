-- The rows rose before the commit.
use Rattle.std.proofs.Common.{◌≡◌, ◌∙◌, ap, inr, subst, sym}
use Rattle.book_keeper.specs.Rows.{Rises, after_changes}
use Rattle.book_keeper.specs.RisingRows.{told_where}
use Rattle.book_keeper.proofs.mem_keeper.MemKeeperKeeper.commit.Goals as goal

pub returns-in-Ok-clause-sure : goal.returns-in-Ok-clause-sure
returns-in-Ok-clause-sure c = λ now.
    told_where c.args.self.now.rows (subst (λ keeper. Rises keeper.rows) c.self.view_is c.self.invariant)

pub returns-in-Ok-clause-honest : goal.returns-in-Ok-clause-honest
returns-in-Ok-clause-honest c = λ now.
    told_where c.args.self.now.rows (subst (λ keeper. Rises keeper.rows) c.self.view_is c.self.invariant)

pub returns-in-Ok-clause-left : goal.returns-in-Ok-clause-left
returns-in-Ok-clause-left c = λ now some rows left.
    inr (
      told_where c.args.self.now.rows (subst (λ keeper. Rises keeper.rows) c.self.view_is c.self.invariant),
      λ held was.
          sym left.0 ∙ ap (λ keeper. keeper.rows) c.in-Ok.ensures.made
          ∙ ap (λ keeper. after_changes c.args.changes.now keeper.rows) c.self.view_is
          ∙ ap (after_changes c.args.changes.now) was.0,
    )

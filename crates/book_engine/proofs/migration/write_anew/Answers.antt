-- All rows are written, or none is.
use Rattle.std.proofs.Common.{◌∙◌, ap, sym, subst}
use Rattle.book_keeper.specs.Rows.{AreRising}
use Rattle.book_opening.specs.Changes.{all_put}
use Rattle.book_opening.specs.Reading.{IsReadable}
use Rattle.book_opening.specs.State.{state_of}
use Rattle.book_engine.specs.Kept.{Kept}
use Rattle.book_engine.specs.declared.fault.OpenError.TheVariants as error
use Rattle.book_engine.proofs.MigrationLemmas.{anew_rises, back_read, forth_read, written_made, written_not}
use Rattle.book_engine.proofs.migration.write_anew.Goals as goal

pub all_rows-requires-clause-back : goal.all_rows-requires-clause-back
all_rows-requires-clause-back g c =
    back_read (state_of c.engine.inside.state)
    (subst (λ (k : Kept). IsReadable k.state) (sym c.engine.view_is) c.requires.readable)

pub all_rows-requires-clause-forth : goal.all_rows-requires-clause-forth
all_rows-requires-clause-forth g c =
    forth_read (state_of c.engine.inside.state)
    (subst (λ (k : Kept). IsReadable k.state) (sym c.engine.view_is) c.requires.readable)

pub commit-requires : goal.commit-requires
commit-requires g c =
    let state = c.args.engine.now.state in
    subst AreRising
    (sym (c.as_slice.ensures ∙ c.in-Ok.ensures.changes ∙ ap (λ (k : Kept). all_put k.state) c.engine.view_is))
    (anew_rises state c.args.engine.now.saved c.requires.readable c.known.ensures.whole)

pub returns-in-Ok-commit-clause-written : goal.returns-in-Ok-commit-clause-written
returns-in-Ok-commit-clause-written g c =
    let made = c.in-Ok-commit.ensures in
    written_made g.K.Keeper c.args.keeper.now c.commit.new.self c.args.engine.now.state c.args.engine.now.saved
    c.as_slice.result.now c.known.ensures.whole
    (c.as_slice.ensures ∙ c.in-Ok.ensures.changes ∙ ap (λ (k : Kept). all_put k.state) c.engine.view_is)
    made.path made.honest made.sure made.left made.known made.made tt

pub returns-in-Err-Failed-clause-written : goal.returns-in-Err-Failed-clause-written
returns-in-Err-Failed-clause-written g c =
    let made = c.in-Err-Failed.ensures in
    written_not g.K.Keeper c.args.keeper.now c.commit.new.self c.args.engine.now.state c.args.engine.now.saved
    c.as_slice.result.now c.known.ensures.whole
    (c.as_slice.ensures ∙ c.in-Ok.ensures.changes ∙ ap (λ (k : Kept). all_put k.state) c.engine.view_is)
    made.path made.honest made.sure made.left made.unchanged error.Keeper

pub returns-clause-written : goal.returns-clause-written
returns-clause-written g c =
    let made = c.in-Err-OutOfMemory.ensures in
    written_not g.K.Keeper c.args.keeper.now c.commit.new.self c.args.engine.now.state c.args.engine.now.saved
    c.as_slice.result.now c.known.ensures.whole
    (c.as_slice.ensures ∙ c.in-Ok.ensures.changes ∙ ap (λ (k : Kept). all_put k.state) c.engine.view_is)
    made.path made.honest made.sure made.left made.unchanged error.OutOfMemory

-- The changes that were read put the rows.
use Rattle.std.proofs.Common.{[], ap, subst, ◌∙◌}
use Rattle.book_keeper.specs.Rows.{after_changes}
use Rattle.book_copy.proofs.CopyLemmas.{put_all}
use Rattle.book_copy.proofs.copying.copy_rows.Goals as goal

pub returns-in-Ok-clause-copied : goal.returns-in-Ok-clause-copied
returns-in-Ok-clause-copied g c = λ known sure rows held none.
    let is = c.in_ok-changes.ensures.read known rows held in
    let rise = g.met.K.Keeper.rising c.args.source.now rows held in
    subst (g.L.Keeper.holds c.commit.new.self)
    (ap (λ changes. after_changes changes []) (c.as_slice.ensures.value ∙ is) ∙ put_all rows rise)
    (c.in-Ok.ensures.made sure [] none)

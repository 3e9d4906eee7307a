-- One row more was read; or none is left.
use Rattle.std.proofs.Common.{◌≡◌, ◌<◌, ◌^◌, ◌++◌, map, Some, ap, sym, subst, ◌∙◌, arith, rules}
use Rattle.book_keeper.specs.Rows.{AreRising}
use Rattle.book_keeper.specs.declared.row.Change.TheVariants.{Put}
use Rattle.book_copy.proofs.CopyLemmas.{behind, limit_more, limit_of, past_limit, read_all, read_next}
use Rattle.book_copy.proofs.CopyLemmas.{key_is, past_here, past_next, past_none, rising_more}
use Rattle.book_copy.proofs.copying.read_changes.Goals as goal

pub returns-in-Ok-None-clause-read : goal.returns-in-Ok-None-clause-read
returns-in-Ok-None-clause-read g c = λ known rows held.
    let still = c.in-Ok-None.ensures.sure known in
    let now = c.rows.invariant.kept still rows held in
    read_all c.rows.changes.items c.rows.last rows
    (sym (c.in-Ok-None.ensures.found known rows now) ∙ c.in-Ok-None.field-0-is)
    (c.rows.invariant.rows still rows held)

pub rows-preserved : goal.rows-preserved
rows-preserved g c =
    let row = c.in-Ok-Some.row in
    let changes = c.rows.changes.items in
    let found = c.in-Ok-Some.ensures in
    let above = past_limit c.rows.last row (rw c.in-Ok-Some.field-0-is at found.above) in
    let small : row.key.id < 2 ^ 62 = omega (arith, c.if-id-ge-NUMBER_LIMIT.false) in
    let added = c.in-Ok.ensures.items in
    record {
      path = found.path ∙ c.rows.invariant.path;
      sure = λ known. c.rows.invariant.sure (found.sure known);
      kept = λ known rows held. found.rows known rows (c.rows.invariant.kept (found.sure known) rows held);
      faults = found.cause.done ∙ c.rows.invariant.faults;
      rising = subst AreRising (sym added)
          (rising_more 0 changes row c.rows.invariant.rising (omega (arith, above, c.rows.invariant.limit)) small);
      limit = ap (limit_of 0) added ∙ limit_more 0 changes row;
      rows = λ known rows held.
          let still = found.sure known in
          let now = c.rows.invariant.kept still rows held in
          ap (λ l. l ++ map Put (behind (Some row.key) rows)) added
          ∙ read_next changes c.rows.last rows row (g.met.K.Keeper.rising c.args.source.now rows held)
          (sym (found.found known rows now) ∙ c.in-Ok-Some.field-0-is) (c.rows.invariant.rows still rows held);
      past = λ known rows held.
          let still = found.sure known in
          let now = c.rows.invariant.kept still rows held in
          c.rows.invariant.past still rows held
          ∙ past_next c.rows.last rows row (g.met.K.Keeper.rising c.args.source.now rows held)
          (sym (found.found known rows now) ∙ c.in-Ok-Some.field-0-is) small;
    }

pub returns-in-Ok-None-clause-book_rows : goal.returns-in-Ok-None-clause-book_rows
returns-in-Ok-None-clause-book_rows g c = λ known rows held.
    let still = c.in-Ok-None.ensures.sure known in
    let now = c.rows.invariant.kept still rows held in
    c.rows.invariant.past still rows held
    ∙ past_none c.rows.last rows (sym (c.in-Ok-None.ensures.found known rows now) ∙ c.in-Ok-None.field-0-is)

pub returns-then-id-ge-NUMBER_LIMIT-clause-no_book_row : goal.returns-then-id-ge-NUMBER_LIMIT-clause-no_book_row
returns-then-id-ge-NUMBER_LIMIT-clause-no_book_row g c = λ kind id is known rows held.
    let row = c.in-Ok-Some.row in
    let found = c.in-Ok-Some.ensures in
    let still = found.sure known in
    let now = c.rows.invariant.kept still rows held in
    let same : (row.key.kind ≡ kind) × (row.key.id ≡ id) = search (rules, is) in
    let here = past_here c.rows.last rows row (g.met.K.Keeper.rising c.args.source.now rows held)
    (sym (found.found known rows now) ∙ c.in-Ok-Some.field-0-is) (omega (arith, c.if-id-ge-NUMBER_LIMIT.true)) in
    c.rows.invariant.past still rows held ∙ here ∙ ap Some (key_is row.key kind id same.0 same.1)

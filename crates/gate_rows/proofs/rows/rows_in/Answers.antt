-- One row more was read; or none is left.
use Rattle.std.proofs.Common.{◌++◌, Some, ap, sym, ◌∙◌}
use Rattle.gate_rows.proofs.ReadLemmas.{behind, read_all, read_next}
use Rattle.gate_rows.proofs.rows.rows_in.Goals as goal

pub returns-in-Ok-None-clause-read : goal.returns-in-Ok-None-clause-read
returns-in-Ok-None-clause-read g c = λ known held holds.
    let still = c.in-Ok-None.ensures.sure known in
    let now = c.rows.invariant.kept still held holds in
    read_all c.rows.rows.items c.rows.last held
    (sym (c.in-Ok-None.ensures.found known held now) ∙ c.in-Ok-None.field-0-is)
    (c.rows.invariant.rows still held holds)

pub rows-preserved : goal.rows-preserved
rows-preserved g c =
    let row = c.in-Ok-Some.row in
    let read = c.rows.rows.items in
    let found = c.in-Ok-Some.ensures in
    let added = c.in-Ok.ensures.items in
    record {
      path = found.path ∙ c.rows.invariant.path;
      sure = λ known. c.rows.invariant.sure (found.sure known);
      kept = λ known held holds. found.rows known held (c.rows.invariant.kept (found.sure known) held holds);
      faults = found.cause.done ∙ c.rows.invariant.faults;
      rows = λ known held holds.
          let still = found.sure known in
          let now = c.rows.invariant.kept still held holds in
          ap (λ l. l ++ behind (Some row.key) held) added
          ∙ read_next read c.rows.last held row (g.met.K.Keeper.rising c.args.keeper.now held holds)
          (sym (found.found known held now) ∙ c.in-Ok-Some.field-0-is) (c.rows.invariant.rows still held holds);
    }

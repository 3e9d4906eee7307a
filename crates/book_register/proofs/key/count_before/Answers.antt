use Rattle.book_register.proofs.RowLemmas.{bound-of, rows_parted}
use Rattle.book_register.proofs.key.count_before.Goals as goal

pub cut-requires : goal.cut-requires
cut-requires g c = rows_parted c.args.rows.now.list c.args.key c.requires

pub returns-clause-bound : goal.returns-clause-bound
returns-clause-bound g c =
    bound-of c.args.rows.now.list c.args.key c.cut.result c.cut.ensures.cut c.cut.ensures.within

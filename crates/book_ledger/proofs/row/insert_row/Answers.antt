use Rattle.std.proofs.Common.{List, find, ap, ◌∙◌}
use Rattle.book_register.specs.Register.{has_key, key_of}
use Rattle.book_register.specs.declared.entry.Entry.{Entry}
use Rattle.book_ledger.specs.Changes.{differing}
use Rattle.book_ledger.proofs.DifferenceLemmas.{differing_put}
use Rattle.book_ledger.proofs.FoundLemmas.{found_inserted, none_found}
use Rattle.book_ledger.proofs.row.insert_row.Goals as goal

pub insert-requires-clause-absent : goal.insert-requires-clause-absent
insert-requires-clause-absent c =
    none_found (key_of c.args.row) c.args.register.now.rows c.requires.absent

pub returns-clause-found : goal.returns-clause-found
returns-clause-found c = λ key.
    ap (λ (rows : List Entry). find (has_key key) rows) c.insert.ensures.rows
    ∙ found_inserted key c.args.register.now.rows c.insert.result c.args.row c.requires.absent

pub returns-clause-differing : goal.returns-clause-differing
returns-clause-differing c = λ first lacks.
    ap (λ (rows : List Entry). differing first rows) c.insert.ensures.rows
    ∙ differing_put c.args.row first c.args.register.now.rows c.insert.result lacks

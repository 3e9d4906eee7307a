use Rattle.sqlite.specs.WalFiles.{image_at}
use Rattle.sqlite.specs.Files.{file_state}
use Rattle.book_sqlite.proofs.KeeperLemmas.{found_holds}
use Rattle.book_sqlite.proofs.OpeningLemmas.{bare_found, found_ready}
use Rattle.book_sqlite.proofs.file_keeper.SqliteKeeper+FileStore+FileFrom+T.over_file.Goals as goal

pub over_opened-requires-clause-rowids : goal.over_opened-requires-clause-rowids
over_opened-requires-clause-rowids g c = λ sure schema_is.
    found_ready (image_at g.T.Start) (file_state c.in-Ok.connection) (c.in-Ok.ensures.found sure.0) (c.in-Ok.ensures.opened sure.0) sure.1 schema_is

pub returns-in-Ok-clause-found : goal.returns-in-Ok-clause-found
returns-in-Ok-clause-found g c = λ sure db held lists.
    found_holds c.over_opened.result c.in-Ok.connection db ((c.in-Ok.ensures.found (c.over_opened.ensures.clean sure)).holds db held)
    (c.over_opened.ensures.rows sure) lists

pub returns-in-Ok-clause-empty : goal.returns-in-Ok-clause-empty
returns-in-Ok-clause-empty g c = λ sure nothing.
    c.over_opened.ensures.empty sure
    (bare_found (image_at g.T.Start) (file_state c.in-Ok.connection) (c.in-Ok.ensures.found (c.over_opened.ensures.clean sure)) nothing)

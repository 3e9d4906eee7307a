-- What a keeper knows of rows whose keys rise.
use Rattle.std.proofs.Common.{◌≡◌, IsTrue, List, refl}
use Rattle.book_keeper.specs.declared.row.Row.{Row}
use Rattle.book_keeper.specs.Rows.{Rises, do_rise}
use Rattle.book_keeper.specs.RisingRows.{rises_where}

-- rows that rise by the test are held
pub held_where : (rows : List Row) → IsTrue (do_rise rows) → (held : List Row) × ((rows ≡ held) × Rises held)
held_where rows sure = (rows, (refl, rises_where rows sure))

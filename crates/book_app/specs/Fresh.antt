-- An engine with a new book over a keeper in memory.
use Rattle.std.specs.Prelude.{◌≡◌}
use Rattle.book_keeper.specs.KeeperInMemory.{KeeperInMemory}
use Rattle.book_keeper.specs.Rows.{Rises, do_rise}
use Rattle.book_keeper.specs.declared.keeper.Keeper.{Ghosts}
use Rattle.book_engine.specs.Books.{machine_kept}
use Rattle.book_engine.specs.Kept.{Kept}
use Rattle.book_engine.specs.Machine.{fresh}
use Rattle.book_engine.specs.Standing.{Stands}

-- What is seen of a keeper in memory.
abbrev pub in_memory : Ghosts KeeperInMemory
in_memory = record {
  path_given = λ keeper. keeper.path;
  honest = λ keeper. do_rise keeper.rows;
  sure = λ keeper. do_rise keeper.rows;
  holds = λ keeper rows. (keeper.rows ≡ rows) × Rises rows;
  may_leave = λ keeper rows. (keeper.rows ≡ rows) × Rises rows;
  faults = λ keeper. keeper.faults;
}

-- The engine's machine is the fresh one, and the keeper's rows stand for it.
pub record IsFresh (keeper : KeeperInMemory) (engine : Kept) : Type 0 where
  pub new_book : machine_kept engine ≡ fresh
  pub stands : Stands in_memory keeper engine

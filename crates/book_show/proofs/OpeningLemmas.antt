-- From what a state that was read is answered, to what its rows are.
use Rattle.std.proofs.Common.{◌≡◌, List, [], inl, inr, IfErr, IfOk, Result, Ok, Err, refl, sym, subst}
use Rattle.book_keeper.specs.declared.row.Row.{Row}
use Rattle.book_opening.specs.Opening.{OpenAs}
use Rattle.book_opening.specs.State.{State}
use Rattle.book_step.specs.State.{fresh_book}
use Rattle.book_engine.specs.Books.{machine_of}
use Rattle.book_engine.specs.Machine.{fresh}
use Rattle.book_show.specs.Opening.{AreRefused, CheckedAs, OpenedAs}
use Rattle.book_show.specs.declared.opening.BookError.{BookError}
use Rattle.book_show.specs.declared.opening.BookError.TheVariants as error
use Rattle.book_show.specs.declared.opening.Opened.{Opened}

-- the rows of a state are answered as it is
pub opened_of :
    (rows : List Row) (state : State) (result : Result Opened BookError) → OpenAs rows state → CheckedAs state result
    → OpenedAs rows result
opened_of rows state (Ok now) is checked =
    (machine_of state, inr (state, is, checked.2, refl), sym checked.0, sym checked.1)
opened_of rows state (Err (error.BadRows kind id)) is checked = absurd checked
opened_of rows state (Err (error.UnsoundBook broken)) is checked = (state, is, checked)
opened_of rows state (Err error.Keeper) is checked = absurd checked
opened_of rows state (Err error.OutOfMemory) is checked = tt

-- without rows it is the fresh book
pub fresh_of :
    (rows : List Row) (result : Result Opened BookError) → rows ≡ [] → IfOk result (λ now. now.book ≡ fresh_book)
    → IfOk result (λ now. now.version ≡ 0) → IfErr result (λ why. why ≡ error.OutOfMemory) → OpenedAs rows result
fresh_of rows (Ok now) none is version memory = (fresh, inl (none, refl), sym is, sym version)
fresh_of rows (Err why) none is version memory = subst (AreRefused rows) (sym memory) tt

use Rattle.std.proofs.Common.{rules, length, ◌<◌, ◌^◌, arith}
use Rattle.std.proofs.lemmas.List.Sorted.{answers_always}
use Rattle.book_keeper.specs.Rows.{rank}
use Rattle.book_keeper.proofs.RowLemmas.{searched, place_fits}
use Rattle.book_keeper.proofs.mem_rows.MemRows.search.Goals as goal

pub returns : goal.returns
returns c =
    let facts = c.binary_search_by_key.ensures in
    let by_rank = facts.position (λ row. rank row.key) (answers_always _ _ _ (λ f a r g called. search rules)) in
    let here = searched (rank c.args.key) c.deref.result.now c.binary_search_by_key.result
    (rw c.deref.ensures.value c.self.invariant) facts.bound (rw c.rank.ensures at by_rank) in
    let few : length c.deref.result.now < 2 ^ 64 = omega arith in
    let fits = place_fits _ c.binary_search_by_key.result facts.bound few in
    rw (← c.self.view_is, ← c.deref.ensures.value) (record { found = here.0; absent = here.1; fits = fits })

use Rattle.std.proofs.Common.{rules}
use Rattle.std.proofs.lemmas.List.Sorted.{answers_always}
use Rattle.book_commodity.proofs.TableLemmas.{searched}
use Rattle.book_commodity.proofs.table.Table.search.Goals as goal

pub returns : goal.returns
returns g c =
    let facts = c.binary_search_by_key.ensures in
    let by_number = facts.position (λ entry. entry.0) (answers_always _ _ _ (λ f a r g called. search rules)) in
    let here = searched c.args.number c.deref.result.now c.binary_search_by_key.result
    (rw c.deref.ensures.value c.self.invariant) facts.bound by_number in
    rw (← c.self.view_is, ← c.deref.ensures.value) (record { found = here.0; absent = here.1 })

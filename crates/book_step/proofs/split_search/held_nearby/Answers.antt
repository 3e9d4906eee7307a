use Rattle.std.proofs.Common.{◌≡◌, ℕ, ◌-◌, ◌<◌, List, length, Some, ap, sym, subst, ◌∙◌, arith}
use Rattle.book_commodity.specs.Table.{Rises, value_of}
use Rattle.book_splits.specs.declared.transaction.Txn.{Txn}
use Rattle.book_step.specs.Soundness.{IsSound}
use Rattle.book_step.specs.State.{State}
use Rattle.book_step.proofs.SplitSearchLemmas.{entry_there, first_if, held_if}
use Rattle.book_step.proofs.split_search.held_nearby.Goals as goal

pub returns-clause-there : goal.returns-clause-there
returns-clause-there c =
    let items : List (ℕ × Txn) = c.as_slice-entries.result.now in
    let seen : items ≡ c.args.present.now.book.transactions =
    c.as_slice-entries.ensures.entries ∙ ap (λ (s : State). s.book.transactions) c.present.view_is in
    let rise = subst (λ (ts : List (ℕ × Txn)). Rises ts) (sym c.as_slice-entries.ensures.entries)
    c.as_slice-entries.ensures.rises in
    let at = c.partition_point-place.result - 1 in
    let item : ℕ × Txn = c.index-entries-place.result in
    let below : at < length items = omega (arith, c.partition_point-place.ensures.bound, c.if-place-eq0.false) in
    let there = entry_there items at item rise below c.index-entries-place.is in
    held_if c.args.present.now.book.transactions c.args.number item.0 item.1 c.held_in.result
    (subst (λ (ts : List (ℕ × Txn)). value_of item.0 ts ≡ Some item.1) seen there)
    c.held_in.ensures.there c.held_in.ensures.found

pub returns-clause-split : goal.returns-clause-split
returns-clause-split c =
    let sound = subst (λ (s : State). IsSound s) c.present.view_is c.present.invariant in
    first_if c.args.present.now.book c.args.number c.held_in.result sound.book (returns-clause-there c)

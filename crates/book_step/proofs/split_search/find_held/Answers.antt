use Rattle.std.proofs.Common.{◌≡◌, ℕ, List, Some, ap, sym, subst, ◌∙◌}
use Rattle.book_commodity.specs.Table.{Rises, value_of}
use Rattle.book_splits.specs.declared.transaction.Txn.{Txn}
use Rattle.book_step.specs.State.{State}
use Rattle.book_step.proofs.SplitSearchLemmas.{entry_there, held_from, split_here, split_later}
use Rattle.book_step.proofs.split_search.find_held.Goals as goal

pub returns-in-Some-held_in-clause-there : goal.returns-in-Some-held_in-clause-there
returns-in-Some-held_in-clause-there c =
    let items : List (ℕ × Txn) = c.as_slice-own-items.result.now in
    let seen : items ≡ c.args.present.now.book.transactions =
    c.as_slice-own-items.ensures.entries ∙ ap (λ (s : State). s.book.transactions) c.present.view_is in
    let rise = subst (λ (ts : List (ℕ × Txn)). Rises ts) (sym c.as_slice-own-items.ensures.entries)
    c.as_slice-own-items.ensures.rises in
    let item : ℕ × Txn = c.loop-own-item.result in
    let there = entry_there items c.loop-own.own-index item rise c.loop-own-test.true c.loop-own-item.is in
    held_from c.args.present.now.book.transactions c.args.number item.0 item.1 c.in-Some-held_in.held
    c.in-Some-held_in.ensures.there
    (subst (λ (ts : List (ℕ × Txn)). value_of item.0 ts ≡ Some item.1) seen there)
    c.in-Some-held_in.ensures.found

pub returns-in-Some-held_in-clause-split : goal.returns-in-Some-held_in-clause-split
returns-in-Some-held_in-clause-split c =
    sym (c.loop-own.invariant
    ∙ split_here c.as_slice-own-items.result.now c.loop-own.own-index c.loop-own-item.result c.args.number
    c.in-Some-held_in.held.split c.loop-own-test.true c.loop-own-item.is c.in-Some-held_in.ensures.found)

pub loop-own-preserved : goal.loop-own-preserved
loop-own-preserved c =
    c.loop-own.invariant
    ∙ split_later c.as_slice-own-items.result.now c.loop-own.own-index c.loop-own-item.result c.args.number
    c.loop-own-test.true c.loop-own-item.is c.in_default-held_in.ensures.none

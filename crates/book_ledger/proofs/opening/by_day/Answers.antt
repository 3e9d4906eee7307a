use Rattle.std.proofs.Common.{ℕ, ℤ, List, [], ◌∷◌, ◌++◌, map, take, to_z, of_z, w32, ap, sym, ◌∙◌}
use Rattle.std.proofs.lemmas.List.{map-append, take_all}
use Rattle.book_commodity.proofs.ListLemmas.{take-item}
use Rattle.book_splits.specs.declared.transaction.Txn.{Txn}
use Rattle.book_ledger.proofs.OpeningLemmas.{names_all}
use Rattle.book_ledger.proofs.opening.by_day.Goals as goal

abbrev of_order : ℤ × ℕ → ℕ
of_order entry = entry.1

abbrev of_table : ℕ × Txn → ℕ
of_table entry = entry.0

pub loop-number-preserved : goal.loop-number-preserved
loop-number-preserved c =
    let i = c.loop-number.number-index in
    let entries = c.as_slice-entries.result.now in
    let item : ℕ × Txn = c.loop-number-item.result in
    ap (map of_order) c.in_ok-push.ensures.items
    ∙ map-append of_order c.loop-number.order.items ((to_z w32 (of_z w32 c.number.result), item.0) ∷ [])
    ∙ ap (λ (l : List ℕ). l ++ item.0 ∷ []) c.loop-number.invariant
    ∙ sym (map-append of_table (take i entries) (item ∷ []))
    ∙ ap (map of_table) (take-item entries i item c.loop-number-test.true c.loop-number-item.is)

pub returns : goal.returns
returns c =
    let entries = c.as_slice-entries.result.now in
    names_all c.loop-number.order.items c.sort_unstable.new.self.items c.args.transactions.now.entries
    (c.loop-number.invariant
    ∙ ap (map of_table) (take_all c.loop-number.number-index entries c.loop-number-test.false
    ∙ c.as_slice-entries.ensures.entries))
    c.sort_unstable.ensures.permutation

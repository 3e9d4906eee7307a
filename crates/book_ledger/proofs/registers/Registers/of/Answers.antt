use Rattle.std.proofs.Common.{ℕ, ℤ, List, [], ap, sym, ◌∙◌, subst}
use Rattle.book_ledger.specs.Page.{Page}
use Rattle.book_undo.specs.Book.{book_of}
use Rattle.book_ledger.specs.Ledger.{rows_at}
use Rattle.book_ledger.specs.Counts.{CountsFrom}
use Rattle.book_ledger.specs.Opening.{HaveNoRows, NamesAll}
use Rattle.book_ledger.proofs.EditLemmas.{kept_of_held}
use Rattle.book_ledger.proofs.OpeningLemmas.{counts_extended, counts_none, held_added, new_of}
use Rattle.book_ledger.proofs.registers.Registers.of.Goals as goal

pub returns-clause-kept : goal.returns-clause-kept
returns-clause-kept c =
    let ts = c.args.plain.now.transactions.entries in
    let order = c.as_slice.result.now in
    let begun = c.begin_all.new.self.entries in
    let new = c.add_all.new.self.entries in
    let names : NamesAll order ts =
    subst (λ (l : List (ℤ × ℕ)). NamesAll l ts) (sym c.as_slice.ensures.value) c.in_ok-order.ensures in
    kept_of_held new (book_of c.args.plain.now) c.len.ensures.rises c.in_order.ensures.sorted
    (held_added ts order begun new names
    (λ account. c.begin_all.ensures.extends.rows account
    ∙ ap (λ (l : List (ℕ × Page)). rows_at account l) c.new-registers.ensures) c.in_ok-add_all.ensures.rows)
    (λ account live. c.add_all.ensures.kept account (c.in_ok-begin_all.ensures.there.each account live))

pub returns-clause-new : goal.returns-clause-new
returns-clause-new c =
    let ts = c.args.plain.now.transactions.entries in
    let begun = c.begin_all.new.self.entries in
    let names : NamesAll c.as_slice.result.now ts =
    subst (λ (l : List (ℤ × ℕ)). NamesAll l ts) (sym c.as_slice.ensures.value) c.in_ok-order.ensures in
    let empty = subst (λ (l : List (ℕ × Page)). CountsFrom [] l) (sym c.new-registers.ensures) counts_none in
    let none : HaveNoRows begun = λ account.
    c.begin_all.ensures.extends.rows account
    ∙ ap (λ (l : List (ℕ × Page)). rows_at account l) c.new-registers.ensures in
    new_of c.add_all.new.self.entries
    (c.in_ok-add_all.ensures.counts (names.once c.len.ensures.rises) none
    (counts_extended [] _ begun c.begin_all.ensures.extends empty))

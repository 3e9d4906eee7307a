use Rattle.std.proofs.Common.{ℕ, Option, sym, subst}
use Rattle.book_register.specs.declared.entry.Entry.{Entry}
use Rattle.book_ledger.specs.Counts.{CountsFrom, HasRow}
use Rattle.book_ledger.proofs.CountsLemmas.{counts_taken}
use Rattle.book_ledger.proofs.TableLemmas.{replaced_by}
use Rattle.book_ledger.proofs.registers.Registers.take.Goals as goal

pub returns-clause-changes : goal.returns-clause-changes
returns-clause-changes c = λ first.
    let account = c.in-Some.account in
    let old = c.args.self.now.entries in
    let new = c.give_back.new.self.entries in
    let page = c.take.new.self in
    let Counted : Option (ℕ × Entry) → Type 0 = λ row.
    HasRow row first → HasRow row old → CountsFrom first old → CountsFrom first new in
    subst Counted (sym c.in-Some.is)
    (counts_taken account c.in-Some.row page c.in-Some-lend.page first old new
    (replaced_by account page old c.lend.new.self.entries new c.lend.ensures.beside c.give_back.ensures)
    (sym c.in-Some-lend.ensures.page) c.take.ensures.differing c.take.ensures.changes c.take.ensures.left
    c.take.ensures.work)

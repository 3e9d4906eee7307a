use Rattle.std.proofs.Common.{ap, sym, ◌∙◌, subst}
use Rattle.std.specs.Option.{option_copied}
use Rattle.book_undo.specs.Book.{with_thing}
use Rattle.book_undo.specs.declared.thing.Thing.{Thing}
use Rattle.book_ledger.specs.Change.{Holds}
use Rattle.book_ledger.specs.Room.{is_txn}
use Rattle.book_ledger.proofs.ChangeLemmas.{held_with}
use Rattle.book_ledger.proofs.CountsLemmas.{rows_held}
use Rattle.book_ledger.proofs.registers.Registers.follow_put.Goals as goal

pub returns-in-Txn-clause-rows : goal.returns-in-Txn-clause-rows
returns-in-Txn-clause-rows c = λ now rises once holds.
    let number = c.args.number in
    let after = c.change.new.self.entries in
    subst (λ (thing : Thing). Holds after (with_thing number thing now).transactions) (sym c.in-Txn.is)
    (held_with number (option_copied c.find.result) c.in-Txn.new c.args.self.now.entries after now.transactions
    c.change.ensures.rows holds (once.0 (ap is_txn c.in-Txn.is) ∙ sym c.find.ensures))

pub returns-in-Txn-clause-changes : goal.returns-in-Txn-clause-changes
returns-in-Txn-clause-changes c = λ first now rises once there here.
    let number = c.args.number in
    let old = option_copied c.find.result in
    let found = once.0 (ap is_txn c.in-Txn.is) ∙ sym c.find.ensures in
    c.change.ensures.changes first
    (rows_held number old first c.args.transactions.now.entries there (sym c.find.ensures))
    (rows_held number old c.args.self.now.entries now.transactions here found)

use Rattle.std.specs.Option.{option_copied}
use Rattle.book_ledger.proofs.ChangeLemmas.{changed_by}
use Rattle.book_ledger.proofs.CountsLemmas.{freed}
use Rattle.book_ledger.proofs.registers.Registers.change.Goals as goal

pub returns-clause-rows : goal.returns-clause-rows
returns-clause-rows c =
    changed_by c.args.number (option_copied c.args.old) (option_copied c.args.new) c.args.self.now.entries
    c.take_out.new.self.entries c.put_in.new.self.entries c.take_out.ensures.rows c.put_in.ensures.rows

pub returns-clause-changes : goal.returns-clause-changes
returns-clause-changes c = λ first there here counts.
    c.put_in.ensures.changes first there
    (freed c.args.number (option_copied c.args.old) (option_copied c.args.new) c.args.self.now.entries
    c.take_out.new.self.entries here c.take_out.ensures.rows) (c.take_out.ensures.changes first there here counts)

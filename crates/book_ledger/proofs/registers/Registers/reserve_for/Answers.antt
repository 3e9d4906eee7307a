use Rattle.std.proofs.Common.{ℕ, List, [], subst}
use Rattle.book_undo.specs.Edit.{leaves}
use Rattle.book_ledger.specs.Room.{AreMade, IsCounted}
use Rattle.book_ledger.proofs.CountLemmas.{on_ok_then, ready_made}
use Rattle.book_ledger.proofs.registers.Registers.reserve_for.Goals as goal

pub returns-clause-ready : goal.returns-clause-ready
returns-clause-ready c =
    let changes = leaves c.args.edit.now in
    let counts = c.count.new.self.counts.entries in
    let count : IsCounted changes [] counts =
    subst (λ (l : List (ℕ × ℕ)). IsCounted changes l counts) c.none-wants.ensures c.in_ok-count.ensures in
    on_ok_then c.make_all.result c.make_all.ensures.made (λ made.
    ready_made c.make_all.new.self.entries counts changes count
    (subst (λ (l : List (ℕ × ℕ)). AreMade c.make_all.new.self.entries l) c.as_slice.ensures made))

use Rattle.std.proofs.Common.{◌≡◌, ℤ, ◌+ℤ◌, ap, rules}
use Rattle.book_commodity.specs.Table.{with_entry}
use Rattle.book_balances.proofs.MoveLemmas.{moved_by}
use Rattle.book_balances.proofs.moves.Moves.add.Goals as goal

pub returns : goal.returns
returns c =
    let old = c.args.self.now.sums.entries in
    let sum = c.to.result +ℤ c.args.quantity in
    let put : c.put.new.self.entries ≡ with_entry c.args.account sum old = search rules in
    moved_by c.args.account c.args.quantity sum old c.put.new.self.entries put
    (ap (λ (z : ℤ). z +ℤ c.args.quantity) c.to.ensures)

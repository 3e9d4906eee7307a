use Rattle.std.proofs.Common.{ℕ, ap, sym, ◌∙◌, subst}
use Rattle.book_commodity.specs.Table.{Entries, with_entry}
use Rattle.book_commodity.proofs.DrawnLemmas.{all_with}
use Rattle.book_register.specs.Register.{IsSorted}
use Rattle.book_ledger.specs.Page.{Page}
use Rattle.book_ledger.specs.Room.{AreSorted}
use Rattle.book_ledger.proofs.CountsLemmas.{bounded_with}
use Rattle.book_ledger.proofs.TableLemmas.{with_replaced}
use Rattle.book_ledger.proofs.registers.Registers.give_back.Goals as goal

pub invariant_of-self : goal.invariant_of-self
invariant_of-self c = (
  subst AreSorted (sym c.put.ensures.entries)
      (all_with (λ (entry : ℕ × Page). IsSorted entry.1.rows) c.args.account c.args.page
      c.self.inside.registers.entries c.in_order.ensures.sorted c.self.invariant.0),
  bounded_with c.args.account c.args.page c.self.inside.registers.entries c.put.new.self.entries
      c.put.ensures.entries c.in_order.ensures.bounded c.self.invariant.1,
)

pub returns : goal.returns
returns c =
    with_replaced c.args.account c.args.page c.args.self.now.entries c.put.new.self.entries
    (c.put.ensures.entries
    ∙ ap (λ (v : Entries Page). with_entry c.args.account c.args.page v.entries) c.self.view_is)

use Rattle.std.proofs.Common.{◌≡◌, ℕ, Option, Some, None, Bor, true, is_some, refl, ap, sym, ◌∙◌, subst, arith}
use Rattle.std.specs.Option.{option_copied}
use Rattle.book_commodity.specs.Table.{Entries, value_of, with_entry}
use Rattle.book_commodity.proofs.DrawnLemmas.{all_with}
use Rattle.book_register.specs.Register.{IsSorted}
use Rattle.book_ledger.specs.Page.{Page}
use Rattle.book_ledger.specs.Room.{AreSorted}
use Rattle.book_ledger.proofs.CountsLemmas.{bounded_with}
use Rattle.book_ledger.proofs.TableLemmas.{lent_beside}
use Rattle.book_ledger.proofs.registers.Registers.lend.Goals as goal

pub invariant_of-self : goal.invariant_of-self
invariant_of-self c = (
  subst AreSorted (sym c.put.ensures.entries)
      (all_with (λ (entry : ℕ × Page). IsSorted entry.1.rows) c.args.account c.new.result
      c.self.inside.registers.entries (subst IsSorted (sym c.new.ensures.rows) tt) c.self.invariant.0),
  bounded_with c.args.account c.new.result c.self.inside.registers.entries c.put.new.self.entries
      c.put.ensures.entries (omega (arith, c.new.ensures.changes)) c.self.invariant.1,
)

copied_there : (o : Option (Bor Page)) → is_some (option_copied o) ≡ is_some o
copied_there None = refl
copied_there (Some x) = refl

pub returns-clause-beside : goal.returns-clause-beside
returns-clause-beside c =
    let there : is_some (value_of c.args.account c.self.inside.registers.entries) ≡ true =
    ap is_some (sym c.find.ensures) ∙ copied_there c.find.result ∙ c.if-is_none.ensures in
    lent_beside c.args.account c.new.result c.args.self.now.entries c.put.new.self.entries
    (c.put.ensures.entries
    ∙ ap (λ (v : Entries Page). with_entry c.args.account c.new.result v.entries) c.self.view_is)
    (ap (λ (v : Entries Page). is_some (value_of c.args.account v.entries)) (sym c.self.view_is) ∙ there)

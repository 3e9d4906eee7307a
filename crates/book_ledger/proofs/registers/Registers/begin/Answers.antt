use Rattle.std.proofs.Common.{◌≡◌, ℕ, List, Option, Some, None, Bor, false, is_some, refl, ap, sym, ◌∙◌, subst, arith}
use Rattle.std.specs.Option.{option_copied}
use Rattle.book_commodity.specs.Table.{Entries, value_of, with_entry}
use Rattle.book_commodity.proofs.DrawnLemmas.{all_with}
use Rattle.book_register.specs.Register.{IsSorted}
use Rattle.book_ledger.specs.Page.{Page}
use Rattle.book_ledger.specs.Room.{AreSorted}
use Rattle.book_ledger.proofs.CountsLemmas.{bounded_with}
use Rattle.book_ledger.proofs.ExtendLemmas.{begun_there, extends_begun}
use Rattle.book_ledger.proofs.registers.Registers.begin.Goals as goal

pub invariant_of-self-2 : goal.invariant_of-self-2
invariant_of-self-2 c =
    let entries = c.put.ensures.entries
    ∙ ap (λ (l : List (ℕ × Page)). with_entry c.args.account c.new.result l) c.reserve.ensures.entries in (
      subst AreSorted (sym entries)
          (all_with (λ (entry : ℕ × Page). IsSorted entry.1.rows) c.args.account c.new.result
          c.self.inside.registers.entries (subst IsSorted (sym c.new.ensures.rows) tt) c.self.invariant.0),
      bounded_with c.args.account c.new.result c.self.inside.registers.entries c.put.new.self.entries entries
          (omega (arith, c.new.ensures.changes)) c.self.invariant.1,
    )

pub returns-clause-there : goal.returns-clause-there
returns-clause-there c =
    begun_there c.args.account c.new.result c.reserve.new.self.entries c.put.new.self.entries c.put.ensures.entries

copied_none : (o : Option (Bor Page)) → is_some o ≡ false → option_copied o ≡ None
copied_none None is = refl
copied_none (Some x) is = absurd cc

pub returns-clause-extends : goal.returns-clause-extends
returns-clause-extends c =
    let none : value_of c.args.account c.args.self.now.entries ≡ None =
    ap (λ (v : Entries Page). value_of c.args.account v.entries) (sym c.self.view_is) ∙ sym c.find.ensures
    ∙ copied_none c.find.result (sym c.if-is_some.ensures) in
    extends_begun c.args.account c.new.result c.args.self.now.entries c.put.new.self.entries
    (c.put.ensures.entries
    ∙ ap (λ (l : List (ℕ × Page)). with_entry c.args.account c.new.result l) c.reserve.ensures.entries
    ∙ ap (λ (v : Entries Page). with_entry c.args.account c.new.result v.entries) c.self.view_is)
    none c.new.ensures.rows c.new.ensures.changes c.new.ensures.reckoned c.new.ensures.work

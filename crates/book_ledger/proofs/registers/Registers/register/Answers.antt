use Rattle.std.proofs.Common.{◌≡◌, ℕ, List, Option, Some, None, Bor, is_some, option_map, refl, ap, sym, ◌∙◌}
use Rattle.std.specs.Option.{option_copied}
use Rattle.book_accounts.specs.declared.account.Account.{Account}
use Rattle.book_commodity.specs.Table.{value_of}
use Rattle.book_ledger.specs.Page.{Page, register_on}
use Rattle.book_register.specs.Register.{Rows}
use Rattle.book_ledger.proofs.RegisterLemmas.{kept_live, not_live}
use Rattle.book_ledger.proofs.registers.Registers.register.Goals as goal

copied_is : (o : Option (Bor Account)) → is_some (option_copied o) ≡ is_some o
copied_is None = refl
copied_is (Some x) = refl

pub returns-then-is_none : goal.returns-then-is_none
returns-then-is_none c = λ book kept same.
    not_live book c.args.account
    (ap (λ (l : List (ℕ × Account)). is_some (value_of c.args.account l)) (sym same)
    ∙ ap is_some (sym c.find.ensures) ∙ copied_is c.find.result ∙ c.if-is_none.ensures)

-- the rows are those of the page
rows_on : (o : Option Page)
    → option_map (λ (r : Rows). r.rows) (option_map register_on o) ≡ option_map (λ (p : Page). p.rows) o
rows_on None = refl
rows_on (Some page) = refl

pub returns : goal.returns
returns c = λ book kept same.
    ap (option_map (λ (r : Rows). r.rows)) c.kept.ensures
    ∙ rows_on (value_of c.args.account c.args.self.now.entries)
    ∙ kept_live c.args.self.now.entries book c.args.account kept
    (ap (λ (l : List (ℕ × Account)). is_some (value_of c.args.account l)) (sym same)
    ∙ ap is_some (sym c.find.ensures) ∙ copied_is c.find.result ∙ c.if-is_none.ensures)

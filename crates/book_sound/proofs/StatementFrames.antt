-- What the rules of statements, bindings and reconciliations see of the accounts: those that they name.
use Rattle.std.proofs.Common.{◌≡◌, ℕ, not, true, List, Option, Some, None, IsTrue, ap, eq-eqb, refl, ◌∙◌}
use Rattle.std.proofs.lemmas.Bool.{not-true}
use Rattle.book_commodity.specs.Rules.{IsSoundTable}
use Rattle.book_commodity.specs.Table.{value_of}
use Rattle.book_accounts.specs.declared.account.Account.{Account}
use Rattle.book_splits.specs.declared.reconciliation.Recon.{Recon}
use Rattle.book_splits.proofs.TransactionRuleLemmas.{Suits}
use Rattle.book_statement.specs.declared.binding.Binding.{Binding}
use Rattle.book_statement.specs.declared.held.Held.{Held}
use Rattle.book_sound.specs.BindingRules.{binding_rules, takes_splits}
use Rattle.book_sound.specs.Naming.{binding_names, has_thing, reconciliation_names, statement_names}
use Rattle.book_sound.specs.ReconciliationRules.{reconciliation_rules}
use Rattle.book_sound.specs.StatementRules.{statement_rules}
use Rattle.book_sound.proofs.TableFrames.{has_that, live_still, sound_still}

-- Statements stay sound where their accounts are still there.
pub statements_on :
    (old new : List (ℕ × Account)) (most : ℕ) (statements : List (ℕ × Held))
    → ((account : ℕ) → has_thing (statement_names account) statements ≡ true
    → Suits (value_of account old) (value_of account new))
    → IsSoundTable (statement_rules old statements) most statements
    → IsSoundTable (statement_rules new statements) most statements
statements_on old new most statements suits =
    sound_still (statement_rules old statements) (statement_rules new statements) most statements
    (λ k statement there kept.
    let account = statement.account in
    let named = has_that (statement_names account) k statement statements there (eq-eqb account account refl) in
    (live_still (value_of account old) (value_of account new) (suits account named) kept.0, kept.1))

-- Reconciliations stay sound where their accounts are still there.
pub reconciliations_on :
    (old new : List (ℕ × Account)) (most : ℕ) (reconciliations : List (ℕ × Recon))
    → ((account : ℕ) → has_thing (reconciliation_names account) reconciliations ≡ true
    → Suits (value_of account old) (value_of account new))
    → IsSoundTable (reconciliation_rules old) most reconciliations
    → IsSoundTable (reconciliation_rules new) most reconciliations
reconciliations_on old new most reconciliations suits =
    sound_still (reconciliation_rules old) (reconciliation_rules new) most reconciliations
    (λ k reconciliation there kept.
    let account = reconciliation.account in
    let named = has_that (reconciliation_names account) k reconciliation reconciliations there
    (eq-eqb account account refl) in
    (live_still (value_of account old) (value_of account new) (suits account named) kept.0, kept.1))

-- an account that takes splits still does where it is suited
takes_still :
    (found later : Option Account) → Suits found later → IsTrue (takes_splits found) → IsTrue (takes_splits later)
takes_still None later suits takes = absurd cc
takes_still (Some old) later suits takes =
    let new = suits.each old refl in
    let still = new.2.placeholder (not-true old.placeholder takes) in
    ap takes_splits new.1 ∙ ap not still

-- Bindings stay sound where their accounts take splits as before.
pub bindings_on :
    (old new : List (ℕ × Account)) (most : ℕ) (bindings : List (ℕ × Binding))
    → ((account : ℕ) → has_thing (binding_names account) bindings ≡ true
    → Suits (value_of account old) (value_of account new))
    → IsSoundTable (binding_rules old bindings) most bindings
    → IsSoundTable (binding_rules new bindings) most bindings
bindings_on old new most bindings suits =
    sound_still (binding_rules old bindings) (binding_rules new bindings) most bindings
    (λ k binding there kept.
    let account = binding.account in
    let named = has_that (binding_names account) k binding bindings there (eq-eqb account account refl) in
    (kept.0, (takes_still (value_of account old) (value_of account new) (suits account named) kept.1.0, tt)))

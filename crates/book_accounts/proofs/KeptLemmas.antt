-- Where the rules of the tree are kept, all accounts keep their rules after the change.
use Rattle.std.proofs.Common.{◌≡◌, ℕ, List, [], Option, Some, None, Result, Ok, Err, OnOk, refl, sym, subst}
use Rattle.book_commodity.specs.Table.{Rises, value_of}
use Rattle.book_commodity.proofs.ListLemmas.{mapped_some}
use Rattle.book_accounts.specs.Rules.{Reports, add_rule, move_rule}
use Rattle.book_accounts.specs.Soundness.{CanBeAdded, CanBeMoved, CanBeTaken}
use Rattle.book_accounts.specs.Tree.{children_of}
use Rattle.book_accounts.specs.declared.account.Account.{Account}
use Rattle.book_accounts.specs.declared.rule.TreeRule.{TreeRule}
use Rattle.book_accounts.proofs.AccountFitLemmas.{fit_added, fit_moved}
use Rattle.book_accounts.proofs.AccountRuleLemmas.{accounts_with, accounts_without, root_stays_without}
use Rattle.book_accounts.proofs.RootLemmas.{rooted_of}

-- where a check answers Ok, its rule is kept
pub on_kept :
    {T : Type 0} (P : Type 0) (rule : Option TreeRule) (r : Result T TreeRule) → Reports rule r → (rule ≡ None → P)
    → OnOk r P
on_kept P rule (Ok x) answer go = go answer
on_kept P rule (Err broken) answer go = tt

pub kept_added :
    (tree : List (ℕ × Account)) (new : Account) → Rises tree → add_rule tree new ≡ None → CanBeAdded tree new
kept_added tree new r rule commodities number free fits keep =
    accounts_with commodities tree number new r
    (fit_added commodities tree number new new.parent fits.commodity fits.basis (rooted_of commodities tree r keep)
    free refl rule) keep

pub kept_moved :
    (tree : List (ℕ × Account)) (number : ℕ) (name : List ℕ) (parent : ℕ) → Rises tree
    → move_rule tree number name parent ≡ None → CanBeMoved tree number name parent
kept_moved tree number name parent r rule commodities new moved fits keep =
    let old = mapped_some (λ (a : Account). a.kind) (value_of number tree) new.kind moved.same_kind in
    let named : move_rule tree number new.name parent ≡ None =
    subst (λ (text : List ℕ). move_rule tree number text parent ≡ None) (sym moved.named) rule in
    accounts_with commodities tree number new r
    (fit_moved commodities tree number old.0 new parent old.1 old.2 fits.commodity fits.basis r
    (rooted_of commodities tree r keep) moved.under named) keep

pub kept_taken :
    (tree : List (ℕ × Account)) (number : ℕ) → Rises tree → children_of tree (Some number) ≡ []
    → CanBeTaken tree number
kept_taken tree number r none commodities old there other keep =
    accounts_without commodities tree number r (rooted_of commodities tree r keep)
    (root_stays_without tree number old there other) none keep

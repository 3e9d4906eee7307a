-- The rules of an account, as a walk asks them.
use Rattle.std.proofs.Common.{◌≡◌, ℕ, suc, ◌+◌, ◌-◌, ◌<◌, ◌≤◌, not, Bool, true, false, ◌&&◌, ◌||◌, List, [], ◌∷◌}
use Rattle.std.proofs.Common.{length, nat_eq, Option, Some, is_some, option_map, slice_get, refl, sym, ap, ◌∙◌, arith}
use Rattle.std.specs.List.{list_any}
use Rattle.std.specs.Option.{option_eq}
use Rattle.book_commodity.specs.Rules.{stands_before}
use Rattle.book_commodity.specs.Table.{value_of}
use Rattle.book_commodity.specs.declared.commodity.Commodity.{Commodity}
use Rattle.book_accounts.specs.AccountRules.{account_rules, fits_basis, fits_parent, has_parent_unless_root}
use Rattle.book_accounts.specs.AccountRules.{has_same_name, is_placeholder_if_root, is_root_if_of_kind, leads_to_root}
use Rattle.book_accounts.specs.AccountRules.{is_root_number, root_of}
use Rattle.book_accounts.specs.Group.{is_security}
use Rattle.book_accounts.specs.Tree.{followed_up, nearest_parents, parent_of}
use Rattle.book_accounts.specs.declared.account.Account.{Account}
use Rattle.book_check.specs.AccountTests.{is_under_root, is_whole}
use Rattle.book_check.specs.FirstUnsound.{all_hold}

-- the nearest parents, where the nearest is followed
pub parents_from :
    (tree : List (ℕ × Account)) (step number : ℕ) → step < length tree
    → nearest_parents (length tree - step) tree number
    ≡ followed_up (parent_of tree number) (nearest_parents (length tree - (step + 1)) tree)
unfolding nearest_parents
parents_from tree step number below =
    let next : length tree - step ≡ suc (length tree - (step + 1)) = omega arith in
    ap (λ most. nearest_parents most tree number) next

pub parents_end :
    (tree : List (ℕ × Account)) (step number : ℕ) → length tree ≤ step
    → nearest_parents (length tree - step) tree number ≡ []
unfolding nearest_parents
parents_end tree step number past =
    let none : length tree - step ≡ 0 = omega arith in ap (λ most. nearest_parents most tree number) none

-- an account on the way up is the root, or isn't
pub at_root :
    (es : List (ℕ × Account)) (root : Option ℕ) (current step : ℕ) (at : Bool) → root ≡ root_of es
    → at ≡ option_eq nat_eq root (Some current)
    → list_any (is_root_number es) (current ∷ nearest_parents (length es - step) es current)
    ≡ (at || list_any (is_root_number es) (nearest_parents (length es - step) es current))
at_root es root current step at is asked =
    let same : at ≡ is_root_number es current =
    asked ∙ ap (λ (r : Option ℕ). option_eq nat_eq r (Some current)) is in
    ap (λ b. b || list_any (is_root_number es) (nearest_parents (length es - step) es current)) (sym same)

-- where it isn't, those from its parent on are asked
pub above_asked :
    (es : List (ℕ × Account)) (root : Option ℕ) (current step : ℕ) (at : Bool) (above : Option ℕ) → root ≡ root_of es
    → at ≡ option_eq nat_eq root (Some current) → at ≡ false → step < length es → above ≡ parent_of es current
    → list_any (is_root_number es) (current ∷ nearest_parents (length es - step) es current)
    ≡ list_any (is_root_number es) (followed_up above (nearest_parents (length es - (step + 1)) es))
above_asked es root current step at above is asked fails below parent =
    at_root es root current step at is asked
    ∙ ap (λ b. b || list_any (is_root_number es) (nearest_parents (length es - step) es current)) fails
    ∙ ap (list_any (is_root_number es)) (parents_from es step current below
    ∙ ap (λ (o : Option ℕ). followed_up o (nearest_parents (length es - (step + 1)) es)) (sym parent))

regrouped :
    (a b c d e f s g : Bool)
    → (a && (b && (c && (d && (e && (f && (not s && (g && true)))))))) ≡ (((a && (b && (c && (d && true))))
    && (e && (f && (g && true)))) && not s)
regrouped false b c d e f s g = refl
regrouped true false c d e f s g = refl
regrouped true true false d e f s g = refl
regrouped true true true false e f s g = refl
regrouped true true true true false f s g = refl
regrouped true true true true true false s g = refl
regrouped true true true true true true true true = refl
regrouped true true true true true true true false = refl
regrouped true true true true true true false true = refl
regrouped true true true true true true false false = refl

-- the rules of an account, as a walk asks them: what it has and where it stands, and then whether it was seen
pub account_asked :
    (commodities : List (ℕ × Commodity)) (es : List (ℕ × Account)) (i n m : ℕ) (account : Account) (kept : Bool)
    → kept ≡ (is_whole commodities account && is_under_root es m account)
    → option_map (λ e. e.0) (slice_get es i) ≡ Some m → slice_get es i ≡ Some (n, account)
    → all_hold (account_rules commodities es n account)
    ≡ (kept && not (stands_before (has_same_name account) n es))
account_asked commodities es i n m account kept is number there =
    let same : Some m ≡ Some n = sym number ∙ ap (option_map (λ (e : ℕ × Account). e.0)) there in
    let here : m ≡ n = cc in
    regrouped (is_some (value_of account.commodity commodities))
    (fits_basis commodities (is_security account.kind) account.basis) (has_parent_unless_root account)
    (is_placeholder_if_root account) (is_root_if_of_kind es n account) (fits_parent es account.kind account.parent)
    (stands_before (has_same_name account) n es) (leads_to_root es n)
    ∙ ap (λ b. b && not (stands_before (has_same_name account) n es))
    (sym (is ∙ ap (λ (k : ℕ). is_whole commodities account && is_under_root es k account) here))

-- The definitions, computed on a small tree: Root over Assets and Income, Cash and Bank under Assets, Safe under Cash.
use Rattle.std.specs.Prelude.{◌≡◌, ℕ, false, List, [], ◌∷◌, codes, Option, Some, None, refl}
use Rattle.book_accounts.specs.Order.{with_generations, depth_first}
use Rattle.book_accounts.specs.Path.{path}
use Rattle.book_accounts.specs.Rules.{add_rule, move_rule}
use Rattle.book_accounts.specs.Tree.{nearest_parents, ancestors, children_of}
use Rattle.book_accounts.specs.declared.account.Account.{Account}
use Rattle.book_accounts.specs.declared.kind.AccountKind.{AccountKind}
use Rattle.book_accounts.specs.declared.kind.AccountKind.TheVariants.{Root, Asset, Bank, Cash, Income}
use Rattle.book_accounts.specs.declared.rule.TreeRule.TheVariants.{UnknownAccount, NameTaken, Cycle, ParentKind}

abbrev pub account : List ℕ → AccountKind → Option ℕ → Account
account name kind parent = record {
  name = name;
  kind = kind;
  commodity = 1;
  parent = parent;
  code = [];
  note = [];
  hidden = false;
  placeholder = false;
  basis = None;
}

abbrev pub tree : List (ℕ × Account)
tree =
    (2, account (codes "Root") Root None) ∷ (4, account (codes "Safe") Cash (Some 7))
    ∷ (5, account (codes "Income") Income (Some 2))
    ∷ (6, account (codes "Assets") Asset (Some 2)) ∷ (7, account (codes "Cash") Cash (Some 6))
    ∷ (9, account (codes "Bank") Bank (Some 6)) ∷ []

above_safe : ancestors tree 4 ≡ 7 ∷ 6 ∷ 2 ∷ []
unfolding nearest_parents
above_safe = refl

under_assets : children_of tree (Some 6) ≡ 7 ∷ 9 ∷ []
under_assets = refl

safe_path : path tree 4 ≡ codes "Assets:Cash:Safe"
unfolding nearest_parents
safe_path = refl

root_path : path tree 2 ≡ []
unfolding nearest_parents
root_path = refl

in_order : depth_first tree ≡ 2 ∷ 5 ∷ 6 ∷ 7 ∷ 4 ∷ 9 ∷ []
unfolding with_generations
in_order = refl

add_fits : add_rule tree (account (codes "Giro") Bank (Some 6)) ≡ None
add_fits = refl

add_unknown : add_rule tree (account (codes "Bank") Income (Some 3)) ≡ Some (UnknownAccount 3)
add_unknown = refl

add_taken : add_rule tree (account (codes "Bank") Income (Some 6)) ≡ Some (NameTaken 9)
add_taken = refl

add_kind : add_rule tree (account (codes "Wages") Income (Some 6)) ≡ Some ParentKind
add_kind = refl

add_top : add_rule tree (account (codes "Root") Root None) ≡ Some ParentKind
add_top = refl

add_root : add_rule tree (account (codes "Other") Root (Some 2)) ≡ Some ParentKind
add_root = refl

-- an account may keep its own name
move_stays : move_rule tree 9 (codes "Bank") 6 ≡ None
unfolding nearest_parents
move_stays = refl

move_unknown : move_rule tree 3 (codes "Bank") 8 ≡ Some (UnknownAccount 3)
unfolding nearest_parents
move_unknown = refl

move_taken : move_rule tree 9 (codes "Cash") 6 ≡ Some (NameTaken 7)
unfolding nearest_parents
move_taken = refl

-- Safe stands under Assets, two levels down
move_cycle : move_rule tree 6 (codes "Assets") 4 ≡ Some Cycle
unfolding nearest_parents
move_cycle = refl

move_itself : move_rule tree 6 (codes "Assets") 6 ≡ Some Cycle
unfolding nearest_parents
move_itself = refl

move_kind : move_rule tree 5 (codes "Income") 6 ≡ Some ParentKind
unfolding nearest_parents
move_kind = refl

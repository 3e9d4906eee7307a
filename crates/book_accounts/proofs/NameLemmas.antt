-- Where no name is taken, no other account has it.
use Rattle.std.proofs.Common.{◌≡◌, ℕ, ◌==◌, nat_eq, ◌&&◌, not, Bool, true, false, cond, if◌then◌else◌, List, [], ◌∷◌}
use Rattle.std.proofs.Common.{Option, Some, None, option_map, find, refl, sym, ap, ◌∙◌, eq-eqb}
use Rattle.std.specs.Option.{option_eq}
use lib.Pointwise.{pointwise}
use Rattle.std.proofs.lemmas.Bool.{eqb-true}
use Rattle.book_commodity.specs.Table.{value_of}
use Rattle.book_commodity.proofs.ListLemmas.{mapped_none}
use Rattle.book_accounts.specs.Rules.{is_namesake, name_taken}
use Rattle.book_accounts.specs.declared.account.Account.{Account}
use Rattle.book_accounts.specs.declared.rule.TreeRule.TheVariants.{NameTaken}
use Rattle.book_accounts.proofs.TreeLaws.{option_eq-same}

some_same : (a b : Account) → Some a ≡ Some b → a ≡ b
some_same a b e = cc

find_none :
    (test : ℕ × Account → Bool) (tree : List (ℕ × Account)) (n : ℕ) (b : Account) → find test tree ≡ None
    → value_of n tree ≡ Some b → test (n, b) ≡ false
find_none test [] n b e f = absurd cc
find_none test (x ∷ xs) n b e f =
    let Test : Bool → Type 0 = λ t. test x ≡ t → cond t (Some x) (find test xs) ≡ None → test (n, b) ≡ false in
    let Same : Bool → Type 0 = λ t. (n == x.0) ≡ t → (if t then Some x.1 else value_of n xs) ≡ Some b → test x ≡ false
    → find test xs ≡ None → test (n, b) ≡ false in
    elim (test x) as Test [
      | true ↦ λ t found. absurd cc
      | false ↦ λ t rest. elim (n == x.0) as Same [
        | true ↦ λ same value t rest.
            ap (λ (k : ℕ). test (k, b)) (eqb-true n x.0 same) ∙ ap (λ (a : Account). test (x.0, a))
            (sym (some_same x.1 b value)) ∙ t
        | false ↦ λ other value t rest. find_none test xs n b rest value
      ] refl f t rest
    ] refl e

pub pointwise-same : (xs : List ℕ) → pointwise nat_eq xs xs ≡ true
pointwise-same [] = refl
pointwise-same (x ∷ xs) = ap (λ (t : Bool). t && pointwise nat_eq xs xs) (eq-eqb x x refl) ∙ pointwise-same xs

-- where no name is taken, no other account has the parent and the name
pub own_name :
    (tree : List (ℕ × Account)) (apart : Option ℕ) (p : ℕ) (name : List ℕ) → name_taken tree apart p name ≡ None
    → (n : ℕ) (b : Account) → option_eq nat_eq apart (Some n) ≡ false → value_of n tree ≡ Some b → b.parent ≡ Some p
    → b.name ≡ name → ⊥
own_name tree apart p name free n b other value under named =
    let missing : find (is_namesake apart p name) tree ≡ None =
    mapped_none (λ (entry : ℕ × Account). entry.0) (find (is_namesake apart p name) tree)
    (mapped_none (λ id. NameTaken id)
    (option_map (λ (entry : ℕ × Account). entry.0) (find (is_namesake apart p name) tree)) free) in
    let no : is_namesake apart p name (n, b) ≡ false = find_none (is_namesake apart p name) tree n b missing value in
    let yes : is_namesake apart p name (n, b) ≡ true =
    ap (λ (t : Bool). not t && (option_eq nat_eq b.parent (Some p) && pointwise nat_eq b.name name)) other
    ∙ ap (λ (o : Option ℕ). option_eq nat_eq o (Some p) && pointwise nat_eq b.name name) under
    ∙ ap (λ (t : Bool). t && pointwise nat_eq b.name name) (option_eq-same (Some p))
    ∙ ap (λ (l : List ℕ). pointwise nat_eq l name) named
    ∙ pointwise-same name in
    cc

-- An index of children that is filled from the last account of a tree to the first.
use Rattle.std.proofs.Common.{◌≡◌, ℕ, ◌+◌, Bool, true, false, if◌then◌else◌, List, [], ◌∷◌, ◌++◌, reverse, drop, Some}
use Rattle.std.proofs.Common.{option_map, slice_get, nat_eq, refl, sym, ap, ◌∙◌}
use Rattle.std.specs.Option.{option_eq}
use Rattle.std.proofs.lemmas.List.{reverse-append}
use Rattle.book_accounts.specs.Children.{Adds, IsIndexOf, listed}
use Rattle.book_accounts.specs.Tree.{children_of}
use Rattle.book_accounts.specs.declared.account.Account.{Account}
use Rattle.book_accounts.specs.declared.children.Children.{Children}
use Rattle.book_accounts.proofs.RuleLemmas.{children_here, children_skip}

-- one account more, before those that the index has already
pub index_more :
    (tree : List (ℕ × Account)) (i : ℕ) (old new : Children) (number : ℕ) (account : Account)
    → option_map (λ entry. entry.0) (slice_get tree i) ≡ Some number
    → option_map (λ entry. entry.1) (slice_get tree i) ≡ Some account
    → IsIndexOf (drop (i + 1) tree) old → Adds old new account.parent number → IsIndexOf (drop i tree) new
index_more tree i old new number account at_number at_account index adds = record {
  lists = λ parent.
      let P : Bool → Type 0 = λ t. option_eq nat_eq account.parent parent ≡ t
      → (if t then listed old parent ++ number ∷ [] else listed old parent) ≡ reverse
      (children_of (drop i tree) parent) in
      adds.lists parent
      ∙ elim (option_eq nat_eq account.parent parent) as P [
        | true ↦ λ e. ap (λ (l : List ℕ). l ++ number ∷ []) (index.lists parent)
            ∙ sym (reverse-append (number ∷ []) (children_of (drop (i + 1) tree) parent))
            ∙ ap reverse (sym (children_here tree i number parent account at_account at_number e))
        | false ↦ λ e. index.lists parent ∙ ap reverse (sym (children_skip tree i parent account at_account e))
      ] refl;
}

-- The commands on accounts.
use Rattle.std.specs.Prelude.{◌≡◌, ℕ, ◌+◌, nat_lt, not, Bool, true, false, ◌&&◌, ◌||◌, if◌then◌else◌, List, [], ◌∷◌}
use Rattle.std.specs.Prelude.{length, Option, Some, None, is_none, option_map, unwrap_or}
use Rattle.std.specs.Option.{option_or}
use Rattle.std.proofs.Common.{ap}
use Rattle.book_commodity.specs.Decision.{Decision, as_well, both, same_flag, same_option, same_text}
use Rattle.book_commodity.specs.Rules.{broken_where}
use Rattle.book_commodity.specs.Table.{value_of}
use Rattle.book_commodity.specs.declared.commodity.Commodity.{Commodity}
use Rattle.book_commodity.specs.declared.counted.Counted.TheVariants as counted
use Rattle.book_commodity.specs.declared.kind.Kind.TheVariants as kind
pub use Rattle.book_accounts.specs.AccountRules.{fits_basis, is_root}
use Rattle.book_accounts.specs.Group.{is_security}
use Rattle.book_accounts.specs.Rules.{add_rule, move_rule}
use Rattle.book_accounts.specs.Tree.{children_of}
use Rattle.book_accounts.specs.declared.account.Account.{Account}
use Rattle.book_accounts.specs.declared.rule.TreeRule.TheVariants as tree
use Rattle.book_splits.specs.Balance.{has_splits}
use Rattle.book_splits.specs.declared.transaction.Txn.{Txn}
use Rattle.book_undo.specs.Book.{Book, with_thing, without_thing}
use Rattle.book_undo.specs.declared.thing.Thing.TheVariants as thing
use Rattle.book_undo.specs.declared.thing.ThingKind.TheVariants as thing_kind
use Rattle.book_step.specs.Commodities.{unknown_commodity}
use Rattle.book_command.specs.Lifted.{of_tree_rule}
use Rattle.book_step.specs.InUse.{in_use_rules}
use Rattle.book_step.specs.Outcome.{Outcome, Broken, changing, leaving}
use Rattle.book_step.specs.State.{State}
use Rattle.book_command.specs.declared.answer.Answer.TheVariants as answer
use Rattle.book_command.specs.declared.command.GivenAccount.{GivenAccount}
use Rattle.book_command.specs.declared.rule.Rule.{Rule}
use Rattle.book_command.specs.declared.rule.Rule.TheVariants.{Unknown, Root, NotEmpty, BasisShape, Limit}

-- The account isn't one of the book's (GnuCash SQL schema, table accounts: what names an account names one that is
-- there).
abbrev pub unknown_account : List (ℕ × Account) → ℕ → Option Rule
unknown_account accounts number = broken_where (is_none (value_of number accounts)) (Unknown kind.Account number)

-- The same of a number that may be absent.
abbrev pub unknown_given_account : List (ℕ × Account) → Option ℕ → Option Rule
unknown_given_account accounts None = None
unknown_given_account accounts (Some number) = unknown_account accounts number

-- The same of a commodity.
abbrev pub unknown_given_commodity : List (ℕ × Commodity) → Option ℕ → Option Rule
unknown_given_commodity commodities None = None
unknown_given_commodity commodities (Some number) = unknown_commodity commodities number

-- The basis doesn't fit the kind.
abbrev pub basis_shape : List (ℕ × Commodity) → Account → Option Rule
basis_shape commodities account = broken_where
    (not (fits_basis commodities (is_security account.kind) account.basis)) BasisShape

-- A book has at most 10,000 accounts (a limit of this project).
abbrev pub too_many_accounts : List (ℕ × Account) → Option Rule
too_many_accounts accounts = broken_where (nat_lt 10000 (length accounts + 1)) (Limit counted.Accounts 10000)

-- The rules of a new account: its commodity, its parent and its basis are in the book, it may be added to the tree of
-- accounts, its basis fits its kind, and the book has room for it.
abbrev pub add_rules : Book → Account → List (Option Rule)
add_rules book account =
    unknown_commodity book.commodities account.commodity
    ∷ unknown_given_account book.accounts account.parent
    ∷ unknown_given_commodity book.commodities account.basis
    ∷ option_map of_tree_rule (add_rule book.accounts account)
    ∷ basis_shape book.commodities account
    ∷ too_many_accounts book.accounts
    ∷ []

-- A new account, under the next number.
abbrev pub account_add : State → Account → Outcome
account_add state account =
    changing state (add_rules state.book account) (with_thing state.next (thing.Account account) state.book) 1
    (answer.AccountAdd state.next)

-- The root stays as it is (GnuCash SQL schema, table books: a book has one root account for good).
abbrev pub root_stays : Account → Option Rule
root_stays account = broken_where (is_root account.kind) Root

-- The account with what is given in place of what it had.
abbrev pub with_given : Account → GivenAccount → Account
with_given account given = record {
  name = unwrap_or given.name account.name;
  kind = account.kind;
  commodity = account.commodity;
  parent = option_or given.parent account.parent;
  code = unwrap_or given.code account.code;
  note = unwrap_or given.note account.note;
  hidden = unwrap_or given.hidden account.hidden;
  placeholder = unwrap_or given.placeholder account.placeholder;
  basis = account.basis;
}

-- An account has what an edit can give as another has it.
abbrev pub HasSameFields : Account → Account → Type 0
HasSameFields old new =
    (new.name ≡ old.name)
    × ((new.parent ≡ old.parent)
    × ((new.code ≡ old.code) ×
    ((new.note ≡ old.note) × ((new.hidden ≡ old.hidden) × (new.placeholder ≡ old.placeholder)))))

-- Whether it has them.
abbrev pub same_fields : (old new : Account) → Decision (HasSameFields old new)
same_fields old new =
    both (same_text new.name old.name)
    (both (same_option new.parent old.parent)
    (both (same_text new.code old.code)
    (both (same_text new.note old.note)
    (both (same_flag new.hidden old.hidden) (same_flag new.placeholder old.placeholder)))))

-- An account that has the same fields with what is given is the same account.
pub same_account : (old : Account) (given : GivenAccount) → HasSameFields old (with_given old given)
    → with_given old given ≡ old
same_account old given same i = record {
  name = same.0 i;
  kind = old.kind;
  commodity = old.commodity;
  parent = same.1.0 i;
  code = same.1.1.0 i;
  note = same.1.1.1.0 i;
  hidden = same.1.1.1.1.0 i;
  placeholder = same.1.1.1.1.1 i;
  basis = old.basis;
}

-- Whether an account stays as it is with what is given, that is, whether it is the same account with it.
abbrev pub stays : (old : Account) (given : GivenAccount) → Decision (with_given old given ≡ old)
stays old given =
    as_well (same_account old given)
    (λ same. (
      ap (λ a. a.name) same,
      (
        ap (λ a. a.parent) same,
        (ap (λ a. a.code) same, (ap (λ a. a.note) same, (ap (λ a. a.hidden) same, ap (λ a. a.placeholder) same))),
      ),
    ))
    (same_fields old (with_given old given))

-- The rule of the tree that the account breaks with its new name and its new parent.
abbrev pub moved_rule : List (ℕ × Account) → ℕ → Account → Option ℕ → Option Rule
moved_rule accounts number new None = Some (of_tree_rule tree.ParentKind)
moved_rule accounts number new (Some parent) = option_map of_tree_rule (move_rule accounts number new.name parent)

-- Whether an account becomes a placeholder.
abbrev pub becomes_placeholder : Account → Account → Bool
becomes_placeholder old new = not old.placeholder && new.placeholder

-- An account with splits takes splits (GnuCash Concepts Guide, placeholder accounts).
abbrev pub takes_splits : List (ℕ × Txn) → ℕ → Option Rule
takes_splits transactions number = broken_where (has_splits transactions number) (NotEmpty number)

-- The rules of an account that becomes a placeholder: it has no split, and nothing else of the book names it.
abbrev pub placeholder_rules : Bool → Book → ℕ → List (Option Rule)
placeholder_rules true book number = takes_splits book.transactions number ∷ in_use_rules book number
placeholder_rules false book number = []

-- The rules of an edit: the new parent is in the book, the account isn't the root, it may stand in the tree with its
-- new name under its new parent, and it becomes a placeholder only where it isn't in use.
abbrev pub edit_rules : Book → ℕ → Option ℕ → Account → Account → List (Option Rule)
edit_rules book number parent old new =
    unknown_given_account book.accounts parent
    ∷ root_stays old
    ∷ moved_rule book.accounts number new new.parent
    ∷ placeholder_rules (becomes_placeholder old new) book number

-- The edit of an account that is there.
abbrev pub account_edit_of : State → ℕ → GivenAccount → Account → Outcome
account_edit_of state number given old =
    let new = with_given old given in
    let rules = edit_rules state.book number given.parent old new in
    if (stays old given).is then leaving state rules answer.AccountEdit
    else changing state rules (with_thing number (thing.Account new) state.book) 0 answer.AccountEdit

-- The edit of an account, if it is there.
abbrev pub account_edit_at : State → ℕ → GivenAccount → Option Account → Outcome
account_edit_at state number given None = Broken (Unknown kind.Account number)
account_edit_at state number given (Some old) = account_edit_of state number given old

-- An account of the book gets what is given.
abbrev pub account_edit : State → ℕ → GivenAccount → Outcome
account_edit state number given = account_edit_at state number given (value_of number state.book.accounts)

-- An account with another under it, or with a split, can't be deleted (GnuCash Manual, deleting an account: these
-- must be moved first).
abbrev pub not_empty : Book → ℕ → Option Rule
not_empty book number =
    broken_where (nat_lt 0 (length (children_of book.accounts (Some number))) || has_splits book.transactions
    number) (NotEmpty number)

-- The rules of the deletion of an account: it isn't the root, has neither an account under it nor a split, and nothing
-- else of the book names it.
abbrev pub drop_rules : Book → ℕ → Account → List (Option Rule)
drop_rules book number account = root_stays account ∷ not_empty book number ∷ in_use_rules book number

-- The deletion of an account, if it is there.
abbrev pub account_drop_of : State → ℕ → Option Account → Outcome
account_drop_of state number None = Broken (Unknown kind.Account number)
account_drop_of state number (Some account) =
    changing state (drop_rules state.book number account)
    (without_thing thing_kind.Account number state.book) 0 answer.AccountDrop

-- An account of the book is deleted.
abbrev pub account_drop : State → ℕ → Outcome
account_drop state number = account_drop_of state number (value_of number state.book.accounts)

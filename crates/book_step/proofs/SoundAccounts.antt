-- The commands on accounts lead from sound states to sound states: what they put keeps the rules of accounts, since it
-- keeps those of the command.
use Rattle.std.proofs.Common.{◌≡◌, ℕ, ◌+◌, ◌&&◌, ◌||◌, not, nat_lt, Bool, true, false, List, [], ◌∷◌, length}
use Rattle.std.proofs.Common.{find, Option, Some, None, IsTrue, is_some, refl, subst, arith, if◌then◌else◌, option_map}
use Rattle.std.specs.List.{list_any}
use Rattle.std.proofs.lemmas.Bool.{not-false, or_from, or_parts}
use Rattle.std.proofs.lemmas.Bool.Decides.{nat_tests}
use Rattle.std.proofs.lemmas.List.{nil_from_length}
use Rattle.book_commodity.specs.Rules.{AllKept}
use Rattle.book_commodity.specs.declared.kind.Kind.{Kind}
use Rattle.book_commodity.specs.declared.kind.Kind.TheVariants as kind
use Rattle.book_commodity.specs.Table.{value_of, with_entry, without_entry}
use Rattle.book_commodity.proofs.DrawnLemmas.{drawn_free, length_changed, length_drawn, drawn_below}
use Rattle.book_commodity.proofs.ListLemmas.{mapped_none, some_there}
use Rattle.book_commodity.proofs.RuleLemmas.{not-broken}
use Rattle.book_accounts.specs.AccountRules.{fits_basis}
use Rattle.book_accounts.specs.Group.{is_security}
use Rattle.book_accounts.specs.Rules.{add_rule, move_rule}
use Rattle.book_accounts.specs.Tree.{children_of}
use Rattle.book_accounts.specs.declared.account.Account.{Account}
use Rattle.book_accounts.specs.declared.kind.AccountKind.{AccountKind}
use Rattle.book_accounts.proofs.AccountFitLemmas.{fit_added, fit_moved}
use Rattle.book_accounts.proofs.AccountRuleLemmas.{IsFit, by_name}
use Rattle.book_splits.specs.Balance.{has_splits}
use Rattle.book_splits.proofs.TransactionRuleLemmas.{TakesAs}
use Rattle.book_undo.specs.Book.{Book, with_thing, without_thing}
use Rattle.book_command.specs.Lifted.{of_tree_rule}
use Rattle.book_step.specs.Accounts.{add_rules, edit_rules, moved_rule, not_empty, root_stays, account_add}
use Rattle.book_step.specs.Accounts.{account_drop, account_drop_of, account_edit, account_edit_at, account_edit_of}
use Rattle.book_step.specs.Accounts.{stays, with_given, basis_shape, becomes_placeholder, drop_rules, placeholder_rules}
use Rattle.book_step.specs.Accounts.{too_many_accounts}
use Rattle.book_step.specs.Accounts.{unknown_given_account, unknown_given_commodity}
use Rattle.book_step.specs.Commodities.{unknown_commodity}
use Rattle.book_step.specs.Soundness.{IsSoundBook, AreDrawn, IsSound}
use Rattle.book_sound.specs.Naming.{binding_names, has_thing, is_in_use, line_names, reconciliation_names}
use Rattle.book_sound.specs.Naming.{schedule_names, statement_names}
use Rattle.book_sound.proofs.BookFrames.{account_put, account_taken, all_suit_edited, all_suit_with}
use Rattle.book_sound.proofs.DrawnFrames.{account_drawn, account_left_drawn, drawn_later}
use Rattle.book_sound.proofs.SoundFacts.{accounts_are_rooted}
use Rattle.book_undo.specs.declared.thing.Thing.TheVariants as thing
use Rattle.book_undo.specs.declared.thing.ThingKind.TheVariants as thing_kind
use Rattle.book_command.specs.declared.answer.Answer.{Answer}
use Rattle.book_command.specs.declared.answer.Answer.TheVariants as answer
use Rattle.book_command.specs.declared.command.GivenAccount.{GivenAccount}
use Rattle.book_step.specs.InUse.{in_use_by, in_use_rules}
use Rattle.book_step.specs.Outcome.{Done}
use Rattle.book_step.specs.State.{State}
use Rattle.book_step.proofs.SoundOutcome.{changing_done, either_sound, sound_after}

-- What a new account keeps.
record KeepsAdd (book : Book) (new : Account) : Type 0 where
  pub commodity : unknown_commodity book.commodities new.commodity ≡ None
  pub parent : unknown_given_account book.accounts new.parent ≡ None
  pub basis : unknown_given_commodity book.commodities new.basis ≡ None
  pub tree : option_map of_tree_rule (add_rule book.accounts new) ≡ None
  pub shape : basis_shape book.commodities new ≡ None
  pub few : too_many_accounts book.accounts ≡ None

add_keeps : (book : Book) (new : Account) → AllKept (add_rules book new) → KeepsAdd book new
add_keeps book new kept = record {
  commodity = kept.0;
  parent = kept.1.0;
  basis = kept.1.1.0;
  tree = kept.1.1.1.0;
  shape = kept.1.1.1.1.0;
  few = kept.1.1.1.1.1.0;
}

-- What an account keeps that is edited.
record KeepsEdit (book : Book) (n : ℕ) (parent : Option ℕ) (old new : Account) : Type 0 where
  pub parent_there : unknown_given_account book.accounts parent ≡ None
  pub no_root : root_stays old ≡ None
  pub moved : moved_rule book.accounts n new new.parent ≡ None
  pub open_still : AllKept (placeholder_rules (becomes_placeholder old new) book n)

edit_keeps :
    (book : Book) (n : ℕ) (parent : Option ℕ) (old new : Account) → AllKept (edit_rules book n parent old new)
    → KeepsEdit book n parent old new
edit_keeps book n parent old new kept =
    record { parent_there = kept.0; no_root = kept.1.0; moved = kept.1.1.0; open_still = kept.1.1.1 }

-- What an account keeps that is deleted.
record KeepsDrop (book : Book) (n : ℕ) (old : Account) : Type 0 where
  pub no_root : root_stays old ≡ None
  pub empty : not_empty book n ≡ None
  pub unused : AllKept (in_use_rules book n)

drop_keeps :
    (book : Book) (n : ℕ) (old : Account) → AllKept (drop_rules book n old) → KeepsDrop book n old
drop_keeps book n old kept = record { no_root = kept.0; empty = kept.1.0; unused = kept.1.1 }

pub account_added :
    (book : Book) (n : ℕ) (new : Account) → AreDrawn book n → AllKept (add_rules book new) → IsSoundBook book
    → IsSoundBook (record book { accounts = with_entry n new book.accounts })
account_added book n new are kept is =
    let free = drawn_free n book.accounts are.accounts in
    let keeps = add_keeps book new kept in
    let commodity = some_there (value_of new.commodity book.commodities) (not-broken _ _ keeps.commodity) in
    let basis = not-false _ (not-broken _ _ keeps.shape) in
    let few = not-broken _ _ keeps.few in
    let longer = length_drawn n new book.accounts is.accounts.rise are.accounts in
    account_put book n new
    (fit_added book.commodities book.accounts n new new.parent commodity basis (accounts_are_rooted book is) free refl
    (mapped_none of_tree_rule (add_rule book.accounts new) keeps.tree))
    (all_suit_with book n new free)
    (grind (arith, nat_tests, few, longer)) is

-- What stays of an account that is edited.
pub record IsEdited (old new : Account) : Type 0 where
  pub kind : old.kind ≡ new.kind
  pub commodity : old.commodity ≡ new.commodity
  pub basis : old.basis ≡ new.basis

fit_edited :
    (book : Book) (n : ℕ) (old new : Account) (parent : Option ℕ) → value_of n book.accounts ≡ Some old
    → IsEdited old new
    → new.parent ≡ parent → moved_rule book.accounts n new parent ≡ None → IsSoundBook book
    → IsFit book.commodities book.accounts n new
fit_edited book n old new None there edited under e is = absurd cc
fit_edited book n old new (Some p) there edited under e is =
    let had = by_name book.commodities book.accounts n old (is.accounts.keep.each n old there) in
    let Based : AccountKind → Option ℕ → Type 0 =
    λ kind basis. IsTrue (fits_basis book.commodities (is_security kind) basis) in
    fit_moved book.commodities book.accounts n old new p there edited.kind
    (subst (λ (c : ℕ). IsTrue (is_some (value_of c book.commodities))) edited.commodity had.commodity)
    (subst (λ (k : AccountKind). Based k new.basis) edited.kind
    (subst (λ (b : Option ℕ). Based old.kind b) edited.basis had.basis))
    is.accounts.rise (accounts_are_rooted book is) under
    (mapped_none of_tree_rule (move_rule book.accounts n new.name p) e)

-- what is found nowhere names nothing
none_found : {X : Type 0} (p : X → Bool) (xs : List X) → find p xs ≡ None → list_any p xs ≡ false
none_found p [] none = refl
none_found p (x ∷ xs) none =
    let Found : Bool → Type 0 = λ b. (if b then Some x else find p xs) ≡ None → (b || list_any p xs) ≡ false in
    elim (p x) as Found [ true ↦ λ some. absurd cc | false ↦ λ rest. none_found p xs rest ] none

none_names :
    {T : Type 0} (kind : Kind) (names : T → Bool) (es : List (ℕ × T)) → in_use_by kind names es ≡ None
    → has_thing names es ≡ false
none_names {T} kind names es kept =
    none_found (λ (e : ℕ × T). names e.1) es (mapped_none _ (find (λ (e : ℕ × T). names e.1) es) kept)

-- An account without splits that keeps the rules of one to be used no more isn't in use.
unused_of :
    (book : Book) (n : ℕ) → AllKept (in_use_rules book n) → has_splits book.transactions n ≡ false
    → is_in_use book n ≡ false
unused_of book n kept none =
    or_from (has_splits book.transactions n) _ none
    (or_from (has_thing (schedule_names n) book.schedules) _
    (none_names kind.Schedule (schedule_names n) book.schedules kept.0)
    (or_from (has_thing (statement_names n) book.statements) _
    (none_names kind.Statement (statement_names n) book.statements kept.1.0)
    (or_from (has_thing (line_names n) book.lines) _
    (none_names kind.Line (line_names n) book.lines kept.1.1.0)
    (or_from (has_thing (binding_names n) book.bindings) _
    (none_names kind.Binding (binding_names n) book.bindings kept.1.1.1.0)
    (none_names kind.Reconciliation (reconciliation_names n) book.reconciliations kept.1.1.1.1.0)))))

-- an account in use that took splits takes them still
still_open :
    (was will : Bool) (book : Book) (n : ℕ) → AllKept (placeholder_rules (not was && will) book n)
    → is_in_use book n ≡ true → was ≡ false → will ≡ false
still_open false true book n kept used before =
    absurd (let none = unused_of book n kept.1 (not-broken _ _ kept.0) in cc)
still_open false false book n kept used before = refl
still_open true will book n kept used before = absurd cc

pub account_edited :
    (book : Book) (n : ℕ) (parent : Option ℕ) (old new : Account) → value_of n book.accounts ≡ Some old
    → IsEdited old new
    → AllKept (edit_rules book n parent old new) → IsSoundBook book
    → IsSoundBook (record book { accounts = with_entry n new book.accounts })
account_edited book n parent old new there edited kept is =
    let keeps = edit_keeps book n parent old new kept in
    let takes : is_in_use book n ≡ true → TakesAs old new = λ used. record {
      kind = edited.kind;
      commodity = edited.commodity;
      basis = edited.basis;
      placeholder = still_open old.placeholder new.placeholder book n keeps.open_still used;
    } in
    account_put book n new (fit_edited book n old new new.parent there edited refl keeps.moved is)
    (all_suit_edited book n old new there takes)
    (omega (arith, is.accounts.few, length_changed n new old book.accounts is.accounts.rise there)) is

pub account_dropped :
    (book : Book) (n : ℕ) (old : Account) → value_of n book.accounts ≡ Some old
    → AllKept (drop_rules book n old)
    → IsSoundBook book → IsSoundBook (record book { accounts = without_entry n book.accounts })
account_dropped book n old there kept is =
    let keeps = drop_keeps book n old kept in
    let children = children_of book.accounts (Some n) in
    let parts = or_parts (nat_lt 0 (length children)) (has_splits book.transactions n) (not-broken _ _ keeps.empty) in
    let none : length children ≡ 0 = grind (arith, nat_tests, parts.0) in
    account_taken book n old there (not-broken _ _ keeps.no_root) (nil_from_length children none)
    (unused_of book n keeps.unused parts.1) is

pub account_add-sound :
    (state : State) (account : Account) (new : State) (answered : Answer) → IsSound state
    → account_add state account ≡ Done new answered
    → IsSound new
account_add-sound state account new answered is e =
    let book = state.book in
    let new_book = with_thing state.next (thing.Account account) book in
    let reply = answer.AccountAdd state.next in
    let change = changing_done state (add_rules book account) new_book 1 reply new answered e in
    let later = drawn_later book state.next (state.next + 1) (omega arith) is.drawn in
    sound_after state (add_rules book account) new_book 1 new change
    (account_added book state.next account is.drawn change.kept is.book)
    (account_drawn book state.next (state.next + 1) account (omega arith) later)

account_edit_of-sound :
    (state : State) (n : ℕ) (given : GivenAccount) (old : Account) (new : State) (answered : Answer)
    → value_of n state.book.accounts ≡ Some old → IsSound state
    → account_edit_of state n given old ≡ Done new answered → IsSound new
account_edit_of-sound state n given old new answered there is e =
    let book = state.book in
    let account = with_given old given in
    let new_book = with_thing n (thing.Account account) book in
    let rules = edit_rules book n given.parent old account in
    let same : IsEdited old account = record { kind = refl; commodity = refl; basis = refl } in
    either_sound (stays old given).is state new rules new_book 0 answer.AccountEdit answer.AccountEdit answered is
    (λ change.
    let later = drawn_later book state.next (state.next + 0) (omega arith) is.drawn in
    let below = drawn_below n (state.next + 0) old book.accounts later.accounts there in
    sound_after state rules new_book 0 new change
    (account_edited book n given.parent old account there same change.kept is.book)
    (account_drawn book n (state.next + 0) account below later)) e

account_edit_at-sound :
    (state : State) (n : ℕ) (given : GivenAccount) (found : Option Account) (new : State) (answered : Answer)
    → value_of n state.book.accounts ≡ found → IsSound state → account_edit_at state n given found ≡ Done new answered
    → IsSound new
account_edit_at-sound state n given None new answered there is e = absurd cc
account_edit_at-sound state n given (Some old) new answered there is e =
    account_edit_of-sound state n given old new answered there is e

pub account_edit-sound :
    (state : State) (n : ℕ) (given : GivenAccount) (new : State) (answered : Answer) → IsSound state
    → account_edit state n given ≡ Done new answered → IsSound new
account_edit-sound state n given new answered is e =
    account_edit_at-sound state n given (value_of n state.book.accounts) new answered refl is e

account_drop_of-sound :
    (state : State) (n : ℕ) (found : Option Account) (new : State) (answered : Answer)
    → value_of n state.book.accounts ≡ found
    → IsSound state → account_drop_of state n found ≡ Done new answered → IsSound new
account_drop_of-sound state n None new answered there is e = absurd cc
account_drop_of-sound state n (Some old) new answered there is e =
    let book = state.book in
    let left = without_thing thing_kind.Account n book in
    let rules = drop_rules book n old in
    let change = changing_done state rules left 0 answer.AccountDrop new answered e in
    let later = drawn_later book state.next (state.next + 0) (omega arith) is.drawn in
    sound_after state rules left 0 new change (account_dropped book n old there change.kept is.book)
    (account_left_drawn book n (state.next + 0) later)

pub account_drop-sound :
    (state : State) (n : ℕ) (new : State) (answered : Answer) → IsSound state → account_drop state n ≡ Done new answered
    → IsSound new
account_drop-sound state n new answered is e =
    account_drop_of-sound state n (value_of n state.book.accounts) new answered refl is e

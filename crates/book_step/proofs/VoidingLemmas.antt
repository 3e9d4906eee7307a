-- What voiding a transaction and bringing one back come to, and that their edits are exact: the transaction becomes
-- another, since it is voided before or after, and not both.
use Rattle.std.proofs.Common.{◌≡◌, ◌≢◌, ℕ, ◌==◌, Bool, true, false, List, [], ◌∷◌, length, Option, Some, None, is_none}
use Rattle.std.proofs.Common.{option_map, Result, refl, sym, ap, subst, ◌∙◌}
use Rattle.std.specs.Prelude.{IfSome}
use Rattle.std.proofs.lemmas.Bool.{eqb-true}
use Rattle.book_commodity.specs.Rules.{first_broken}
use Rattle.book_commodity.specs.Table.{value_of, with_entry}
use Rattle.book_splits.specs.declared.split.Split.{Split}
use Rattle.book_splits.specs.declared.transaction.Txn.{Txn}
use Rattle.book_splits.specs.declared.void.Void.{Void}
use Rattle.book_void.specs.Voiding.{keeps_as_many, restored, restored_with, voided_for}
use Rattle.book_undo.specs.Book.{Book}
use Rattle.book_undo.specs.Edit.{OfPut, together}
use Rattle.book_undo.specs.Exact.{IsExact}
use Rattle.book_undo.specs.declared.edit.Edit.{Put}
use Rattle.book_undo.specs.declared.thing.Thing.TheVariants as thing
use Rattle.book_undo.proofs.ExactLaws.{exact_put}
use Rattle.book_sound.specs.Dismissal.{dismissing}
use Rattle.book_sound.proofs.DismissalExact.{exact_together}
use Rattle.book_sound.proofs.SoundFacts.{tables_rise}
use Rattle.book_step.specs.Soundness.{IsSound}
use Rattle.book_step.specs.State.{State}

-- ---- the amounts that are kept

each_of : (voided : Option Void) (splits : List Split) → keeps_as_many voided splits ≡ true
    → IfSome voided (λ void. length void.kept ≡ length splits)
each_of None splits keeps = tt
each_of (Some void) splits keeps = eqb-true (length void.kept) (length splits) keeps

-- Of a voided transaction of a sound book the amounts of each split are kept.
pub keeps-each :
    (state : State) (n : ℕ) (t : Txn) → IsSound state → value_of n state.book.transactions ≡ Some t
    → IfSome t.voided (λ void. length void.kept ≡ length t.splits)
keeps-each state n t is there = each_of t.voided t.splits (is.book.transactions.keep.each n t there).1.1.1.1.0

-- ---- exactness

one_state : (old new : Txn) → Some (thing.Txn old) ≡ Some (thing.Txn new) → is_none old.voided ≡ is_none new.voided
one_state old new same = cc

-- the transaction that stands there is another where it is voided and the new one is not, or the other way round
other_state :
    (book : Book) (n : ℕ) (old new : Txn) → value_of n book.transactions ≡ Some old
    → is_none old.voided ≢ is_none new.voided
    → option_map (λ (t : Txn). thing.Txn t) (value_of n book.transactions) ≢ Some (thing.Txn new)
other_state book n old new there differs same =
    differs (one_state old new (sym (ap (option_map (λ (t : Txn). thing.Txn t)) there) ∙ same))

pub void_exact :
    (state : State) (n : ℕ) (reason : List ℕ) (old : Txn) → IsSound state
    → value_of n state.book.transactions ≡ Some old → is_none old.voided ≡ true
    → (let new = voided_for reason old in
    IsExact state.book (together (Put n (thing.Txn new)) (dismissing old.splits new.splits state.book.lines)))
void_exact state n reason old is there unvoided =
    let new = voided_for reason old in
    exact_together state.book (Put n (thing.Txn new)) (OfPut n (thing.Txn new)) old.splits new.splits
    (tables_rise state.book is.book)
    (record {
      one = refl;
      shallow = refl;
      there = refl;
      above = refl;
      below = refl;
      changes = other_state state.book n old new there (λ same. absurd (let both = sym unvoided ∙ same in cc));
    })

back_of : (t : Txn) (voided : Option Void) → is_none voided ≡ false → is_none (restored_with t voided).voided ≡ true
back_of t None is = absurd cc
back_of t (Some void) is = refl

pub unvoid_exact :
    (state : State) (n : ℕ) (old : Txn) → IsSound state → value_of n state.book.transactions ≡ Some old
    → is_none old.voided ≡ false → IsExact state.book (Put n (thing.Txn (restored old)))
unvoid_exact state n old is there voided =
    let back = back_of old old.voided voided in
    exact_put state.book n (thing.Txn (restored old)) (tables_rise state.book is.book)
    (other_state state.book n old (restored old) there
    (λ same. absurd (let both = sym voided ∙ same ∙ back in cc)))

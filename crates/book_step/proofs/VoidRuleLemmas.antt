-- The rule on voided transactions, as it is asked of the transaction that has a split.
use Rattle.std.proofs.Common.{◌≡◌, ◌≢◌, ℕ, ◌==◌, Bool, true, false, if◌then◌else◌, List, [], ◌∷◌, Option, Some, None}
use Rattle.std.proofs.Common.{is_none, is_some, refl, sym, ap, ◌∙◌, eq-eqb, arith}
use Rattle.std.proofs.lemmas.Bool.{eqb-true}
use Rattle.std.proofs.lemmas.Bool.Decides.{nat_tests}
use Rattle.book_commodity.specs.Rules.{first_broken}
use Rattle.book_commodity.specs.Table.{Rises, value_of}
use Rattle.book_commodity.proofs.RuleLemmas.{kept_of, not-broken}
use Rattle.book_splits.specs.TransactionRules.{is_among, numbers_of}
use Rattle.book_splits.specs.declared.transaction.Txn.{Txn}
use Rattle.book_splits.specs.declared.void.Void.{Void}
use Rattle.book_undo.specs.Book.{Book}
use Rattle.book_sound.proofs.SplitFrames.{above_there, found_among}
use Rattle.book_command.specs.declared.rule.Rule.{Rule}
use Rattle.book_step.specs.Marking.{Held, IsHeld}
use Rattle.book_step.specs.Soundness.{IsSoundBook}
use Rattle.book_step.specs.VoidRules.{voided_transaction, holder_of, voided_holder, voided_transaction_of}
use Rattle.book_step.proofs.RemarkLemmas.{other_lacks}

none_there : (voided : Option Void) → is_some voided ≡ false → is_none voided ≡ true
none_there None none = refl
none_there (Some void) none = absurd cc

-- A transaction that keeps the rule is not voided.
pub unvoided_of : (n : ℕ) (t : Txn) → voided_transaction n t ≡ None → is_none t.voided ≡ true
unvoided_of n t kept = none_there t.voided (not-broken _ _ kept)

holder_from :
    (number n : ℕ) (t : Txn) (ts : List (ℕ × Txn)) → Rises ts → value_of n ts ≡ Some t
    → is_among (numbers_of t.splits) number ≡ true
    → ((k : ℕ) (x : Txn) → value_of k ts ≡ Some x → k ≢ n → is_among (numbers_of x.splits) number ≡ false)
    → holder_of number ts ≡ Some (n, t)
holder_from number n t [] r there among others = absurd cc
holder_from number n t (e ∷ ts) r there among others =
    let Here : Bool → Type 0 = λ b. (n == e.0) ≡ b → (if b then Some e.1 else value_of n ts) ≡ Some t
    → holder_of number (e ∷ ts) ≡ Some (n, t) in
    elim (n == e.0) as Here [
      | true ↦ λ same found.
          let one : e.1 ≡ t = cc in
          let own : e.0 ≡ n = sym (eqb-true n e.0 same) in
          let has = ap (λ (x : Txn). is_among (numbers_of x.splits) number) one ∙ among in
          ap (λ (b : Bool). if b then Some e else holder_of number ts) has
          ∙ ap (λ (k : ℕ). Some (k, e.1)) own ∙ ap (λ (x : Txn). Some (n, x)) one
      | false ↦ λ other found.
          let first : value_of e.0 (e ∷ ts) ≡ Some e.1 = grind (arith, nat_tests) in
          let lacks = others e.0 e.1 first
          (λ same. absurd (let both = sym (eq-eqb n e.0 (sym same)) ∙ other in cc)) in
          ap (λ (b : Bool). if b then Some e else holder_of number ts) lacks
          ∙ holder_from number n t ts r.1 found among
          (λ k x at apart.
          let past = above_there e.0 k x ts r.0 at in
          let later : value_of k (e ∷ ts) ≡ Some x = grind (arith, nat_tests, past, at) in
          others k x later apart)
    ] refl there

-- In a sound book the rule is that of the transaction which has the split.
pub voided-held :
    (book : Book) (number : ℕ) (held : Held) → IsSoundBook book → IsHeld book.transactions number held
    → voided_transaction_of book.transactions number ≡ voided_transaction held.number held.transaction
voided-held book number held is has =
    let t = held.transaction in
    let among = found_among number t.splits held.split has.1 in
    ap voided_holder
    (holder_from number held.number t book.transactions is.transactions.rise has.0 among
    (λ k x there other. other_lacks book held.number k number t x is has.0 there other among))

-- A rule alone that is kept, and one that is broken.
pub one_kept : (rule : Option Rule) → first_broken (rule ∷ []) ≡ None → rule ≡ None
one_kept rule kept = (kept_of (rule ∷ []) kept).0

pub one_broken : (rule : Option Rule) (broken : Rule) → first_broken (rule ∷ []) ≡ Some broken → rule ≡ Some broken
one_broken None broken e = absurd cc
one_broken (Some rule) broken e = e

-- Where the rule is kept, so it is by the transaction.
pub unvoided_held :
    (book : Book) (number : ℕ) (held : Held) → IsSoundBook book → IsHeld book.transactions number held
    → voided_transaction_of book.transactions number ≡ None → is_none held.transaction.voided ≡ true
unvoided_held book number held is has kept =
    unvoided_of held.number held.transaction (sym (voided-held book number held is has) ∙ kept)

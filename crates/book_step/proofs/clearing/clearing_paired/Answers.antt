-- What is in the set is what the pairs say; and the transactions found nearby are all that have a split to clear.
use mathlib.Core.Path.{fun_ext}
use Rattle.std.proofs.Common.{◌≡◌, ℕ, Bool, List, Option, ap, subst, ◌∙◌}
use Rattle.std.specs.Prelude.{IfSome}
use Rattle.std.specs.BTreeSet.{contains}
use Rattle.std.specs.List.Sorted.{IsStrictlyIncreasing}
use Rattle.std.specs.Ordering.{nat_cmp}
use Rattle.std.proofs.lemmas.Result.{IfOk-weaker}
use Rattle.book_splits.specs.declared.transaction.Txn.{Txn}
use Rattle.book_step.specs.AutoMatching.{clearing, clearing_one, clears, has_pair}
use Rattle.book_step.specs.Remarking.{HasTouched, remarking}
use Rattle.book_step.specs.Soundness.{IsSound}
use Rattle.book_step.specs.State.{State}
use Rattle.book_step.specs.UnderNumbers.{made_under}
use Rattle.book_step.proofs.NearLemmas.{clearing-under}
use Rattle.book_step.proofs.clearing.clearing_paired.Goals as goal

pub returns-in_default : goal.returns-in_default
returns-in_default c =
    let ts : List (ℕ × Txn) = c.args.present.now.book.transactions in
    let in_set : ℕ → Bool = contains nat_cmp c.in_ok-taken.taken in
    let taken : in_set ≡ has_pair c.args.pairs.now = fun_ext c.in_ok-taken.ensures in
    let seen : c.as_slice.result.now ≡ ts =
    c.as_slice.ensures.entries ∙ ap (λ (s : State). s.book.transactions) c.present.view_is in
    IfOk-weaker c.clearing_all.result _ _
    (λ edits made.
    made
    ∙ ap (remarking (clears in_set) (clearing in_set)) seen
    ∙ ap (λ (test : ℕ → Bool). remarking (clears test) (clearing test) ts) taken)
    c.clearing_all.ensures

pub returns : goal.returns
returns c =
    let pairs = c.args.pairs.now in
    let ts : List (ℕ × Txn) = c.args.present.now.book.transactions in
    let in_set : ℕ → Bool = contains nat_cmp c.in_ok-taken.taken in
    let taken : in_set ≡ has_pair pairs = fun_ext c.in_ok-taken.ensures in
    let sound = subst (λ (s : State). IsSound s) c.present.view_is c.present.invariant in
    let numbers : List ℕ = c.in-Some.numbers.items in
    let up : IsStrictlyIncreasing numbers =
    subst (λ (o : Option _). IfSome o (λ found. IsStrictlyIncreasing found.items)) c.in-Some.is
    c.in_ok-numbers.ensures.rises in
    let all : HasTouched (clears (has_pair pairs)) ts numbers =
    subst (λ (o : Option _). IfSome o (λ found. HasTouched (clears (has_pair pairs)) ts found.items)) c.in-Some.is
    c.in_ok-numbers.ensures.has in
    IfOk-weaker c.clearing_under.result _ _
    (λ edits made.
    made
    ∙ ap (made_under (clearing_one in_set) ts) c.as_slice-2.ensures.value
    ∙ ap (λ (test : ℕ → Bool). made_under (clearing_one test) ts numbers) taken
    ∙ clearing-under (has_pair pairs) ts numbers sound.book.transactions.rise up all)
    c.clearing_under.ensures

-- No command makes a broken record of a reconciliation intact, and each leads from a chained book to a chained one.
use Rattle.std.proofs.Common.{◌≡◌, inl, inr, ℕ, ◌<◌, ◌==◌, ◌&&◌, nat_lt, not, ℤ, pos, ◌+ℤ◌, Bool, true}
use Rattle.std.proofs.Common.{false, All, List, [], ◌∷◌, ◌++◌, filter, map, if◌then◌else◌, Some, Ok, Err, Result}
use Rattle.std.proofs.Common.{refl, sym, ap, subst, ◌∙◌, eq-eqb, arith}
use Rattle.std.specs.List.{list_all, list_any}
use Rattle.std.specs.Prelude.{IfOk}
use Rattle.std.proofs.lemmas.Bool.{and_cases, and_from, and_left, and_parts, and_right, eqb-true, or_parts}
use Rattle.std.proofs.lemmas.Bool.{true_from_ne_false}
use Rattle.std.proofs.lemmas.Bool.Decides.{nat_tests}
use Rattle.std.proofs.lemmas.Int.{ints}
use Rattle.std.proofs.lemmas.List.{append-nil, map-append}
use Rattle.std.proofs.lemmas.List.Elements.{All-cons, All-filter, All-head, All-nil, All-tail, filter-append}
use Rattle.std.proofs.lemmas.List.Folds.{list_all-append, list_any_none}
use Rattle.book_commodity.specs.Table.{value_of, with_entry}
use Rattle.book_commodity.proofs.DrawnLemmas.{drawn_below, drawn_free, stays_with, value_with, with_last}
use Rattle.book_splits.specs.Balance.{splits_of, total}
use Rattle.book_splits.proofs.BalanceLemmas.{total-append}
use Rattle.book_splits.specs.declared.reconciliation.MarkedSplit.{MarkedSplit}
use Rattle.book_splits.specs.declared.reconciliation.Recon.{Recon}
use Rattle.book_splits.specs.declared.transaction.Txn.{Txn}
use Rattle.book_undo.specs.Book.{Book}
use Rattle.book_undo.specs.Edit.{edited}
use Rattle.book_reconcile.specs.Reconciliation.{difference, is_intact, is_kept, is_kept_by}
use Rattle.book_reconcile.proofs.OrderLemmas.{closes}
use Rattle.book_sound.specs.Naming.{reconciliation_names}
use Rattle.book_sound.specs.ReconciliationRules.{marked_sum}
use Rattle.book_sound.proofs.OwnFrames.{all_of_each}
use Rattle.book_command.specs.declared.answer.Answer.{Answer}
use Rattle.book_command.specs.declared.command.Update.{Update}
use Rattle.book_command.specs.declared.refusal.Refusal.{Refusal}
use Rattle.book_step.specs.Outcome.{Done, StepsTo, after}
use Rattle.book_step.specs.Reconciling.{book_reconciled, finished, marked_under}
use Rattle.book_step.specs.Soundness.{IsSound, IsSoundBook}
use Rattle.book_step.specs.State.{State, fresh_book}
use Rattle.book_step.specs.Step.{outcome}
use Rattle.book_step.specs.declared.step.Step.{Step}
use Rattle.book_step.proofs.AnswerLemmas.{whole_of}
use Rattle.book_chain.specs.Chain.{AddsIntact, IsChained, IsLast, KeepsBroken, are_intact, is_reconciling, of_account}
use Rattle.book_chain.specs.Chain.{sum_of_lists, up_to}
use Rattle.book_chain.proofs.ChainChanges.{Change, Leaves}
use Rattle.book_chain.proofs.ChainCommands.{outcome-changes}
use Rattle.book_chain.proofs.KeptSplits.{MakesNone, marking-makes, none-remarked}
use Rattle.book_chain.proofs.ListSums.{opening-sums}
use Rattle.book_chain.proofs.NewRecord.{marked-intact}

-- ---- what isn't intact stays so

all-none : {X : Type 0} (test : X → Bool) (xs : List X) → list_any test xs ≡ false → All (λ (x : X). test x ≡ false) xs
all-none {X} test [] none = All-nil (λ (x : X). test x ≡ false)
all-none {X} test (x ∷ xs) none =
    let parts = or_parts (test x) (list_any test xs) none in
    All-cons (λ (y : X). test y ≡ false) x xs parts.0 (all-none test xs parts.1)

still-unkept :
    (next n account : ℕ) (m : MarkedSplit) (old new : List (ℕ × Txn)) → MakesNone next old new → n < next
    → is_kept n account old m ≡ false → is_kept n account new m ≡ false
still-unkept next n account m old new makes below none =
    list_any_none (is_kept_by n account m) (splits_of new)
    (makes.each n account m below (all-none (is_kept_by n account m) (splits_of old) none))

still-broken :
    (next n account : ℕ) (listed : List MarkedSplit) (old new : List (ℕ × Txn)) → MakesNone next old new → n < next
    → list_all (is_kept n account old) listed ≡ false → list_all (is_kept n account new) listed ≡ false
still-broken next n account [] old new makes below broken = absurd cc
still-broken next n account (m ∷ listed) old new makes below broken =
    elim (and_cases (is_kept n account old m) (list_all (is_kept n account old) listed) broken) [
      | inl here ↦ and_left (is_kept n account new m) _ (still-unkept next n account m old new makes below here)
      | inr rest ↦ and_right (is_kept n account new m) (list_all (is_kept n account new) listed)
          (still-broken next n account listed old new makes below rest)
    ]

-- so what is intact was so before
all-were :
    (next : ℕ) (old new : List (ℕ × Txn)) (es : List (ℕ × Recon)) → MakesNone next old new
    → All (λ (e : ℕ × Recon). e.0 < next) es → are_intact new es ≡ true → are_intact old es ≡ true
all-were next old new [] makes below intact = refl
all-were next old new (e ∷ es) makes below intact =
    let Below : ℕ × Recon → Type 0 = λ x. x.0 < next in
    let parts = and_parts (is_intact e.0 e.1 new) (are_intact new es) intact in
    let here = true_from_ne_false (is_intact e.0 e.1 old)
    (λ broken.
    let later = still-broken next e.0 e.1.account e.1.marked old new makes (All-head Below e es below) broken in
    absurd (let both = sym parts.0 ∙ later in cc)) in
    and_from (is_intact e.0 e.1 old) (are_intact old es) here
    (all-were next old new es makes (All-tail Below e es below) parts.1)

-- ---- the transactions and the reconciliations after a change

makes-none :
    (state : State) (update : Update) (new : Book) → Change state update new
    → MakesNone state.next state.book.transactions new.transactions
makes-none state update new (inl leaves) = leaves.1.transactions
makes-none state update new (inr finish) =
    let recon = finished state.book finish.account finish.day finish.closing in
    subst (λ (b : Book). MakesNone state.next state.book.transactions b.transactions) finish.is
    (none-remarked state.next (marked_under state.next recon.account recon.day) state.book.transactions
    (marking-makes state.next recon.account recon.day))

stays :
    (state : State) (update : Update) (new : Book) (n : ℕ) (r : Recon) → IsSound state
    → Change state update new → value_of n state.book.reconciliations ≡ Some r
    → value_of n new.reconciliations ≡ Some r
stays state update new n r is (inl leaves) there = ap (value_of n) leaves.1.reconciliations ∙ there
stays state update new n r is (inr finish) there =
    let recon = finished state.book finish.account finish.day finish.closing in
    let all = state.book.reconciliations in
    subst (λ (b : Book). value_of n b.reconciliations ≡ Some r) finish.is
    ((stays_with state.next recon all (drawn_free state.next all is.drawn.reconciliations)).each n r there)

-- After a change of a sound state that is done each reconciliation is there as it was; and one that wasn't intact isn't
-- intact.
pub outcome-stays-broken :
    (state : State) (update : Update) (new : State) (answered : Answer) → IsSound state
    → outcome state update ≡ Done new answered → KeepsBroken state.book new.book
outcome-stays-broken state update new answered is e =
    let change = outcome-changes state update new answered e in
    let all = state.book.reconciliations in
    record {
      stays = λ n r there. stays state update new.book n r is change there;
      broken = λ n r there broken.
          still-broken state.next n r.account r.marked state.book.transactions new.book.transactions
          (makes-none state update new.book change) (drawn_below n state.next r all is.drawn.reconciliations there)
          broken;
    }

adds-none :
    (state : State) (update : Update) (new : Book) → Change state update new
    → is_reconciling update ≡ false → new.reconciliations ≡ state.book.reconciliations
adds-none state update new (inl leaves) other = leaves.1.reconciliations
adds-none state update new (inr finish) other = absurd (let both = sym finish.reconciles ∙ other in cc)

-- Only a reconciliation adds one.
pub outcome-adds-no-reconciliation :
    (state : State) (update : Update) (new : State) (answered : Answer) → is_reconciling update ≡ false
    → outcome state update ≡ Done new answered → new.book.reconciliations ≡ state.book.reconciliations
outcome-adds-no-reconciliation state update new answered other e =
    adds-none state update new.book (outcome-changes state update new answered e) other

adds-intact :
    (state : State) (update : Update) (new : Book) → IsSound state → Change state update new
    → is_reconciling update ≡ true → AddsIntact state.next state.book new
adds-intact state update new is (inl leaves) reconciles = absurd (let both = sym reconciles ∙ leaves.0 in cc)
adds-intact state update new is (inr finish) reconciles =
    let recon = finished state.book finish.account finish.day finish.closing in
    subst (AddsIntact state.next state.book) finish.is
    (record {
      reconciliation = recon;
      behind = with_last state.next recon state.book.reconciliations is.drawn.reconciliations;
      intact = marked-intact state.next finish.account finish.day state.book.transactions;
    })

-- A reconciliation that is done in a sound state adds one, under the next number, and its record is intact.
pub outcome-adds-intact :
    (state : State) (update : Update) (new : State) (answered : Answer) → IsSound state
    → is_reconciling update ≡ true → outcome state update ≡ Done new answered
    → AddsIntact state.next state.book new.book
outcome-adds-intact state update new answered is reconciles e =
    adds-intact state update new.book is (outcome-changes state update new answered e) reconciles

-- ---- the chain

-- where the tests of two filters agree
same-filter :
    {X : Type 0} (one other : X → Bool) (xs : List X) → All (λ (x : X). one x ≡ other x) xs
    → filter one xs ≡ filter other xs
same-filter one other [] same = refl
same-filter {X} one other (x ∷ xs) same =
    let Same : X → Type 0 = λ y. one y ≡ other y in
    ap (λ (b : Bool). if b then x ∷ filter one xs else filter one xs) (All-head Same x xs same)
    ∙ ap (λ (l : List X). if other x then x ∷ l else l) (same-filter one other xs (All-tail Same x xs same))

-- a reconciliation with a number above all isn't among those up to one of them
old-up_to :
    (n account next : ℕ) (recon : Recon) (es : List (ℕ × Recon)) → n < next
    → up_to n account (es ++ (next, recon) ∷ []) ≡ up_to n account es
old-up_to n account next recon es below =
    let test : ℕ × Recon → Bool = λ e. reconciliation_names account e.1 && not (nat_lt n e.0) in
    let past : nat_lt n next ≡ true = grind (arith, nat_tests, below) in
    let fails : test (next, recon) ≡ false =
    and_right (reconciliation_names account recon) (not (nat_lt n next)) (ap not past) in
    filter-append test es ((next, recon) ∷ [])
    ∙ ap (λ (b : Bool). filter test es ++ (if b then (next, recon) ∷ [] else [])) fails
    ∙ append-nil (filter test es)

-- all numbers below one are among those up to it
up_to-all :
    (n account : ℕ) (es : List (ℕ × Recon)) → All (λ (e : ℕ × Recon). e.0 < n) es
    → up_to n account es ≡ of_account account es
up_to-all n account [] below = refl
up_to-all n account (e ∷ es) below =
    let Below : ℕ × Recon → Type 0 = λ x. x.0 < n in
    let own = e.1.account == account in
    let less = All-head Below e es below in
    let not_past : nat_lt n e.0 ≡ false = grind (arith, nat_tests, less) in
    ap (λ (b : Bool). if own && not b then e ∷ up_to n account es else up_to n account es) not_past
    ∙ ap (λ (b : Bool). if b then e ∷ up_to n account es else up_to n account es) (with_true own)
    ∙ ap (λ (l : List (ℕ × Recon)). if own then e ∷ l else l) (up_to-all n account es (All-tail Below e es below))
  where
    with_true : (b : Bool) → (b && true) ≡ b
    with_true true = refl
    with_true false = refl

-- the new one stands behind those of its account
new-up_to :
    (next : ℕ) (recon : Recon) (es : List (ℕ × Recon)) → All (λ (e : ℕ × Recon). e.0 < next) es
    → up_to next recon.account (es ++ (next, recon) ∷ []) ≡ of_account recon.account es ++ (next, recon) ∷ []
new-up_to next recon es below =
    let test : ℕ × Recon → Bool = λ e. reconciliation_names recon.account e.1 && not (nat_lt next e.0) in
    let itself : nat_lt next next ≡ false = grind (arith, nat_tests) in
    let passes : test (next, recon) ≡ true =
    and_from (reconciliation_names recon.account recon) (not (nat_lt next next))
    (eq-eqb recon.account recon.account refl) (ap not itself) in
    filter-append test es ((next, recon) ∷ [])
    ∙ ap (λ (b : Bool). filter test es ++ (if b then (next, recon) ∷ [] else [])) passes
    ∙ ap (λ (l : List (ℕ × Recon)). l ++ (next, recon) ∷ []) (up_to-all next recon.account es below)

sum-behind :
    (es : List (ℕ × Recon)) (e : ℕ × Recon)
    → sum_of_lists (es ++ e ∷ []) ≡ sum_of_lists es +ℤ marked_sum e.1.marked
sum-behind es e =
    let sum : ℕ × Recon → ℤ = λ x. marked_sum x.1.marked in
    let both = ap total (map-append sum es (e ∷ [])) ∙ total-append (map sum es) (map sum (e ∷ [])) in
    omega (arith, ints, both)

-- what the reconciliations of an account came to before a change, they come to after it
old-chained :
    (next n : ℕ) (book new : Book) (r : Recon) → MakesNone next book.transactions new.transactions
    → All (λ (e : ℕ × Recon). e.0 < next) book.reconciliations → value_of n book.reconciliations ≡ Some r
    → up_to n r.account new.reconciliations ≡ up_to n r.account book.reconciliations → IsChained book
    → are_intact new.transactions (up_to n r.account new.reconciliations) ≡ true
    → sum_of_lists (up_to n r.account new.reconciliations) ≡ r.closing
old-chained next n book new r makes below there same is intact =
    let old = book.reconciliations in
    let own = up_to n r.account old in
    let Below : ℕ × Recon → Type 0 = λ x. x.0 < next in
    let few = All-filter (λ (e : ℕ × Recon). reconciliation_names r.account e.1 && not (nat_lt n e.0)) Below old
    below in
    let now : are_intact new.transactions own ≡ true = sym (ap (are_intact new.transactions) same) ∙ intact in
    ap sum_of_lists same
    ∙ is.each n r there (all-were next book.transactions new.transactions own makes few now)

leaves-chained :
    (state : State) (new : Book) → IsSound state → IsChained state.book → Leaves state.next state.book new
    → IsChained new
leaves-chained state new is chained leaves = record {
  each = λ n r there intact.
      let same = leaves.reconciliations in
      old-chained state.next n state.book new r leaves.transactions is.drawn.reconciliations
      (sym (ap (value_of n) same) ∙ there) (ap (up_to n r.account) same) chained intact;
}

-- the new reconciliation comes to its closing balance
new-chained :
    (state : State) (account : ℕ) (day closing : ℤ) (new : List (ℕ × Txn)) → IsSound state
    → difference account day closing state.book.transactions ≡ pos 0
    → MakesNone state.next state.book.transactions new
    → are_intact new (of_account account state.book.reconciliations
    ++ (state.next, finished state.book account day closing) ∷ []) ≡ true
    → sum_of_lists (of_account account state.book.reconciliations
    ++ (state.next, finished state.book account day closing) ∷ []) ≡ closing
new-chained state account day closing new is none makes intact =
    let old = state.book.reconciliations in
    let own = of_account account old in
    let recon = finished state.book account day closing in
    let Below : ℕ × Recon → Type 0 = λ x. x.0 < state.next in
    let few = All-filter (λ (e : ℕ × Recon). reconciliation_names account e.1) Below old is.drawn.reconciliations in
    let each : ℕ × Recon → Bool = λ e. is_intact e.0 e.1 new in
    let parts = and_parts (are_intact new own) (list_all each ((state.next, recon) ∷ []))
    (sym (list_all-append each own ((state.next, recon) ∷ [])) ∙ intact) in
    let opened = opening-sums state.book account is.book
    (all-were state.next state.book.transactions new own makes few parts.0) in
    let closed = closes account day closing state.book.transactions none in
    let sum = sum-behind own (state.next, recon) in
    omega (arith, ints, opened, closed, sum)

finish-chained :
    (state : State) (account : ℕ) (day closing : ℤ) → IsSound state → IsChained state.book
    → difference account day closing state.book.transactions ≡ pos 0
    → MakesNone state.next state.book.transactions
    (book_reconciled state.book state.next (finished state.book account day closing)).transactions
    → IsChained (book_reconciled state.book state.next (finished state.book account day closing))
finish-chained state account day closing is chained none makes = record {
  each = λ n r there.
      let next = state.next in
      let old = state.book.reconciliations in
      let recon = finished state.book account day closing in
      let new = book_reconciled state.book next recon in
      let behind : with_entry next recon old ≡ old ++ (next, recon) ∷ [] =
      with_last next recon old is.drawn.reconciliations in
      elim (value_with n next recon r old there) [
        | inl own ↦ λ intact.
            let Comes : ℕ → Recon → Type 0 = λ k x.
            are_intact new.transactions (up_to k x.account (with_entry next recon old)) ≡ true
            → sum_of_lists (up_to k x.account (with_entry next recon old)) ≡ x.closing in
            let all : up_to next account (with_entry next recon old) ≡ of_account account old ++ (next, recon) ∷ [] =
            ap (up_to next account) behind ∙ new-up_to next recon old is.drawn.reconciliations in
            let comes : Comes next recon = λ now.
            ap sum_of_lists all
            ∙ new-chained state account day closing new.transactions is none makes
            (sym (ap (are_intact new.transactions) all) ∙ now) in
            subst (λ (k : ℕ). Comes k r) (sym own.0) (subst (λ (x : Recon). Comes next x) own.1 comes) intact
        | inr before ↦ λ intact.
            let below = drawn_below n next r old is.drawn.reconciliations before.1 in
            old-chained next n state.book new r makes is.drawn.reconciliations before.1
            (ap (up_to n r.account) behind ∙ old-up_to n r.account next recon old below) chained intact
      ];
}

change-chained :
    (state : State) (update : Update) (new : Book) → IsSound state → IsChained state.book
    → Change state update new → IsChained new
change-chained state update new is chained (inl leaves) = leaves-chained state new is chained leaves.1
change-chained state update new is chained (inr finish) =
    let recon = finished state.book finish.account finish.day finish.closing in
    let makes = none-remarked state.next (marked_under state.next recon.account recon.day) state.book.transactions
    (marking-makes state.next recon.account recon.day) in
    subst IsChained finish.is
    (finish-chained state finish.account finish.day finish.closing is chained finish.none makes)

-- After a change of a sound state with a chained book that is done the book is chained.
pub outcome-chained :
    (state : State) (update : Update) (new : State) (answered : Answer) → IsSound state → IsChained state.book
    → outcome state update ≡ Done new answered → IsChained new.book
outcome-chained state update new answered is chained e =
    change-chained state update new.book is chained (outcome-changes state update new answered e)

-- Where all reconciliations of an account are intact in a chained book, the quantities of their lists sum to the
-- closing balance of the last one.
pub chained-sums :
    (book : Book) (n : ℕ) (r : Recon) → IsSoundBook book → IsChained book → IsLast book n r
    → are_intact book.transactions (of_account r.account book.reconciliations) ≡ true
    → sum_of_lists (of_account r.account book.reconciliations) ≡ r.closing
chained-sums book n r is chained last intact =
    let es = book.reconciliations in
    let one : ℕ × Recon → Bool = λ e. reconciliation_names r.account e.1 && not (nat_lt n e.0) in
    let other : ℕ × Recon → Bool = λ e. reconciliation_names r.account e.1 in
    let same : up_to n r.account es ≡ of_account r.account es =
    same-filter one other es
    (all_of_each (λ (e : ℕ × Recon). one e ≡ other e) es is.reconciliations.rise
    (λ k x there.
    let Own : Bool → Type 0 = λ b. (x.account == r.account) ≡ b → (b && not (nat_lt n k)) ≡ b in
    (elim (x.account == r.account) as Own [
      | true ↦ λ own.
          let before = last.last k x there (eqb-true x.account r.account own) in
          let not_past : nat_lt n k ≡ false = grind (arith, nat_tests, before) in
          ap not not_past
      | false ↦ λ own. refl
    ]) refl)) in
    sym (ap sum_of_lists same) ∙ chained.each n r last.there (ap (are_intact book.transactions) same ∙ intact)

-- Each run begins with a chained book.
pub fresh-chained : IsChained fresh_book
fresh-chained = record { each = λ n r there intact. absurd cc }

-- ---- as a step says it

pub step-stays-broken :
    (state : State) (update : Update) (result : Result Step Refusal) → IsSound state
    → StepsTo state (outcome state update) result
    → IfOk result (λ step. KeepsBroken state.book (edited step.edit state.book))
step-stays-broken state update (Ok step) is to =
    let whole = whole_of (outcome state update) (after state step) step.answer to.leads in
    outcome-stays-broken state update (after state step) whole.0 is whole.1
step-stays-broken state update (Err refusal) is to = tt

pub step-chained :
    (state : State) (update : Update) (result : Result Step Refusal) → IsSound state → IsChained state.book
    → StepsTo state (outcome state update) result → IfOk result (λ step. IsChained (edited step.edit state.book))
step-chained state update (Ok step) is chained to =
    let whole = whole_of (outcome state update) (after state step) step.answer to.leads in
    outcome-chained state update (after state step) whole.0 is chained whole.1
step-chained state update (Err refusal) is chained to = tt

-- The one at the place goes past a limit, breaks a rule, or keeps all.
use Rattle.std.proofs.Common.{◌≡◌, ◌+◌, ◌≤◌, ℕ, nat_lt, not, ◌&&◌, Bool, true, false, List, sym, ap, subst, drop}
use Rattle.std.proofs.Common.{◌∙◌, refl, arith, length}
use Rattle.std.specs.Bool.{OnTrue}
use Rattle.std.proofs.lemmas.Bool.Decides.{nat_tests}
use Rattle.book_sound.specs.MarkedTransactionRules.{marked_transaction_rules}
use Rattle.book_splits.specs.TransactionRules.{numbers_of}
use Rattle.book_splits.specs.declared.split.Split.{Split}
use Rattle.book_check.specs.FirstUnsound.{first_in, splits_in}
use Rattle.book_check.specs.Numbers.{AddsAll, are_new}
use Rattle.book_check.proofs.NumberLemmas.{numbers_next, rules_asked}
use Rattle.book_check.proofs.SeenLemmas.{entry_at}
use Rattle.book_check.proofs.WalkLemmas.{weighed_fails, weighed_keeps, weighed_past}
use Rattle.book_check.proofs.transactions.first_transaction.Goals as goal

on_true : (b : Bool) (P : Type 0) → b ≡ true → OnTrue b P → P
on_true true P e h = h
on_true false P e h = absurd cc

-- what a negated test said of the limits
limit_test :
    (place sum count weight most heaviest : ℕ) (past : Bool) → count ≡ weight
    → past ≡ not (nat_lt place most && not (nat_lt heaviest (sum + count)))
    → (nat_lt place most && not (nat_lt heaviest (sum + weight))) ≡ not past
limit_test place sum count weight most heaviest past same is =
    sym (ap (λ (n : ℕ). nat_lt place most && not (nat_lt heaviest (sum + n))) same)
    ∙ twice (nat_lt place most && not (nat_lt heaviest (sum + count))) ∙ ap not (sym is)
  where
    twice : (b : Bool) → b ≡ not (not b)
    twice true = refl
    twice false = refl

pub returns-then-is_past : goal.returns-then-is_past
returns-then-is_past c =
    let es = c.args.transactions.now.entries in
    let place = c.loop-place.place in
    let n = c.number_at-number.result in
    let t = c.value_at-transaction.result.now in
    sym (c.loop-place.invariant.walk
    ∙ weighed_past
    (marked_transaction_rules c.args.commodities.now.entries c.args.accounts.now.entries
    c.args.reconciliations.now.entries es)
    200000 splits_in 1000000 place c.loop-place.sum n t es
    (entry_at es place n t c.number_at-number.ensures c.value_at-transaction.ensures)
    (limit_test place c.loop-place.sum c.len-count.result (length t.splits) 200000 1000000 c.is_past.result
    c.len-count.ensures c.is_past.ensures ∙ ap not c.if-is_past.true))

pub returns-then-not-kept : goal.returns-then-not-kept
returns-then-not-kept c =
    let es = c.args.transactions.now.entries in
    let place = c.loop-place.place in
    let n = c.number_at-number.result in
    let t = c.value_at-transaction.result.now in
    let there = entry_at es place n t c.number_at-number.ensures c.value_at-transaction.ensures in
    let fails : c.in_ok-kept.kept ≡ false = (let test = c.if-not-kept.true in grind (arith, nat_tests, test)) in
    sym (c.loop-place.invariant.walk
    ∙ weighed_fails
    (marked_transaction_rules c.args.commodities.now.entries c.args.accounts.now.entries
    c.args.reconciliations.now.entries es)
    200000 splits_in 1000000 place c.loop-place.sum n t es there
    (rules_asked c.args.commodities.now.entries c.args.accounts.now.entries c.args.reconciliations.now.entries
    c.loop-place.seen es place n t c.in_ok-kept.kept (are_new c.loop-place.seen (numbers_of t.splits))
    c.len-place-end.ensures.rises there c.loop-place.invariant.numbers c.in_ok-kept.ensures refl
    ∙ ap (λ (b : Bool). b && are_new c.loop-place.seen (numbers_of t.splits)) fails))

pub returns-then-not-branch : goal.returns-then-not-branch
returns-then-not-branch c =
    let es = c.args.transactions.now.entries in
    let place = c.loop-place.place in
    let n = c.number_at-number.result in
    let t = c.value_at-transaction.result.now in
    let there = entry_at es place n t c.number_at-number.ensures c.value_at-transaction.ensures in
    let new = c.in_ok-add_new.ensures.new
    ∙ ap (λ (splits : List Split). are_new c.loop-place.seen (numbers_of splits)) c.as_slice.ensures in
    let kept : c.in_ok-kept.kept ≡ true = (let test = c.if-not-kept.false in grind (arith, nat_tests, test)) in
    sym (c.loop-place.invariant.walk
    ∙ weighed_fails
    (marked_transaction_rules c.args.commodities.now.entries c.args.accounts.now.entries
    c.args.reconciliations.now.entries es)
    200000 splits_in 1000000 place c.loop-place.sum n t es there
    (rules_asked c.args.commodities.now.entries c.args.accounts.now.entries c.args.reconciliations.now.entries
    c.loop-place.seen es place n t c.in_ok-kept.kept c.in_ok-add_new.field-0
    c.len-place-end.ensures.rises there c.loop-place.invariant.numbers c.in_ok-kept.ensures new
    ∙ ap (λ (b : Bool). b && c.in_ok-add_new.field-0) kept ∙ c.if-not-branch.true))

-- within the limits, the sum is
within :
    (place sum count most heaviest : ℕ) → (nat_lt place most && not (nat_lt heaviest (sum + count))) ≡ true
    → sum + count ≤ heaviest
within place sum count most heaviest e = grind (arith, nat_tests)

pub loop-place-preserved : goal.loop-place-preserved
loop-place-preserved c =
    let es = c.args.transactions.now.entries in
    let place = c.loop-place.place in
    let sum = c.loop-place.sum in
    let n = c.number_at-number.result in
    let t = c.value_at-transaction.result.now in
    let rules =
    marked_transaction_rules c.args.commodities.now.entries c.args.accounts.now.entries
    c.args.reconciliations.now.entries es in
    let there = entry_at es place n t c.number_at-number.ensures c.value_at-transaction.ensures in
    let new = c.in_ok-add_new.ensures.new
    ∙ ap (λ (splits : List Split). are_new c.loop-place.seen (numbers_of splits)) c.as_slice.ensures in
    let kept : c.in_ok-kept.kept ≡ true = (let test = c.if-not-kept.false in grind (arith, nat_tests, test)) in
    let limits = limit_test place sum c.len-count.result (length t.splits) 200000 1000000 c.is_past.result
    c.len-count.ensures c.is_past.ensures ∙ ap not c.if-is_past.false in
    let holds =
    rules_asked c.args.commodities.now.entries c.args.accounts.now.entries c.args.reconciliations.now.entries
    c.loop-place.seen es place n t c.in_ok-kept.kept c.in_ok-add_new.field-0
    c.len-place-end.ensures.rises there c.loop-place.invariant.numbers c.in_ok-kept.ensures new
    ∙ ap (λ (b : Bool). b && c.in_ok-add_new.field-0) kept ∙ c.if-not-branch.false in
    let added : AddsAll c.loop-place.seen (numbers_of t.splits) c.add_new.new.seen =
    subst (λ (splits : List Split). AddsAll c.loop-place.seen (numbers_of splits) c.add_new.new.seen)
    c.as_slice.ensures
    (on_true c.in_ok-add_new.field-0
    (AddsAll c.loop-place.seen (numbers_of c.as_slice.result.now) c.add_new.new.seen)
    c.if-not-branch.false c.in_ok-add_new.ensures.adds) in record {
      walk =
          c.loop-place.invariant.walk
          ∙ weighed_keeps rules 200000 splits_in 1000000 place sum n t es there limits holds
          ∙ ap (λ (count : ℕ). first_in rules 200000 splits_in 1000000 (place + 1) (sum + count) (drop (place + 1) es))
          (sym c.len-count.ensures);
      numbers =
          numbers_next c.loop-place.seen c.add_new.new.seen es place n t there c.loop-place.invariant.numbers added;
      light =
          subst (λ (count : ℕ). sum + count ≤ 1000000) (sym c.len-count.ensures)
          (within place sum (length t.splits) 200000 1000000 limits);
    }

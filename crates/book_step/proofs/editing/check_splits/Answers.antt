use Rattle.std.proofs.Common.{◌<◌, ◌≤◌, length, ap, subst, arith}
use Rattle.std.proofs.lemmas.Bool.Decides.{nat_tests}
use Rattle.book_commodity.specs.Table.{with_entry}
use Rattle.book_splits.specs.Balance.{splits_of}
use Rattle.book_splits.proofs.CountLemmas.{splits-within}
use Rattle.book_step.specs.Soundness.{IsSound}
use Rattle.book_step.specs.State.{State}
use Rattle.book_step.proofs.EditingLemmas.{splits-after}
use Rattle.book_step.proofs.editing.check_splits.Goals as goal

pub overflow_sub-others : goal.overflow_sub-others
overflow_sub-others c =
    let total = ap (λ (s : State). length (splits_of s.book.transactions)) c.present.view_is in
    let within = splits-within c.args.number c.args.present.now.book.transactions in
    omega (arith, total, within, c.count_splits.ensures, c.count_splits_of-old.ensures)

pub overflow_add-others : goal.overflow_add-others
overflow_add-others c =
    let few = c.present.invariant.book.few_splits in
    omega (arith, few, c.count_splits.ensures, c.len.ensures, c.requires.few)

pub returns-then-others-len-gt-MAX_SPLITS : goal.returns-then-others-len-gt-MAX_SPLITS
returns-then-others-len-gt-MAX_SPLITS c =
    let state = c.args.present.now in
    let total = ap (λ (s : State). length (splits_of s.book.transactions)) c.present.view_is in
    let sound = subst (λ (s : State). IsSound s) c.present.view_is c.present.invariant in
    let after = splits-after state.book c.args.number c.args.new.now sound.book in
    let many : 1000000 < length (splits_of (with_entry c.args.number c.args.new.now state.book.transactions)) =
    omega (
      arith,
      total,
      after,
      c.count_splits.ensures,
      c.count_splits_of-old.ensures,
      c.len.ensures,
      c.if-others-len-gt-MAX_SPLITS.true,
    ) in
    grind (arith, nat_tests, many)

pub returns : goal.returns
returns c =
    let state = c.args.present.now in
    let total = ap (λ (s : State). length (splits_of s.book.transactions)) c.present.view_is in
    let sound = subst (λ (s : State). IsSound s) c.present.view_is c.present.invariant in
    let after = splits-after state.book c.args.number c.args.new.now sound.book in
    let few : length (splits_of (with_entry c.args.number c.args.new.now state.book.transactions)) ≤ 1000000 =
    omega (
      arith,
      total,
      after,
      c.count_splits.ensures,
      c.count_splits_of-old.ensures,
      c.len.ensures,
      c.if-others-len-gt-MAX_SPLITS.false,
    ) in
    grind (arith, nat_tests, few)

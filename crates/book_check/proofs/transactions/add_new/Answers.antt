-- One number more is new, and is seen.
use Rattle.std.proofs.Common.{◌+◌, ◌||◌, List, drop, sym, ap, ◌∙◌}
use Rattle.std.specs.Ordering.{nat_cmp}
use Rattle.book_commodity.proofs.ListLemmas.{from-item}
use Rattle.book_splits.specs.TransactionRules.{is_among, numbers_of}
use Rattle.book_splits.specs.declared.split.Split.{Split}
use Rattle.book_check.specs.Numbers.{are_new}
use Rattle.book_check.specs.Seen.{is_seen}
use Rattle.book_check.proofs.NumberLemmas.{added_next, new_next}
use Rattle.book_check.proofs.transactions.add_new.Goals as goal

pub loop-split-preserved : goal.loop-split-preserved
loop-split-preserved c =
    let split = c.split-item.result in
    let more = numbers_of (drop (c.loop-split.split-index + 1) c.args.splits.now) in
    let left = from-item c.args.splits.now c.loop-split.split-index split c.loop-split-test.true c.split-item.is in
    let free = sym c.in_ok-insert.ensures.before ∙ c.if-branch.false in record {
      new =
          c.loop-split.invariant.new
          ∙ ap (λ (rest : List Split). are_new c.loop-split.seen (numbers_of rest)) left
          ∙ new_next c.loop-split.seen c.insert.new.self split.id more free c.in_ok-insert.ensures.adds;
      adds = λ number. c.loop-split.invariant.adds number
          ∙ ap
          (λ (rest : List Split). is_among (numbers_of rest) number || is_seen nat_cmp c.loop-split.seen number) left
          ∙ added_next c.loop-split.seen c.insert.new.self split.id number more c.in_ok-insert.ensures.adds;
    }

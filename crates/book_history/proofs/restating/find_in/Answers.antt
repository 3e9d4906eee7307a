-- The transaction at the place has the split, or those behind it are sought.
use Rattle.std.proofs.Common.{◌≡◌, Some, None, ap, sym, ◌∙◌}
use Rattle.std.specs.Option.{option_copied}
use Rattle.book_sound.specs.LineRules.{split_among}
use Rattle.book_history.proofs.SplitSearch.{split_from}
use Rattle.book_history.proofs.restating.find_in.Goals as goal

pub returns-in-Some : goal.returns-in-Some
returns-in-Some c =
    let has : split_among c.args.number c.loop-transaction-item.result.1.splits ≡ Some c.in-Some.split.now
    = ap (split_among c.args.number) (sym c.as_slice.ensures) ∙ sym c.in-Some.ensures in
    sym (c.loop-transaction.invariant
    ∙ split_from c.as_slice-transaction-items.result.now c.loop-transaction.transaction-index
    c.loop-transaction-item.result c.args.number (Some c.in-Some.split.now) c.loop-transaction-test.true
    c.loop-transaction-item.is has)

pub loop-transaction-preserved : goal.loop-transaction-preserved
loop-transaction-preserved c =
    let none : split_among c.args.number c.loop-transaction-item.result.1.splits ≡ None
    = ap (split_among c.args.number) (sym c.as_slice.ensures) ∙ sym c.find_split.ensures
    ∙ ap option_copied c.in_default.is in
    c.loop-transaction.invariant
    ∙ split_from c.as_slice-transaction-items.result.now c.loop-transaction.transaction-index
    c.loop-transaction-item.result c.args.number None c.loop-transaction-test.true c.loop-transaction-item.is none

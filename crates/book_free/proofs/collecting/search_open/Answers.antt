-- The first transaction that has the split is the one whose split is returned.
use Rattle.std.proofs.Common.{◌≡◌, ◌+◌, Some, None, ap, sym, ◌∙◌, drop}
use Rattle.std.specs.Option.{option_copied}
use Rattle.book_commodity.proofs.ListLemmas.{from-item}
use Rattle.book_sound.specs.LineRules.{split_among}
use Rattle.book_free.specs.FreeSplits.{open_at}
use Rattle.book_free.proofs.FreeAtLemmas.{open_here, open_past}
use Rattle.book_free.proofs.collecting.search_open.Goals as goal

pub returns-in-Some : goal.returns-in-Some
returns-in-Some c =
    let entries = c.args.entries.now in
    let item = c.loop-transaction-item.result in
    let place = c.loop-transaction.transaction-index in
    let split = from-item entries place item c.loop-transaction-test.true c.loop-transaction-item.is in
    let found : split_among c.args.number item.1.splits ≡ Some c.in-Some.split.now =
    ap (split_among c.args.number) (sym c.as_slice.ensures) ∙ sym c.find_split.ensures
    ∙ ap option_copied c.in-Some.is in
    c.open_split.ensures
    ∙ sym (open_here c.args.number item (drop (place + 1) entries) c.in-Some.split.now found)
    ∙ sym (ap (open_at c.args.number) split) ∙ c.loop-transaction.invariant

pub loop-transaction-preserved : goal.loop-transaction-preserved
loop-transaction-preserved c =
    let entries = c.args.entries.now in
    let item = c.loop-transaction-item.result in
    let place = c.loop-transaction.transaction-index in
    let split = from-item entries place item c.loop-transaction-test.true c.loop-transaction-item.is in
    let none : split_among c.args.number item.1.splits ≡ None =
    ap (split_among c.args.number) (sym c.as_slice.ensures) ∙ sym c.find_split.ensures
    ∙ ap option_copied c.in_default.is in
    sym (open_past c.args.number item (drop (place + 1) entries) none)
    ∙ sym (ap (open_at c.args.number) split) ∙ c.loop-transaction.invariant

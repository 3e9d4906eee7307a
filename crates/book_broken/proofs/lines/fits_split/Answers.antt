-- The split is one of the transaction at the place, or it isn't.
use Rattle.std.proofs.Common.{sym, ap, ◌∙◌}
use Rattle.std.specs.Option.{option_copied}
use Rattle.book_sound.specs.LineRules.{fits_line as fits, split_among as among}
use Rattle.book_broken.proofs.ListLemmas.{split_behind, split_there}
use Rattle.book_broken.proofs.lines.fits_split.Goals as goal

pub returns-in-Some : goal.returns-in-Some
returns-in-Some c =
    let found = ap (among c.args.number) (sym c.as_slice.ensures) ∙ sym c.split_among.ensures
    ∙ ap option_copied c.in-Some.is in
    c.fits_line.ensures
    ∙ ap (fits c.args.line.now) (sym (c.loop-transaction.invariant
    ∙ split_there c.args.number c.args.transactions.now c.loop-transaction.transaction-index
    c.loop-transaction-item.result c.in-Some.split.now c.loop-transaction-test.true c.loop-transaction-item.is found))

pub loop-transaction-preserved : goal.loop-transaction-preserved
loop-transaction-preserved c =
    let none = ap (among c.args.number) (sym c.as_slice.ensures) ∙ sym c.split_among.ensures
    ∙ ap option_copied c.in_default.is in
    c.loop-transaction.invariant
    ∙ split_behind c.args.number c.args.transactions.now c.loop-transaction.transaction-index
    c.loop-transaction-item.result c.loop-transaction-test.true c.loop-transaction-item.is none

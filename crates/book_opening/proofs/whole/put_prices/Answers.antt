-- One entry more is put.
use Rattle.std.proofs.Common.{◌+◌, [], ◌∷◌, ◌++◌, ap, ◌∙◌, drop}
use Rattle.book_keeper.specs.declared.row.Change.{Change}
use Rattle.book_rows.specs.PriceBytes.{price_bytes, IsPrice}
use Rattle.book_opening.proofs.TableLaws.{entry_added, entry_at, entry_fit}
use Rattle.book_opening.proofs.whole.put_prices.Goals as goal

pub loop-place-preserved : goal.loop-place-preserved
loop-place-preserved c =
    let entries = c.args.prices.now.entries in
    let place = c.loop-place.place in
    let number = c.number_at-number.result in
    let value = c.value_at.result.now in
    let is = entry_at entries place number value c.number_at-number.ensures c.value_at.ensures in
    record {
      added = entry_added 5 price_bytes c.loop-place.changes c.push.new.self _ (number, value) (drop place entries)
          (drop (place + 1) entries) is
          (c.in_ok-push.ensures.added
          ∙ ap (λ (change : Change). c.loop-place.changes ++ change ∷ []) c.in_ok-value_put.ensures.change)
          c.loop-place.invariant.added;
      fit = entry_fit (λ entry. IsPrice entry.1) (number, value) (drop place entries) (drop (place + 1) entries) is
          c.in_ok-value_put.ensures.fits c.loop-place.invariant.fit;
    }

use Rattle.std.proofs.Common.{◌≡◌, ℕ, Err, List, get_or, refl, subst, ◌∙◌, sym, arith}
use Rattle.std.proofs.lemmas.Result.{err_from_is_err_and}
use Rattle.book_keeper.specs.Stream.{Wrote}
use Rattle.book_prices.specs.declared.price.Price.{Price}
use Rattle.book_export.specs.Export.{HasFault, HasWritten}
use Rattle.book_export.specs.Prices.{price_line}
use Rattle.book_export.proofs.SoundLemmas.{sound_at, value_there}
use Rattle.book_export.proofs.WritingLemmas.{cut_piece, next_piece}
use Rattle.book_export.proofs.journal.write_prices.Goals as goal

pub price_line-requires-clause-sound : goal.price_line-requires-clause-sound
price_line-requires-clause-sound g c =
    sound_at c.args.book.now.prices.entries c.loop-place.place c.value_at-price.result.now c.requires.sound
    c.value_at-price.ensures

pub loop-place-preserved : goal.loop-place-preserved
loop-place-preserved g c =
    let prices = c.args.book.now.prices.entries in
    let price = c.value_at-price.result.now in
    let line : Price → List ℕ = price_line c.args.book.now.commodities.entries in
    let entry : ℕ × Price = get_or prices c.loop-place.place (0, price) in
    let mid = g.O.Sink.written c.loop-place.output in
    let now = g.O.Sink.written c.write_piece.new.output in
    let there : entry.1 ≡ price = value_there prices c.loop-place.place price (0, price) c.value_at-price.ensures in
    record {
      fed =
          next_piece (λ (e : ℕ × Price). line e.1) prices c.loop-place.place entry (0, price)
          (g.O.Sink.written c.args.output.now) mid now (omega (arith, c.len-place-end.ensures.len)) refl
          c.loop-place.invariant.fed
          (subst (λ (p : Price). Wrote mid now (line p)) (sym there)
          (c.in_ok-write_piece.ensures.written _ c.price_line.ensures));
      quiet = c.in_ok-write_piece.ensures.faults ∙ c.loop-place.invariant.quiet;
    }

pub returns-in_err-write_piece-clause-written : goal.returns-in_err-write_piece-clause-written
returns-in_err-write_piece-clause-written g c =
    let prices = c.args.book.now.prices.entries in
    let price = c.value_at-price.result.now in
    let line : Price → List ℕ = price_line c.args.book.now.commodities.entries in
    let entry : ℕ × Price = get_or prices c.loop-place.place (0, price) in
    let mid = g.O.Sink.written c.loop-place.output in
    let now = g.O.Sink.written c.write_piece.new.output in
    let there : entry.1 ≡ price = value_there prices c.loop-place.place price (0, price) c.value_at-price.ensures in
    let p = err_from_is_err_and c.from_residual.result c.from_residual.ensures.1 in
    rw (p.1, p.2)
    (cut_piece (λ (e : ℕ × Price). line e.1) prices c.loop-place.place entry (0, price)
    (g.O.Sink.written c.args.output.now) mid now c.in_err-write_piece.field-0.0
    (omega (arith, c.len-place-end.ensures.len)) refl
    c.loop-place.invariant.fed
    (subst (λ (p : Price). HasWritten mid now (line p) (Err c.in_err-write_piece.field-0.0)) (sym there)
    (c.in_err-write_piece.ensures.written _ c.price_line.ensures)))

pub returns-in_err-write_piece-clause-faults : goal.returns-in_err-write_piece-clause-faults
returns-in_err-write_piece-clause-faults g c =
    let p = err_from_is_err_and c.from_residual.result c.from_residual.ensures.1 in
    rw (p.1, p.2)
    (subst (λ (n : ℕ). HasFault n (g.O.Sink.faults c.write_piece.new.output) (Err c.in_err-write_piece.field-0.0))
    c.loop-place.invariant.quiet c.in_err-write_piece.ensures.faults)

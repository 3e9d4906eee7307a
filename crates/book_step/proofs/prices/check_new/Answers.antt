use Rattle.std.proofs.Common.{◌∷◌, []}
use Rattle.book_step.specs.Prices.{price_rules, too_many_prices}
use Rattle.book_step.proofs.OutcomeLemmas.{reported}
use Rattle.book_step.proofs.prices.check_new.Goals as goal

pub returns-in_err-check_price : goal.returns-in_err-check_price
returns-in_err-check_price c =
    let book = c.args.present.now.book in
    reported (price_rules book c.args.price.now) (too_many_prices book.prices ∷ []) c.in_err-check_price.field-0.0
    c.from_residual.result c.from_residual.ensures.1 c.in_err-check_price.ensures

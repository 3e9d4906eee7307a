use Rattle.std.proofs.Common.{Ok, refl, sym, ◌∙◌}
use Rattle.book_undo.specs.Book.{with_thing}
use Rattle.book_undo.specs.declared.thing.Thing.TheVariants as thing
use Rattle.book_command.specs.declared.answer.Answer.TheVariants as answer
use Rattle.book_step.specs.Prices.{has_numbers, price_rules, price_set_at}
use Rattle.book_step.proofs.ExactLemmas.{other_price}
use Rattle.book_step.proofs.OutcomeLemmas.{either-broken, either-changed, either-left, refused}
use Rattle.std.proofs.Common.{Some}
use Rattle.book_step.proofs.prices.price_again.Goals as goal

pub returns-in_err-check_price : goal.returns-in_err-check_price
returns-in_err-check_price c =
    let state = c.args.present.now in
    let rule = c.in_err-check_price.field-0.0 in
    let said = answer.PriceSet c.args.number in
    refused state (price_set_at state c.args.price (Some (c.args.number, c.args.old))) rule c.from_residual.result
    c.from_residual.ensures.1
    (either-broken state (has_numbers c.args.old c.args.price) (price_rules state.book c.args.price)
    (with_thing c.args.number (thing.Price c.args.price) state.book) 0 said said rule c.in_err-check_price.ensures)

pub returns-then-has_numbers : goal.returns-then-has_numbers
returns-then-has_numbers c =
    let state = c.args.present.now in
    let said = answer.PriceSet c.args.number in
    either-left state (has_numbers c.args.old c.args.price) (price_rules state.book c.args.price)
    (with_thing c.args.number (thing.Price c.args.price) state.book) 0 said said (Ok c.leaving.result)
    c.in_ok-check_price.ensures (sym c.has_numbers.ensures ∙ c.if-has_numbers.true) (c.leaving.ensures said refl)

pub changing-requires-clause-exact : goal.changing-requires-clause-exact
changing-requires-clause-exact c sound =
    other_price c.args.present.now c.args.number c.args.old c.args.price sound c.requires
    (sym c.has_numbers.ensures ∙ c.if-has_numbers.false)

pub returns : goal.returns
returns c =
    let state = c.args.present.now in
    let said = answer.PriceSet c.args.number in
    either-changed state (has_numbers c.args.old c.args.price) (price_rules state.book c.args.price)
    (with_thing c.args.number (thing.Price c.args.price) state.book) 0 said said c.changing.result
    c.in_ok-check_price.ensures (sym c.has_numbers.ensures ∙ c.if-has_numbers.false) (c.changing.ensures said refl)

use Rattle.std.proofs.Common.{◌++◌, ◌∷◌, [], None, refl, ap, subst, sym}
use Rattle.book_undo.specs.Book.{with_thing}
use Rattle.book_undo.specs.Exact.{IsExact}
use Rattle.book_undo.specs.declared.edit.Edit.{Put}
use Rattle.book_undo.specs.declared.thing.Thing.TheVariants as thing
use Rattle.book_command.specs.declared.answer.Answer.TheVariants as answer
use Rattle.book_step.specs.Prices.{price_rules, price_set_at, too_many_prices}
use Rattle.book_step.specs.State.{State}
use Rattle.book_step.proofs.ExactLemmas.{new_price}
use Rattle.book_step.proofs.OutcomeLemmas.{broken-changing, past-drawing, refused}
use Rattle.book_step.proofs.prices.new_price.Goals as goal

pub returns-in_err-check_new : goal.returns-in_err-check_new
returns-in_err-check_new c =
    let state = c.args.present.now in
    let rule = c.in_err-check_new.field-0.0 in
    refused state (price_set_at state c.args.price None) rule c.from_residual.result c.from_residual.ensures.1
    (broken-changing state (price_rules state.book c.args.price ++ too_many_prices state.book.prices ∷ [])
    (with_thing state.next (thing.Price c.args.price) state.book) 1 (answer.PriceSet state.next) rule
    c.in_err-check_new.ensures)

pub returns : goal.returns
returns c =
    let state = c.args.present.now in
    past-drawing state c.present.inside.next
    (price_rules state.book c.args.price ++ too_many_prices state.book.prices ∷ [])
    (λ n. with_thing n (thing.Price c.args.price) state.book) 1 (λ n. answer.PriceSet n) c.changing.result
    (ap (λ (s : State). s.next) c.present.view_is) c.in_ok-check_new.ensures
    (c.changing.ensures (answer.PriceSet c.present.inside.next) refl)

pub changing-requires-clause-exact : goal.changing-requires-clause-exact
changing-requires-clause-exact c sound =
    subst (λ n. IsExact c.args.present.now.book (Put n (thing.Price c.args.price)))
    (sym (ap (λ (s : State). s.next) c.present.view_is)) (new_price c.args.present.now c.args.price sound)

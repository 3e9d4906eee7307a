use Rattle.std.proofs.Common.{Ok, subst, sym, refl, ap, ◌∙◌}
use Rattle.book_commodity.proofs.RuleLemmas.{chosen-same, chosen-other}
use Rattle.book_undo.specs.Book.{with_currency}
use Rattle.book_step.specs.Commodities.{currency_rules}
use Rattle.book_step.specs.Outcome.{Outcome, StepsTo, changing, leaving}
use Rattle.book_step.specs.State.{State}
use Rattle.book_command.specs.declared.answer.Answer.TheVariants as answer
use Rattle.book_step.proofs.OutcomeLemmas.{past-changing, past-leaving}
use Rattle.book_step.proofs.ExactLemmas.{other_currency}
use Rattle.book_step.proofs.commodities.book_currency.Goals as goal

pub returns-then-commodity-present : goal.returns-then-commodity-present
returns-then-commodity-present c =
    let state = c.args.present.now in
    let rules = currency_rules state.book c.args.commodity in
    let same = c.if-commodity-present.true ∙ ap (λ (s : State). s.book.currency) c.present.view_is in
    let left = leaving state rules answer.BookCurrency in
    let changed = changing state rules (with_currency c.args.commodity state.book) 0 answer.BookCurrency in
    subst (λ (outcome : Outcome). StepsTo state outcome (Ok c.leaving.result))
    (sym (chosen-same c.args.commodity state.book.currency left changed same))
    (past-leaving state rules answer.BookCurrency (Ok c.leaving.result) c.in_ok-check_currency.ensures
    (c.leaving.ensures answer.BookCurrency refl))

pub returns : goal.returns
returns c =
    let state = c.args.present.now in
    let rules = currency_rules state.book c.args.commodity in
    let here = ap (λ (s : State). s.book.currency) c.present.view_is in
    let left = leaving state rules answer.BookCurrency in
    let changed = changing state rules (with_currency c.args.commodity state.book) 0 answer.BookCurrency in
    subst (λ (outcome : Outcome). StepsTo state outcome c.changing.result)
    (sym (chosen-other c.args.commodity state.book.currency left changed
    (λ same. c.if-commodity-present.false (same ∙ sym here))))
    (past-changing state rules
    (with_currency c.args.commodity state.book) 0 answer.BookCurrency c.changing.result c.in_ok-check_currency.ensures
    (c.changing.ensures answer.BookCurrency refl))

pub changing-requires-clause-exact : goal.changing-requires-clause-exact
changing-requires-clause-exact c sound =
    let here = ap (λ (s : State). s.book.currency) c.present.view_is in
    other_currency c.args.present.now c.args.commodity sound (λ same. c.if-commodity-present.false (same ∙ sym here))

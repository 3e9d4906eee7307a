use Rattle.std.proofs.Common.{ℕ, refl, ap, subst, sym}
use Rattle.book_undo.specs.Book.{with_thing}
use Rattle.book_undo.specs.declared.thing.Thing.TheVariants as thing
use Rattle.book_step.specs.Commodities.{add_rules}
use Rattle.book_step.specs.State.{State}
use Rattle.book_command.specs.declared.answer.Answer.TheVariants as answer
use Rattle.book_step.proofs.OutcomeLemmas.{past-drawing}
use Rattle.book_undo.specs.Exact.{IsExact}
use Rattle.book_undo.specs.declared.edit.Edit.{Put}
use Rattle.book_step.proofs.ExactLemmas.{new_commodity}
use Rattle.book_step.proofs.commodities.commodity_add.Goals as goal

pub returns : goal.returns
returns c =
    past-drawing c.args.present.now c.present.inside.next (add_rules c.args.present.now.book c.args.commodity)
    (λ n. with_thing n (thing.Commodity c.args.commodity) c.args.present.now.book) 1 (λ n. answer.CommodityAdd n)
    c.changing.result (ap (λ (state : State). state.next) c.present.view_is) c.in_ok-check_new.ensures
    (c.changing.ensures (answer.CommodityAdd c.present.inside.next) refl)

pub changing-requires-clause-exact : goal.changing-requires-clause-exact
changing-requires-clause-exact c sound =
    subst (λ (n : ℕ). IsExact c.args.present.now.book (Put n (thing.Commodity c.args.commodity)))
    (sym (ap (λ (state : State). state.next) c.present.view_is))
    (new_commodity c.args.present.now c.args.commodity sound)

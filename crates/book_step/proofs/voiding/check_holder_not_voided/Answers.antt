use Rattle.std.proofs.Common.{◌≡◌, [], ◌∷◌, Option, ap, sym, subst}
use Rattle.book_commodity.specs.Rules.{ReportsFirst}
use Rattle.book_command.specs.declared.rule.Rule.{Rule}
use Rattle.book_step.specs.Marking.{Held, IsHeld}
use Rattle.book_step.proofs.VoidRuleLemmas.{voided-held}
use Rattle.book_step.proofs.voiding.check_holder_not_voided.Goals as goal

pub returns : goal.returns
returns c =
    let book = c.args.present.now.book in
    let held : Held = record {
      number = c.held.inside.number;
      transaction = c.held.inside.transaction.now;
      split = c.held.inside.split.now;
    } in
    let has = subst (λ (h : Held). IsHeld book.transactions c.args.number h) (sym c.held.view_is) c.requires in
    subst (λ (rule : Option Rule). ReportsFirst (rule ∷ []) c.check_not_voided.result)
    (sym (voided-held book c.args.number held c.known.ensures.book has)) c.check_not_voided.ensures.rules

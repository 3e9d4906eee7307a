use Rattle.std.proofs.Common.{◌≡◌, ap, rules, subst}
use Rattle.book_command.specs.declared.rule.Rule.{Rule}
use Rattle.book_engine.specs.Books.{machine_kept, machine_of}
use Rattle.book_engine.specs.Machine.{Broken, step}
use Rattle.book_engine.specs.Planned.{IsRefusal}
use Rattle.book_engine.proofs.StandLemmas.{stands_unchanged}
use Rattle.book_app.proofs.ResponseLemmas.{broken_response, done_response}
use Rattle.book_app.proofs.respond.respond_to_command.Goals as goal

pub returns-in-Ok-clause-answered : goal.returns-in-Ok-clause-answered
returns-in-Ok-clause-answered g c =
    done_response c.finished.result c.args.engine.now c.prepare.new.self c.finished.new.engine c.args.command
    c.in-Ok.plan c.args.close c.prepare.ensures.unchanged c.in-Ok.ensures.planned c.finished.ensures.bytes
    c.finished.ensures.state

pub returns-in-Ok-clause-stands : goal.returns-in-Ok-clause-stands
returns-in-Ok-clause-stands g c = λ stood.
    c.finished.ensures.stands
    (stands_unchanged g.K.Keeper c.args.keeper.now c.args.engine.now c.prepare.new.self
    c.prepare.ensures.unchanged stood)

pub returns-in-Err-Broken-clause-answered : goal.returns-in-Err-Broken-clause-answered
returns-in-Err-Broken-clause-answered g c =
    let rule : Rule = c.in-Err-Broken.rule in
    let broken : step (machine_kept c.args.engine.now) c.args.command ≡ Broken rule =
    subst (λ refusal. IsRefusal (step (machine_kept c.args.engine.now) c.args.command) refusal)
    c.in-Err-Broken.field-0-is
    c.in-Err-Broken.ensures.refused in
    broken_response c.rule_text.result c.response.result c.responded.result c.args.engine.now c.prepare.new.self
    c.args.command rule c.version.result c.args.close c.prepare.ensures.unchanged broken c.version.ensures
    c.responded.ensures.bytes c.response.ensures c.rule_text.ensures

pub returns-in-Err-Broken-clause-stands : goal.returns-in-Err-Broken-clause-stands
returns-in-Err-Broken-clause-stands g c =
    stands_unchanged g.K.Keeper c.args.keeper.now c.args.engine.now c.prepare.new.self c.prepare.ensures.unchanged

pub returns-in-Err-Keeper : goal.returns-in-Err-Keeper
returns-in-Err-Keeper g c = record {
  answered = tt;
  kept = ap machine_of c.prepare.ensures.unchanged.same_state;
  changes = λ is. absurd cc;
  failed = λ is. absurd cc;
  later = search rules;
  stands = stands_unchanged g.K.Keeper c.args.keeper.now c.args.engine.now c.prepare.new.self
      c.prepare.ensures.unchanged;
  follows = search rules;
}

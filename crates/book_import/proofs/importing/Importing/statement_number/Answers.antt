-- An equal statement is there, or this one is added.
use Rattle.std.proofs.Common.{◌++◌, ap, ◌∙◌}
use Rattle.book_import.specs.Import.{held_of, number_among}
use Rattle.book_import.proofs.StepLemmas.{held-added, held-there, number-is, number-none}
use Rattle.book_import.proofs.importing.Importing.statement_number.Goals as goal

pub returns-in-Some-clause-number : goal.returns-in-Some-clause-number
returns-in-Some-clause-number c =
    let all = c.args.statements.now ++ c.args.self.now.added.statements in
    let there = number_among (held_of c.args.bound.now) all in
    number-is there c.number_there.result c.in-Some.number c.args.self.now.added.next
    (c.number_there.ensures ∙ ap (λ held. number_among held all) c.in_ok-held.ensures) c.in-Some.is

pub returns-in-Some-clause-adds : goal.returns-in-Some-clause-adds
returns-in-Some-clause-adds c =
    let all = c.args.statements.now ++ c.args.self.now.added.statements in
    let there = number_among (held_of c.args.bound.now) all in
    λ lines has. (
      held-there there c.number_there.result c.in-Some.number (held_of c.args.bound.now) c.args.self.now.added
          (c.number_there.ensures ∙ ap (λ held. number_among held all) c.in_ok-held.ensures) c.in-Some.is,
      has,
    )

pub returns-clause-number : goal.returns-clause-number
returns-clause-number c =
    let all = c.args.statements.now ++ c.args.self.now.added.statements in
    let there = number_among (held_of c.args.bound.now) all in
    number-none there c.number_there.result c.args.self.now.added.next
    (c.number_there.ensures ∙ ap (λ held. number_among held all) c.in_ok-held.ensures) c.in_default.is

pub returns-clause-adds : goal.returns-clause-adds
returns-clause-adds c =
    let all = c.args.statements.now ++ c.args.self.now.added.statements in
    let there = number_among (held_of c.args.bound.now) all in
    λ lines has. (
      held-added there c.number_there.result (held_of c.args.bound.now) c.in_ok-held.held c.args.self.now.added
          c.push.new.self c.in_ok-self.field-0
          (c.number_there.ensures ∙ ap (λ held. number_among held all) c.in_ok-held.ensures) c.in_default.is
          c.in_ok-held.ensures c.in_ok-push.ensures.added c.in_ok-self.ensures,
      has,
    )

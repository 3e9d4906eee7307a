-- The statement has its number, and then its lines are added or seen.
use Rattle.std.proofs.Common.{ap, ◌∙◌}
use Rattle.std.proofs.lemmas.Result.{IfOk-weaker}
use Rattle.book_statement.specs.Keys.{keys_of}
use Rattle.book_import.specs.Import.{Bound}
use Rattle.book_import.proofs.StepLemmas.{keys-follow, statement-done}
use Rattle.book_import.proofs.importing.Importing.add_statement.Goals as goal

pub add_lines-requires : goal.add_lines-requires
add_lines-requires c =
    keys-follow c.bound.inside.account c.in_ok-keys.keys c.as_slice.result.now c.bound.inside.statement.now.lines
    c.as_slice-2.result.now c.as_slice.ensures c.as_slice-2.ensures c.in_ok-keys.ensures

pub returns : goal.returns
returns c =
    IfOk-weaker c.add_lines.result _ _
    (λ x takes. statement-done c.args.statements.now c.args.bound.now c.in_ok-number.number c.as_slice.result.now
    c.as_slice-2.result.now c.args.self.now c.statement_number.new.self c.add_lines.new.self
    c.in_ok-number.ensures.number
    (c.as_slice.ensures ∙ c.in_ok-keys.ensures
    ∙ ap (λ (b : Bound). keys_of b.account b.statement.lines) c.bound.view_is)
    (c.as_slice-2.ensures ∙ ap (λ (b : Bound). b.statement.lines) c.bound.view_is) c.in_ok-number.ensures.adds takes)
    c.add_lines.ensures

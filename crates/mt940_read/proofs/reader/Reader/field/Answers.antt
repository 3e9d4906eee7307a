use Rattle.std.proofs.Common.{◌≡◌, ◌+◌, Err, Some, sym, ap, subst, ◌∙◌}
use Rattle.book_statement.specs.declared.read_error.ReadError.{ReadError}
use Rattle.book_statement.specs.Checks.{first_bad}
use Rattle.mt940_read.specs.declared.tag.Kind.TheVariants.{Field}
use Rattle.mt940_read.specs.FieldChecks.{field_checks}
use Rattle.mt940_read.specs.Steps.{Steps, line_checks_of, next, past_kept}
use Rattle.mt940_read.proofs.StepLemmas.{field_bad, fits_of}
use Rattle.mt940_read.proofs.reader.Reader.field.Goals as goal

pub returns-in-Err : goal.returns-in-Err
returns-in-Err c =
    let known = c.args.known.now.entries in
    let self = c.args.self.now in
    let line = c.args.line.now in
    let failed : first_bad (field_checks known (past_kept self) self.message c.args.tag c.field_text-text.result.now)
    ≡ Some c.in-Err.bad = c.in-Err.ensures in
    subst (λ (e : ReadError). Steps {X = Unit {0}} (c.args.before + 1)
    (line_checks_of known (Field c.args.tag) line self) (next known (Field c.args.tag) line self) (Err e) self)
    (sym c.fault.ensures)
    (field_bad known self c.args.before c.args.tag line c.in-Err.bad c.if-is_none.ensures
    (ap (λ t. first_bad (field_checks known (past_kept self) self.message c.args.tag t))
    (sym c.field_text-text.ensures) ∙ failed))

pub add-requires-clause-fits : goal.add-requires-clause-fits
add-requires-clause-fits c =
    fits_of c.args.known.now.entries (past_kept c.args.self.now) c.args.self.now.message c.args.tag
    c.field_text-text.result.now c.in-Ok.ensures.0

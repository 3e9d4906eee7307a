use Rattle.std.proofs.Common.{◌≡◌, Ok, Err, false, true, sym, ap, subst, ◌∙◌}
use Rattle.book_statement.specs.declared.read_error.ReadError.{ReadError}
use Rattle.book_statement.specs.Checks.{Gives, unless_fault}
use Rattle.mt940_read.specs.Steps.{no_statement}
use Rattle.mt940_read.proofs.StepLemmas.{answer_some}
use Rattle.mt940_read.proofs.answer.answer.Goals as goal

pub returns-then-is_empty : goal.returns-then-is_empty
returns-then-is_empty c =
    subst (λ (e : ReadError). Gives (unless_fault (no_statement c.args.done) c.args.done) (Err e))
    (sym c.fault.ensures)
    (ap (λ d. unless_fault (no_statement d) d) (c.is_empty.ensures.0 c.if-is_empty.true))

pub returns : goal.returns
returns c =
    answer_some c.args.done (λ e. let both : false ≡ true = sym c.if-is_empty.false
    ∙ c.is_empty.ensures.1 e in absurd cc) ∙ ap Ok (sym c.into_many.ensures)

use Rattle.std.proofs.Common.{Some, None, ap, sym, ◌∙◌}
use Rattle.std.specs.Option.{option_copied}
use Rattle.book_step.proofs.KeptReconciling.{kept-rows}
use Rattle.book_step.proofs.reconciling.register_or.Goals as goal

pub returns-in-Some : goal.returns-in-Some
returns-in-Some c = λ book keeps.
    kept-rows c.args.registers.now.entries book c.args.account (Some c.in-Some.register.now) keeps
    (ap option_copied (sym c.in-Some.is) ∙ c.kept.ensures)

pub returns-in-None : goal.returns-in-None
returns-in-None c = λ book keeps.
    c.requires
    ∙ kept-rows c.args.registers.now.entries book c.args.account None keeps
    (ap option_copied (sym c.in-None.is) ∙ c.kept.ensures)

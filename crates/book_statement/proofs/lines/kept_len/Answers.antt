use Rattle.std.proofs.Common.{sym, ap, ◌∙◌, arith}
use Rattle.std.proofs.lemmas.List.{take_all}
use Rattle.book_statement.specs.Texts.{without_spaces}
use Rattle.book_statement.proofs.TextLemmas.{space_off, ends_here}
use Rattle.book_statement.proofs.lines.kept_len.Goals as goal

pub loop-end-init : goal.loop-end-init
loop-end-init c = (
  omega arith,
  ap without_spaces (take_all _ c.args.line.now (omega arith)),
  λ h. absurd
      (omega arith),
)

pub loop-end-preserved : goal.loop-end-preserved
loop-end-preserved c = (
  omega arith,
  space_off c.args.line.now c.loop-end.end c.loop-end-test.true c.loop-end.invariant.0 c.if-line-end-eq32.true
      ∙ c.loop-end.invariant.1,
  λ h. c.if-line-end-eq32.true,
)

pub returns-else-line-end-eq32-clause-kept : goal.returns-else-line-end-eq32-clause-kept
returns-else-line-end-eq32-clause-kept c =
    sym (ends_here c.args.line.now c.loop-end.end c.loop-end.invariant.0 (λ _. c.if-line-end-eq32.false))
    ∙ c.loop-end.invariant.1

pub returns-after-loop-end-clause-kept : goal.returns-after-loop-end-clause-kept
returns-after-loop-end-clause-kept c =
    sym (ends_here c.args.line.now c.loop-end.end c.loop-end.invariant.0 (λ h. absurd (omega arith)))
    ∙ c.loop-end.invariant.1

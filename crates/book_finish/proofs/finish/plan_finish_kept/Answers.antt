use Rattle.std.proofs.Common.{rules, FitsSigned, w64, ◌∙◌, arith}
use mir.Syntax.{w128}
use Rattle.std.proofs.lemmas.Int.{ints, to_z-of_z}
use Rattle.book_finish.proofs.FinishLemmas.{record-is}
use Rattle.book_finish.proofs.SumLemmas.{difference-is, opening-is}
use Rattle.book_finish.proofs.MarkLemmas.{marked-is}
use Rattle.book_finish.proofs.finish.plan_finish_kept.Goals as goal

pub returns-then-by-ne0 : goal.returns-then-by-ne0
returns-then-by-ne0 c = λ ts rises is.
    let fits : FitsSigned w128 c.difference_from-by.result = search rules in
    let closing : FitsSigned w64 c.args.closing = search rules in
    let same = difference-is c.args.account c.args.day c.args.closing ts c.args.register.now.rows is in (
      omega (arith, ints, fits, closing, c.difference_from-by.ensures, same),
      λ zero. c.if-by-ne0.true (omega (arith, ints, fits, zero)),
    )

pub returns-in_default : goal.returns-in_default
returns-in_default c = λ ts rises is.
    let fits : FitsSigned w128 c.difference_from-by.result = search rules in
    let closing : FitsSigned w64 c.args.closing = search rules in
    let same = difference-is c.args.account c.args.day c.args.closing ts c.args.register.now.rows is in
    omega (arith, ints, fits, closing, c.difference_from-by.ensures, same, c.if-by-ne0.false)

pub returns : goal.returns
returns c = λ ts rises is.
    let rows = c.args.register.now.rows in
    let fits : FitsSigned w128 c.difference_from-by.result = search rules in
    let closing : FitsSigned w64 c.args.closing = search rules in
    let first : FitsSigned w128 c.opening_balance-opening.result = search rules in
    let same = difference-is c.args.account c.args.day c.args.closing ts rows is in
    let said = to_z-of_z w64 c.args.closing closing in
    let opened = to_z-of_z w128 c.opening_balance-opening.result first
    ∙ c.opening_balance-opening.ensures ∙ opening-is c.args.account ts rows is in
    let listed = c.in-Ok.ensures ∙ marked-is c.args.day c.args.account ts rows rises is in (
      omega (arith, ints, fits, closing, c.difference_from-by.ensures, same, c.if-by-ne0.false),
      record-is c.args.account c.args.day c.args.closing _ _ c.in-Ok.marked ts opened said listed,
    )

use Rattle.std.proofs.Common.{rules, FitsSigned, arith}
use mir.Syntax.{w128}
use Rattle.std.proofs.lemmas.Int.{ints}
use Rattle.book_seq.proofs.SumLemmas.{same_sums}
use Rattle.book_seq.proofs.sums.Sums.plus.Goals as goal

pub returns : goal.returns
returns c =
    let a : FitsSigned w128 c.args.self.first = search rules in
    let b : FitsSigned w128 c.args.self.second = search rules in
    let d : FitsSigned w128 c.args.self.third = search rules in
    let e : FitsSigned w128 c.args.other.first = search rules in
    let f : FitsSigned w128 c.args.other.second = search rules in
    let h : FitsSigned w128 c.args.other.third = search rules in
    same_sums _ _ (omega (arith, ints)) (omega (arith, ints)) (omega (arith, ints))

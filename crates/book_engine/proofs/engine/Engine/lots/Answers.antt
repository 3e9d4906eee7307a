use Rattle.std.proofs.Common.{◌≡◌, true, false, sym, ap, ◌∙◌, arith}
use Rattle.std.proofs.lemmas.Bool.Decides.{nat_tests}
use Rattle.book_engine.specs.Changed.{is_live_security, live_lots}
use Rattle.book_engine.specs.Kept.{Kept, kept_by}
use Rattle.book_engine.proofs.LotsLemmas.{lots_live, not_live}
use Rattle.book_engine.proofs.engine.Engine.lots.Goals as goal

pub returns-then-not-is_security : goal.returns-then-not-is_security
returns-then-not-is_security c =
    let kept = kept_by c.self.inside in
    let none : is_live_security kept.state.book c.args.account ≡ false =
    (let test = c.if-not-is_security.true in let of = c.is_security.ensures in grind (arith, nat_tests, test, of)) in
    sym (not_live kept c.args.account none) ∙ ap (λ (k : Kept). live_lots k c.args.account) c.self.view_is

pub returns : goal.returns
returns c =
    let kept = kept_by c.self.inside in
    let live : is_live_security kept.state.book c.args.account ≡ true =
    (let test = c.if-not-is_security.false in let of = c.is_security.ensures in grind (arith, nat_tests, test, of)) in
    c.lots.ensures ∙ lots_live kept c.args.account c.self.invariant.registers live
    ∙ ap (λ (k : Kept). live_lots k c.args.account) c.self.view_is

use Rattle.std.proofs.Common.{◌≡◌, false, ap, sym, subst, ◌∙◌}
use Rattle.bai2_read.specs.Kept.{Keeps, goes_on}
use Rattle.bai2_read.specs.declared.reader.Reader.{Reader}
use Rattle.bai2_read.proofs.KeptLemmas.{ends_here}
use Rattle.bai2_read.proofs.reader.Reader.go_on.Goals as goal
use Rattle.bai2_read.proofs.reader.Reader.go_on.Goals.{in-Some, in-None}

pub returns-then-not-goes_on : goal.returns-then-not-goes_on
returns-then-not-goes_on c =
    let ends : goes_on c.args.self.now.pending ≡ false =
    elim c.match-self.branch [
      | in-Some w ↦ cc (ap goes_on w.in-Some.is, w.may_go_on-goes_on.ensures, w.goes_on-is, c.if-not-goes_on.true)
      | in-None w ↦ ap goes_on w.in-None.is
    ] in
    let same : c.args.self.now ≡ c.match-self.self =
    elim c.match-self.branch [ in-Some w ↦ cc w.self-is | in-None w ↦ cc w.self-is ] in
    λ done last keeps. ends_here c.args.known.now.entries c.args.number c.args.body.now done last c.begin.result
    c.begin.new.self (ap goes_on (sym keeps.pending) ∙ ends)
    (c.begin.ensures done last (subst (λ (r : Reader). Keeps c.args.known.now.entries r done last) same keeps))

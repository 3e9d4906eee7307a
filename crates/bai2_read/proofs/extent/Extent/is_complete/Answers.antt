use Rattle.std.proofs.Common.{List, ℕ}
use Rattle.bai2_read.specs.Extent.{HasExtent}
use Rattle.bai2_read.specs.declared.kind.Kind.TheVariants.{Detail}
use Rattle.bai2_read.proofs.ExtentLemmas.{long_by, short_by}
use Rattle.bai2_read.proofs.extent.Extent.is_complete.Goals as goal

pub returns-then-self-lt5 : goal.returns-then-self-lt5
returns-then-self-lt5 c =
    λ (body : List ℕ) (known : HasExtent Detail body c.args.self.fields c.args.self.full). short_by body
    c.args.self.fields c.args.self.full known c.if-self-lt5.true

pub returns : goal.returns
returns c =
    λ (body : List ℕ) (known : HasExtent Detail body c.args.self.fields c.args.self.full). long_by body
    c.args.self.fields c.args.self.full known c.if-self-lt5.false

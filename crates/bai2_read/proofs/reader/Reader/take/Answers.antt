use Rattle.std.proofs.Common.{sym, ◌∙◌}
use Rattle.bai2_read.specs.declared.kind.Kind.TheVariants.{Continuation}
use Rattle.bai2_read.specs.Kinds.{body_of, kind_of}
use Rattle.bai2_read.proofs.KeptLemmas.{begins_here, line_leads}
use Rattle.bai2_read.proofs.reader.Reader.take.Goals as goal

pub returns-in-Continuation : goal.returns-in-Continuation
returns-in-Continuation c =
    let line = c.args.line.now in
    let told = c.record_of-kind.ensures in
    λ done last keeps. line_leads c.args.known.now.entries c.args.number Continuation (kind_of line)
    c.record_of-kind.result.1.now (body_of line) done last c.go_on.result c.go_on.new.self
    (sym c.in-Continuation.is ∙ told.kind) told.body (c.go_on.ensures done last keeps)

pub returns-in_default : goal.returns-in_default
returns-in_default c =
    let line = c.args.line.now in
    let said = c.record_of-kind.result in
    let told = c.record_of-kind.ensures in
    λ done last keeps. line_leads c.args.known.now.entries c.args.number said.0 (kind_of line) said.1.now
    (body_of line) done last c.begin.result c.begin.new.self told.kind told.body
    (begins_here c.args.known.now.entries c.args.number said.0 said.1.now done last c.begin.result c.begin.new.self
    c.in_default.not-Blank c.in_default.not-Continuation (c.begin.ensures done last keeps))

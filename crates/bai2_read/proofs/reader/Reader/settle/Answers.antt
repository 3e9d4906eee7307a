use Rattle.std.proofs.Common.{◌≡◌, Some, sym, ◌∙◌}
use Rattle.bai2_read.specs.declared.reader.Reader.{Reader}
use Rattle.bai2_read.proofs.KeptLemmas.{settled_fault, settled_some}
use Rattle.bai2_read.proofs.reader.Reader.settle.Goals as goal

pub returns-in-Some-fault_at : goal.returns-in-Some-fault_at
returns-in-Some-fault_at c =
    let some : c.args.self.now.pending ≡ Some c.in-Some.record = cc (c.take.ensures.value, c.in-Some.is) in
    λ done last keeps. settled_fault c.args.known.now.entries c.args.self.now done last c.in-Some.record
    c.in-Some-fault_at.fault keeps some (sym c.in-Some-fault_at.is ∙ c.fault_at.ensures)

pub returns-in_default-keep : goal.returns-in_default-keep
returns-in_default-keep c =
    let some : c.args.self.now.pending ≡ Some c.in-Some.record = cc (c.take.ensures.value, c.in-Some.is) in
    let new : Reader = record { context = c.keep.new.self; pending = c.take.new.self } in
    λ done last keeps. settled_some c.args.known.now.entries c.args.self.now new done last c.in-Some.record keeps some
    (sym c.in_default-fault_at.is ∙ c.fault_at.ensures) c.in_default-keep.ensures c.take.ensures.after

use Rattle.std.proofs.Common.{None, false}
use Rattle.mt940_read.proofs.reader.Reader.new.Goals as goal

pub returns : goal.returns
returns c known =
    λ i. record { done = c.new.ensures i; page = None; message = c.new-2.ensures known i; text_goes_on = false }

use Rattle.bai2_read.proofs.KeptLemmas.{context_more}
use Rattle.bai2_read.proofs.context.Context.keep.Goals as goal

pub returns : goal.returns
returns c =
    λ before said. context_more c.args.self.now c.keep_said.new.self c.in_ok-of_account.of_account
    c.in_ok-of_group.of_group c.in_ok-of_file.of_file c.args.entry c.in_ok-keep_said.ensures before said
    (c.in_ok-of_account.ensures before) (c.in_ok-of_group.ensures before) (c.in_ok-of_file.ensures before)

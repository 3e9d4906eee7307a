-- A number that both have is that of a split of each.
use Rattle.std.proofs.Common.{◌∙◌}
use Rattle.book_broken.proofs.ListLemmas.{shared}
use Rattle.book_broken.proofs.transactions.share_numbers.Goals as goal

pub returns : goal.returns
returns c = c.share_one.ensures ∙ shared c.args.transaction.now.splits c.args.other.now.splits

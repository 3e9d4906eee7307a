use Rattle.book_match.proofs.IndexLemmas.{parted-before}
use Rattle.book_match.proofs.index.place_of.Goals as goal

pub cut-requires : goal.cut-requires
cut-requires c = parted-before c.args.free.now c.args.entries.now.list c.requires

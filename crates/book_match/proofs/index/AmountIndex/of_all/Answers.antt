use Rattle.std.proofs.Common.{subst, sym, ◌∙◌}
use Rattle.book_match.specs.AmountIndex.{Rises}
use Rattle.book_match.proofs.OrderedLemmas.{rises-ordered}
use Rattle.book_match.proofs.index.AmountIndex.of_all.Goals as goal

pub invariant_of-result : goal.invariant_of-result
invariant_of-result c =
    subst Rises (sym (c.in_ok-in_chunks.ensures ∙ c.as_slice.ensures.value ∙ c.in_ok-sort.ensures))
    (rises-ordered c.args.entries.items c.requires.apart)

use Rattle.std.proofs.Common.{false, ap, sym, ◌∙◌, ◌≡◌}
use Rattle.std.specs.Option.{option_copied}
use Rattle.std.specs.Prelude.{Some, fold}
use Rattle.book_match.specs.Proposal.{is_candidate, nearer}
use Rattle.book_match.proofs.TakenLemmas.{past-other}
use Rattle.book_match.proofs.nearest.nearest.Goals as goal

pub loop-split-preserved-then-not-is_candidate : goal.loop-split-preserved-then-not-is_candidate
loop-split-preserved-then-not-is_candidate c =
    let other : is_candidate c.args.window c.args.line.now c.split-item.result ≡ false =
    sym c.is_candidate.ensures ∙ c.if-not-is_candidate.true in
    ap (fold (λ o split. Some (nearer c.args.line.now o split)) (option_copied c.loop-split.best))
    (sym (past-other c.args.window c.args.line.now c.args.taken.now c.args.splits.now c.loop-split.split-index
    c.split-item.result c.loop-split-test.true c.split-item.is other))
    ∙ c.loop-split.invariant

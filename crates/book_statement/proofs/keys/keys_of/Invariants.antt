use Rattle.std.proofs.Common.{◌≡◌, take, count_by, unwrap_or}
use Rattle.std.specs.BTreeMap.{get}
use Rattle.book_statement.specs.Keys.{keys_of}
use Rattle.book_statement.proofs.TwinLemmas.{Twin, twin_cmp, has_twin}
use Rattle.book_statement.proofs.keys.keys_of.Given as goal

abbrev pub invariant-loop-line : goal.invariant-loop-line
invariant-loop-line l =
    (l.keys ≡ keys_of l.account (take l.line-index l.lines))
    × ((q : Twin) → unwrap_or (get twin_cmp l.seen q) 0 ≡ count_by (has_twin q) (take l.line-index l.lines))

-- The pieces around a number sign.
use Rattle.std.proofs.Common.{arith}
use Rattle.gate_rows.proofs.SplitLemmas.{piece_at, pieces_at}
use Rattle.gate_rows.proofs.counters.cut.Goals as goal

pub returns-in-Some : goal.returns-in-Some
returns-in-Some c =
    let parts =
    pieces_at 35 c.args.text.now (c.in-Some.piece, c.in-Some.behind) c.in-Some.ensures.cases (omega arith) in
    record { some = parts.0; shorter = parts.1; none = tt }

pub returns-in-None : goal.returns-in-None
returns-in-None c =
    record { some = tt; shorter = tt; none = piece_at 35 c.args.text.now c.in-None.ensures.cases (omega arith) }

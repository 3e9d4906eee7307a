use Rattle.std.proofs.Common.{◌∙◌, sym, subst, refl, [], ◌∷◌, ◌++◌, length, take, drop, ◌+◌, ◌-◌, ◌<◌, ◌^◌, arith}
use Rattle.std.proofs.Common.{length-take, length-drop}
use Rattle.book_lines.specs.Lines.{left_over}
use Rattle.book_lines.specs.RunClause.{at}
use Rattle.book_lines.specs.Loop.{HasTaken}
use Rattle.book_lines.proofs.LineLemmas.{one_line-none, one_line-before, line_parts}
use Rattle.book_lines.proofs.LoopLemmas.{HasTaken-nil, HasTaken-append, HasTaken-segment, HasTaken-more}
use Rattle.book_lines.proofs.LoopLemmas.{HasStopped-output}
use Rattle.book_lines.proofs.piece.take_piece.Goals as goal

pub lines-init : goal.lines-init
lines-init g c =
    let start = at c.args.machine.now (g.O.Sink.written c.args.output.now) (g.M.Machine.faults c.args.keeper.now) in
    record {
      taken = (
        [],
        refl,
        λ begun is few. HasTaken-nil g.M.Machine.answers begun start c.args.line.now c.args.count.now
            is few,
      );
      fits = c.requires.fits;
      quiet = refl;
      stands = c.requires.stands;
      follows = g.met.M.Machine.follows_itself c.args.keeper.now;
    }

-- no line feed is left in the piece
pub returns-in_default-clause-taken : goal.returns-in_default-clause-taken
returns-in_default-clause-taken g c begun is few =
    let start = at c.args.machine.now (g.O.Sink.written c.args.output.now) (g.M.Machine.faults c.args.keeper.now) in
    let now = at c.lines.machine (g.O.Sink.written c.lines.output) (g.M.Machine.faults c.lines.keeper) in
    let taken = c.lines.invariant.taken in
    let before = taken.2 begun is few in
    let rest = c.lines.rest.now in
    let line = left_over begun taken.0 in
    let alone = one_line-none rest c.in_default.ensures in
    subst (λ l. HasTaken g.M.Machine.answers begun l start now c.extend.new.self c.args.count.now c.lines.count)
    (sym taken.1)
    (HasTaken-append g.M.Machine.answers begun taken.0 rest start now now c.lines.line c.extend.new.self
    c.args.count.now c.lines.count c.lines.count before
    (HasTaken-segment g.M.Machine.answers line rest now c.extend.new.self c.lines.count alone
    (c.extend.ensures line before.room_is) (omega (arith, c.if-count-ge-MAX_LINES.false))))

-- the output failed at the line feed
pub returns-in-Err-clause-stopped : goal.returns-in-Err-clause-stopped
returns-in-Err-clause-stopped g c begun is few =
    let start = at c.args.machine.now (g.O.Sink.written c.args.output.now) (g.M.Machine.faults c.args.keeper.now) in
    let now = at c.lines.machine (g.O.Sink.written c.lines.output) (g.M.Machine.faults c.lines.keeper) in
    let then' = at c.end_line.new.machine (g.O.Sink.written c.end_line.new.output)
    (g.M.Machine.faults c.end_line.new.keeper) in
    let taken = c.lines.invariant.taken in
    let rest = c.lines.rest.now in
    let end = c.in-Some.end in
    let first = c.in-Some.ensures in
    HasStopped-output g.M.Machine.answers begun c.args.piece.now taken.0 (take end rest)
    (take (length rest - (end + 1)) (drop (end + 1) rest))
    start now then' c.lines.line c.extend-in-lines.new.self c.args.count.now c.lines.count
    (line_parts c.args.piece.now taken.0 rest end (length rest) taken.1 first.1 first.0.high refl)
    (taken.2 begun is few) (omega (arith, c.if-count-ge-MAX_LINES.false))
    (one_line-before rest end first.0) c.extend-in-lines.ensures c.in-Err.ensures.broken

pub lines-preserved : goal.lines-preserved
lines-preserved g c =
    let start = at c.args.machine.now (g.O.Sink.written c.args.output.now) (g.M.Machine.faults c.args.keeper.now) in
    let now = at c.lines.machine (g.O.Sink.written c.lines.output) (g.M.Machine.faults c.lines.keeper) in
    let then' = at c.end_line.new.machine (g.O.Sink.written c.end_line.new.output)
    (g.M.Machine.faults c.end_line.new.keeper) in
    let taken = c.lines.invariant.taken in
    let rest = c.lines.rest.now in
    let end = c.in-Some.end in
    let first = c.in-Some.ensures in
    let fits : c.end_line.new.line.size + length (take (length rest - (end + 1)) (drop (end + 1) rest)) < 2 ^ 64 =
    omega (
      arith,
      c.end_line.ensures.empty,
      c.lines.invariant.fits,
      length-take (length rest - (end + 1))
          (drop (end + 1) rest),
      length-drop (end + 1) rest,
    ) in
    record {
      taken = (
        taken.0 ++ (take end rest ++ 10 ∷ []),
        line_parts c.args.piece.now taken.0 rest end (length rest) taken.1 first.1 first.0.high refl,
        λ begun is few.
            HasTaken-more g.M.Machine.answers begun taken.0
            (take end rest) start now then' c.lines.line c.extend-in-lines.new.self c.end_line.new.line
            c.args.count.now c.lines.count c.end_line.new.count
            (taken.2 begun is few) (omega (arith, c.if-count-ge-MAX_LINES.false))
            (one_line-before rest end first.0) c.extend-in-lines.ensures c.in-Ok.ensures.taken,
      );
      fits = fits;
      quiet = c.in-Ok.ensures.cause.done ∙ c.lines.invariant.quiet;
      stands = c.end_line.ensures.stands;
      follows = g.met.M.Machine.follows_through _ _ _ c.lines.invariant.follows c.end_line.ensures.follows;
    }

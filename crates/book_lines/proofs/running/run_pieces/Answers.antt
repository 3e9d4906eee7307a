use Rattle.std.proofs.Common.{◌≡◌, ◌∙◌, sym, ap, subst, refl, [], ◌++◌, length, take, ◌+◌, ◌≤◌, ◌^◌, arith}
use Rattle.std.proofs.Common.{append-nil, length-append, Ok}
use Rattle.std.proofs.lemmas.List.{length-take-le}
use Rattle.std.specs.Io.KnownBytes.{Consumes}
use Rattle.std.proofs.KnownBytes.{Consumes-nil, Consumes-trans, Consumes-kept}
use Rattle.book_lines.specs.Lines.{last_piece}
use Rattle.book_lines.specs.declared.running.RunEnd.TheVariants.{OutputFault}
use Rattle.book_lines.specs.RunClause.{at}
use Rattle.book_lines.proofs.LineLemmas.{length-left_over}
use Rattle.book_lines.proofs.RoomLemmas.{size_is}
use Rattle.book_lines.proofs.LoopLemmas.{HasTaken-nil, HasTaken-append}
use Rattle.book_lines.proofs.RunClauseLemmas.{IsRun-input, IsRun-room, IsRun-stopped, IsRun-ended}
use Rattle.book_lines.proofs.running.run_pieces.Goals as goal

pub pieces-init : goal.pieces-init
pieces-init g c =
    let start = at c.args.machine.now (g.O.Sink.written c.args.output.now) (g.M.Machine.faults c.args.keeper.now) in
    record {
      taken = (
        [],
        Consumes-nil
            (g.S.Source.left c.args.input.now),
        refl,
        HasTaken-nil g.M.Machine.answers [] start c.args.line.now 0
            c.requires.empty (omega arith),
      );
      fits = omega arith;
      input = refl;
      output = refl;
      stands = c.requires.stands;
      follows = g.met.M.Machine.follows_itself c.args.keeper.now;
    }

pub returns-in-Err-clause-run : goal.returns-in-Err-clause-run
returns-in-Err-clause-run g c =
    let start = at c.args.machine.now (g.O.Sink.written c.args.output.now) (g.M.Machine.faults c.args.keeper.now) in
    let now = at c.pieces.machine (g.O.Sink.written c.pieces.output) (g.M.Machine.faults c.pieces.keeper) in
    let before = g.S.Source.left c.args.input.now in
    let mid = g.S.Source.left c.pieces.input in
    let after = g.S.Source.left c.read_piece.new.input in
    let taken = c.pieces.invariant.taken in
    let took : Consumes before after taken.0 = Consumes-kept before mid after taken.0 taken.1
    c.in-Err.ensures.unchanged in
    IsRun-input g.M.Machine.answers before after taken.0 start now c.pieces.line c.pieces.count took
    (omega (arith, taken.2, c.pieces.invariant.fits)) taken.3

pub returns-then-read-eq0-clause-run : goal.returns-then-read-eq0-clause-run
returns-then-read-eq0-clause-run g c =
    let start = at c.args.machine.now (g.O.Sink.written c.args.output.now) (g.M.Machine.faults c.args.keeper.now) in
    let now = at c.pieces.machine (g.O.Sink.written c.pieces.output) (g.M.Machine.faults c.pieces.keeper) in
    let then' = at c.end_input.new.machine (g.O.Sink.written c.end_input.new.output)
    (g.M.Machine.faults c.end_input.new.keeper) in
    let before = g.S.Source.left c.args.input.now in
    let mid = g.S.Source.left c.pieces.input in
    let after = g.S.Source.left c.read_piece.new.input in
    let taken = c.pieces.invariant.taken in
    let none : Consumes mid after [] = subst
    (λ n. Consumes mid after (take n c.read_piece.new.piece)) c.if-read-eq0.true c.in-Ok.ensures.read in
    let took : Consumes before after taken.0 =
    subst (λ l. Consumes before after l) (append-nil taken.0)
    (Consumes-trans before mid after taken.0 [] taken.1 none) in
    IsRun-ended g.M.Machine.answers before after taken.0 start now then' c.pieces.line c.pieces.count
    c.end_input.result took
    (c.in-Ok.ensures.end (ap Ok c.if-read-eq0.true)) (omega (arith, taken.2, c.pieces.invariant.fits)) taken.3
    (c.end_input.ensures.ended (last_piece taken.0) taken.3.room_is)

pub returns-then-taken-eq-MAX_BYTES-clause-run : goal.returns-then-taken-eq-MAX_BYTES-clause-run
returns-then-taken-eq-MAX_BYTES-clause-run g c =
    let start = at c.args.machine.now (g.O.Sink.written c.args.output.now) (g.M.Machine.faults c.args.keeper.now) in
    let now = at c.pieces.machine (g.O.Sink.written c.pieces.output) (g.M.Machine.faults c.pieces.keeper) in
    let before = g.S.Source.left c.args.input.now in
    let mid = g.S.Source.left c.pieces.input in
    let after = g.S.Source.left c.read_piece.new.input in
    let taken = c.pieces.invariant.taken in
    let one = take c.in-Ok.read c.read_piece.new.piece in
    let long : length one ≡ c.in-Ok.read = length-take-le c.in-Ok.read c.read_piece.new.piece
    (omega (arith, c.in-Ok.ensures.within, c.read_piece.array_long)) in
    IsRun-room g.M.Machine.answers before after taken.0 one start now c.pieces.line c.pieces.count
    (Consumes-trans before mid after taken.0 one taken.1 c.in-Ok.ensures.read)
    (omega (arith, taken.2, c.if-taken-eq-MAX_BYTES.true))
    (omega (arith, long, c.if-read-eq0.false))
    (omega (arith, long, c.in-Ok.ensures.past, c.if-taken-eq-MAX_BYTES.true)) taken.3

pub slice_bounds-take_piece-end : goal.slice_bounds-take_piece-end
slice_bounds-take_piece-end g c =
    sym (length-take-le c.in-Ok.read c.read_piece.new.piece
    (omega (arith, c.in-Ok.ensures.within, c.read_piece.array_long)))

pub take_piece-requires-clause-fits : goal.take_piece-requires-clause-fits
take_piece-requires-clause-fits g c =
    let taken = c.pieces.invariant.taken in
    let long : length (take c.in-Ok.read c.read_piece.new.piece) ≡ c.in-Ok.read =
    length-take-le c.in-Ok.read c.read_piece.new.piece
    (omega (arith, c.in-Ok.ensures.within, c.read_piece.array_long)) in
    omega (
      arith,
      long,
      taken.2,
      c.pieces.invariant.fits,
      c.in-Ok.ensures.within,
      size_is c.pieces.line
          (last_piece taken.0) taken.3.room_is,
      length-left_over [] taken.0,
    )

pub returns-in-Err-take_piece-clause-run : goal.returns-in-Err-take_piece-clause-run
returns-in-Err-take_piece-clause-run g c =
    let start = at c.args.machine.now (g.O.Sink.written c.args.output.now) (g.M.Machine.faults c.args.keeper.now) in
    let now = at c.pieces.machine (g.O.Sink.written c.pieces.output) (g.M.Machine.faults c.pieces.keeper) in
    let then' = at c.take_piece.new.machine (g.O.Sink.written c.take_piece.new.output)
    (g.M.Machine.faults c.take_piece.new.keeper) in
    let before = g.S.Source.left c.args.input.now in
    let mid = g.S.Source.left c.pieces.input in
    let after = g.S.Source.left c.read_piece.new.input in
    let taken = c.pieces.invariant.taken in
    let piece = take c.in-Ok.read c.read_piece.new.piece in
    let long : length piece ≡ c.in-Ok.read = length-take-le c.in-Ok.read c.read_piece.new.piece
    (omega (arith, c.in-Ok.ensures.within, c.read_piece.array_long)) in
    let fits : c.pieces.taken + c.in-Ok.read ≤ 2 ^ 33 = c.in-Ok.ensures.limit
    (omega (arith, c.pieces.invariant.fits, c.if-taken-eq-MAX_BYTES.false)) in
    IsRun-stopped g.M.Machine.answers before after taken.0 piece start now then' c.pieces.line c.pieces.count
    c.in-Err-take_piece.end
    (Consumes-trans before mid after taken.0 piece taken.1 c.in-Ok.ensures.read)
    (omega (arith, long, taken.2, fits)) taken.3
    (c.in-Err-take_piece.ensures.stopped (last_piece taken.0) taken.3.room_is taken.3.few)

pub pieces-preserved : goal.pieces-preserved
pieces-preserved g c =
    let start = at c.args.machine.now (g.O.Sink.written c.args.output.now) (g.M.Machine.faults c.args.keeper.now) in
    let now = at c.pieces.machine (g.O.Sink.written c.pieces.output) (g.M.Machine.faults c.pieces.keeper) in
    let then' = at c.take_piece.new.machine (g.O.Sink.written c.take_piece.new.output)
    (g.M.Machine.faults c.take_piece.new.keeper) in
    let before = g.S.Source.left c.args.input.now in
    let mid = g.S.Source.left c.pieces.input in
    let after = g.S.Source.left c.read_piece.new.input in
    let taken = c.pieces.invariant.taken in
    let piece = take c.in-Ok.read c.read_piece.new.piece in
    let long : length piece ≡ c.in-Ok.read = length-take-le c.in-Ok.read c.read_piece.new.piece
    (omega (arith, c.in-Ok.ensures.within, c.read_piece.array_long)) in
    record {
      taken = (
        taken.0 ++ piece,
        Consumes-trans before mid after taken.0 piece taken.1 c.in-Ok.ensures.read,
        omega (arith, long, taken.2, length-append taken.0 piece),
        HasTaken-append g.M.Machine.answers [] taken.0 piece start now then' c.pieces.line c.take_piece.new.line 0
            c.pieces.count c.take_piece.new.count taken.3
            (c.in_default.ensures.taken (last_piece taken.0) taken.3.room_is taken.3.few),
      );
      fits = c.in-Ok.ensures.limit (omega (arith, c.pieces.invariant.fits, c.if-taken-eq-MAX_BYTES.false));
      input = c.in-Ok.ensures.cause.done ∙ c.pieces.invariant.input;
      output = c.take_piece.ensures.output_faults.same (c.in_default.not-Err OutputFault) ∙ c.pieces.invariant.output;
      stands = c.take_piece.ensures.stands;
      follows = g.met.M.Machine.follows_through _ _ _ c.pieces.invariant.follows c.take_piece.ensures.follows;
    }

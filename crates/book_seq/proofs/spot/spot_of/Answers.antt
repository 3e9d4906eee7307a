use Rattle.std.proofs.Common.{◌≡◌, ℕ, ◌+◌, ◌-◌, ◌<◌, length, take, subst, arith}
use Rattle.book_seq.specs.Chunks.{list_of}
use Rattle.book_seq.proofs.ChunkLemmas.{length_more, spot_here, spot_last}
use Rattle.book_seq.proofs.spot.spot_of.Goals as goal

pub returns-then-offset-len : goal.returns-then-offset-len
returns-then-offset-len g c =
    let below : c.loop-chunk.chunk < length c.args.chunks.now = omega (arith, c.loop-chunk-test.true) in
    let within : c.loop-chunk.offset < length c.index-chunks-chunk.result.entries =
    omega (arith, c.if-offset-len.true, c.len-len.ensures) in
    spot_here c.args.chunks.now c.args.place c.loop-chunk.chunk c.loop-chunk.offset c.index-chunks-chunk.result below
    c.index-chunks-chunk.is c.loop-chunk.invariant (omega (arith, within)) (λ _. within)

pub loop-chunk-preserved : goal.loop-chunk-preserved
loop-chunk-preserved g c =
    let below : c.loop-chunk.chunk < length c.args.chunks.now = omega (arith, c.loop-chunk-test.true) in
    let more = length_more c.args.chunks.now c.loop-chunk.chunk c.index-chunks-chunk.result below
    c.index-chunks-chunk.is in
    let place : c.args.place
    ≡ length (list_of (take c.loop-chunk.chunk c.args.chunks.now)) + c.loop-chunk.offset = c.loop-chunk.invariant in
    omega (arith, more, place, c.if-offset-len.false, c.len-len.ensures)

pub returns : goal.returns
returns g c =
    let last : c.loop-chunk.chunk ≡ length c.args.chunks.now - 1 =
    omega (arith, c.loop-chunk-test.false, c.loop-chunk.auto.chunk-end) in
    spot_last c.args.chunks.now c.args.place c.loop-chunk.offset c.requires.some
    (omega (arith, c.requires.place, c.requires.len))
    (subst (λ (k : ℕ). c.args.place ≡ length (list_of (take k c.args.chunks.now)) + c.loop-chunk.offset) last
    c.loop-chunk.invariant)

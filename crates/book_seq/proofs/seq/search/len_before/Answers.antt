use Rattle.std.proofs.Common.{◌+◌, ◌<◌, length, arith}
use Rattle.book_seq.proofs.ChunkLemmas.{length_more, length_taken}
use Rattle.book_seq.proofs.seq.search.len_before.Goals as goal

pub overflow_add-len : goal.overflow_add-len
overflow_add-len g c =
    let below : c.loop-chunk.chunk < length c.args.chunks.now = omega (arith, c.loop-chunk-test.true, c.requires.count) in
    let more = length_more c.args.chunks.now c.loop-chunk.chunk c.index-chunks-chunk.result below
    c.index-chunks-chunk.is in
    record {
      fits = omega (
        arith,
        more,
        length_taken c.args.chunks.now (c.loop-chunk.chunk + 1),
        c.loop-chunk.invariant,
        c.len-len.ensures,
        c.requires.fits,
      );
    }

pub loop-chunk-preserved : goal.loop-chunk-preserved
loop-chunk-preserved g c =
    let below : c.loop-chunk.chunk < length c.args.chunks.now = omega (arith, c.loop-chunk-test.true, c.requires.count) in
    let more = length_more c.args.chunks.now c.loop-chunk.chunk c.index-chunks-chunk.result below
    c.index-chunks-chunk.is in
    omega (arith, more, c.loop-chunk.invariant, c.len-len.ensures)

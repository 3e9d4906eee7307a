use Rattle.std.proofs.Common.{Bool, List, ◌+◌, ◌<◌, ◌≤◌, length, take, subst, sym, ◌∙◌, ap, arith}
use Rattle.book_seq.specs.Chunks.{Listed, Piece, list_of}
use Rattle.book_seq.specs.Cuts.{IsCut, IsParted, is_passed}
use Rattle.book_seq.proofs.ChunkLemmas.{length-most, length_more, length_taken, packed-at}
use Rattle.book_seq.proofs.CutLemmas.{cut-end, cut-here, here-parted}
use Rattle.book_seq.proofs.seq.Seq.cut.Goals as goal

pub len_before-before-requires-clause-fits : goal.len_before-before-requires-clause-fits
len_before-before-requires-clause-fits g c = omega (
  arith,
  ap (λ l. length (list_of l)) c.as_slice-2.ensures.value,
  length-most c.self.inside.chunks.items c.self.invariant.0.packed,
  c.self.invariant.0.few,
)

pub returns-then-count-len-clause-cut : goal.returns-then-count-len-clause-cut
returns-then-count-len-clause-cut g c =
    let ps : List (Piece g.row.E.Denot) = c.self.inside.chunks.items in
    let test : g.row.E.Denot → Bool = g.T.Test.is_passed c.args.test.now in
    let parted = subst (λ (v : Listed g.row.E.Denot). IsParted test v.list) (sym c.self.view_is) c.requires in
    let passed = subst (λ l. IsCut (is_passed test) l c.chunk_of-count.result) c.as_slice.ensures.value
    c.chunk_of-count.ensures.cut in
    let before = c.len_before-before.ensures
    ∙ ap (λ l. length (list_of (take c.chunk_of-count.result l))) c.as_slice-2.ensures.value in
    subst (λ (v : Listed g.row.E.Denot). IsCut test v.list c.len_before-before.result) c.self.view_is
    (subst (IsCut test (list_of ps)) (sym before) (cut-end test ps c.chunk_of-count.result parted passed
    (omega (arith, c.if-count-len.true, c.len.ensures))))

pub cut-requires : goal.cut-requires
cut-requires g c =
    let ps : List (Piece g.row.E.Denot) = c.self.inside.chunks.items in
    let test : g.row.E.Denot → Bool = g.T.Test.is_passed c.args.test.now in
    let parted = subst (λ (v : Listed g.row.E.Denot). IsParted test v.list) (sym c.self.view_is) c.requires in
    let size = ap length c.as_slice.ensures.value in
    let below : c.chunk_of-count.result < length ps =
    omega (arith, c.chunk_of-count.ensures.within, size, c.if-count-len.false, c.len.ensures) in
    record {
      few = subst (λ (p : Piece g.row.E.Denot). length p.entries ≤ 512) (sym c.index.ensures)
          (packed-at ps c.chunk_of-count.result c.index.result.now c.self.invariant.0.packed below);
      parted = subst (λ (p : Piece g.row.E.Denot). IsParted test p.entries) (sym c.index.ensures)
          (here-parted test ps c.chunk_of-count.result c.index.result.now below parted);
    }

pub returns-clause-cut : goal.returns-clause-cut
returns-clause-cut g c =
    let ps : List (Piece g.row.E.Denot) = c.self.inside.chunks.items in
    let test : g.row.E.Denot → Bool = g.T.Test.is_passed c.args.test.now in
    let parted = subst (λ (v : Listed g.row.E.Denot). IsParted test v.list) (sym c.self.view_is) c.requires in
    let passed = subst (λ l. IsCut (is_passed test) l c.chunk_of-count.result) c.as_slice.ensures.value
    c.chunk_of-count.ensures.cut in
    let before = c.len_before-before.ensures
    ∙ ap (λ l. length (list_of (take c.chunk_of-count.result l))) c.as_slice-2.ensures.value in
    let size = ap length c.as_slice.ensures.value in
    let below : c.chunk_of-count.result < length ps =
    omega (arith, c.chunk_of-count.ensures.within, size, c.if-count-len.false, c.len.ensures) in
    let here = subst (λ (p : Piece g.row.E.Denot). IsCut test p.entries c.cut.result) c.index.ensures
    c.cut.ensures.cut in
    subst (λ (v : Listed g.row.E.Denot). IsCut test v.list (c.len_before-before.result + c.cut.result)) c.self.view_is
    (subst (λ n. IsCut test (list_of ps) (n + c.cut.result)) (sym before)
    (cut-here test ps c.chunk_of-count.result c.cut.result c.index.result.now c.self.invariant.0.packed parted passed
    below here))

pub overflow_add-result : goal.overflow_add-result
overflow_add-result g c =
    let ps : List (Piece g.row.E.Denot) = c.self.inside.chunks.items in
    let size = ap length c.as_slice.ensures.value in
    let below : c.chunk_of-count.result < length ps =
    omega (arith, c.chunk_of-count.ensures.within, size, c.if-count-len.false, c.len.ensures) in
    let before = c.len_before-before.ensures
    ∙ ap (λ l. length (list_of (take c.chunk_of-count.result l))) c.as_slice-2.ensures.value in
    record {
      fits = omega (
        arith,
        before,
        c.cut.ensures.within,
        length_more ps c.chunk_of-count.result c.index.result.now below c.index.ensures,
        length_taken ps (c.chunk_of-count.result + 1),
        length-most ps c.self.invariant.0.packed,
        c.self.invariant.0.few,
      );
    }

pub returns-clause-within : goal.returns-clause-within
returns-clause-within g c =
    let ps : List (Piece g.row.E.Denot) = c.self.inside.chunks.items in
    let size = ap length c.as_slice.ensures.value in
    let below : c.chunk_of-count.result < length ps =
    omega (arith, c.chunk_of-count.ensures.within, size, c.if-count-len.false, c.len.ensures) in
    let before = c.len_before-before.ensures
    ∙ ap (λ l. length (list_of (take c.chunk_of-count.result l))) c.as_slice-2.ensures.value in
    omega (
      arith,
      before,
      c.cut.ensures.within,
      length_more ps c.chunk_of-count.result c.index.result.now below c.index.ensures,
      length_taken ps (c.chunk_of-count.result + 1),
      ap (λ (v : Listed g.row.E.Denot). length v.list) c.self.view_is,
    )

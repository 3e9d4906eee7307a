use Rattle.std.proofs.Common.{List, ap, sym, ◌∙◌, ◌+◌, ◌++◌, max, map, drop, flat_map}
use Rattle.book_commodity.proofs.ListLemmas.{from-item}
use Rattle.book_undo.specs.Book.{book_of}
use Rattle.book_undo.specs.Edit.{leaves, deepest, outline}
use Rattle.book_undo.specs.Inverse.{leaf_back}
use Rattle.book_undo.specs.declared.edit.Edit.{Edit}
use Rattle.book_undo.proofs.PartLaws.{gathered, gathered_same, deepest-gathered}
use Rattle.book_undo.proofs.plain.Plain.+back.Goals as goal

pub back_all-loop-part-preserved : goal.back_all-loop-part-preserved
back_all-loop-part-preserved t c =
    let back_of = leaf_back (book_of c.args.self.now) in
    let done = c.loop-part.back in
    let new = c.in_ok-back.field-0 in
    let part = c.part-item.result in
    let more : List Edit = drop (c.loop-part.part-index + 1) c.args.parts.now in
    let here = sym
    (from-item c.args.parts.now c.loop-part.part-index c.part-item.result c.loop-part-test.true c.part-item.is) in
    record {
      leaves =
          ap (λ (l : List Edit). flat_map leaves l ++ map back_of (flat_map leaves more)) c.in_ok-push.ensures.added
          ∙ gathered leaves back_of done new part more c.in_ok-back.ensures.leaves
          ∙ ap (λ (l : List Edit). flat_map leaves done ++ map back_of (flat_map leaves l)) here
          ∙ c.loop-part.invariant.leaves;
      depth =
          ap (λ (l : List Edit). max (deepest l) (deepest more)) c.in_ok-push.ensures.added
          ∙ deepest-gathered done new part more c.in_ok-back.ensures.depth
          ∙ ap (λ (l : List Edit). max (deepest done) (deepest l)) here ∙ c.loop-part.invariant.depth;
      form =
          ap (λ (l : List Edit). flat_map outline l ++ flat_map outline more) c.in_ok-push.ensures.added
          ∙ gathered_same outline done new part more c.in_ok-back.ensures.form
          ∙ ap (λ (l : List Edit). flat_map outline done ++ flat_map outline l) here ∙ c.loop-part.invariant.form;
    }

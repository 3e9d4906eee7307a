use Rattle.std.proofs.Common.{◌≡◌, max, List, ap, sym, ◌∙◌, flat_map, arith, rules}
use Rattle.book_undo.specs.Book.{book_of}
use Rattle.book_undo.specs.Edit.{leaves, depth, deepest, edited_all}
use Rattle.book_undo.specs.Room.{puts}
use Rattle.book_undo.specs.declared.edit.Edit.{Edit}
use Rattle.book_undo.proofs.PartLaws.{puts-parts}
use Rattle.book_undo.proofs.plain.Plain.+apply.Goals as goal

pub apply_all-apply_within-requires : goal.apply_all-apply_within-requires
apply_all-apply_within-requires t c =
    let more = c.next.new.self.rest.items in
    let deep : deepest c.loop-part.part-iterator.rest.items ≡ max (depth c.in-Some.part) (deepest more)
    = ap deepest c.in-Some.ensures.steps.0 in (
      search rules,
      (
        omega (arith, deep, c.loop-part.invariant.shallow),
        λ kind.
            let here = ap (λ (parts : List Edit). puts kind (flat_map leaves parts)) c.in-Some.ensures.steps.0
            ∙ puts-parts kind c.in-Some.part c.next.new.self.rest.items in
            omega (arith, here, c.loop-part.invariant.room kind),
      ),
    )

pub apply_all-loop-part-preserved : goal.apply_all-loop-part-preserved
apply_all-loop-part-preserved t c =
    let more = c.next.new.self.rest.items in
    let deep : deepest c.loop-part.part-iterator.rest.items ≡ max (depth c.in-Some.part) (deepest more)
    = ap deepest c.in-Some.ensures.steps.0 in
    record {
      shallow = omega (arith, deep, c.loop-part.invariant.shallow);
      book =
          ap (edited_all more) c.apply_within.ensures.book
          ∙ ap (λ (parts : List Edit). edited_all parts (book_of c.loop-part.self)) (sym c.in-Some.ensures.steps.0)
          ∙ c.loop-part.invariant.book;
      room = λ kind.
          let here = ap (λ (parts : List Edit). puts kind (flat_map leaves parts)) c.in-Some.ensures.steps.0
          ∙ puts-parts kind c.in-Some.part more in
          omega (arith, here, c.loop-part.invariant.room kind, c.apply_within.ensures.spare kind);
      spare = λ kind.
          let here = ap (λ (parts : List Edit). puts kind (flat_map leaves parts)) c.in-Some.ensures.steps.0
          ∙ puts-parts kind c.in-Some.part more in
          omega (arith, here, c.loop-part.invariant.spare kind, c.apply_within.ensures.spare kind);
    }

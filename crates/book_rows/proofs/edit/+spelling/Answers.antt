-- A list is its byte, the number of its parts and its parts.
use Rattle.book_rows.specs.declared.format.RowFormat.TheVariants.{Two}
use Rattle.book_rows.proofs.EditLemmas.{list_written, ok_then}
use Rattle.book_rows.proofs.edit.+spelling.Goals as goal

pub spell_edit-returns-in_ok-spell-in-All-clause-spelled :
    goal.spell_edit-returns-in_ok-spell-in-All-clause-spelled
spell_edit-returns-in_ok-spell-in-All-clause-spelled t c =
    ok_then c.spell_parts.result
    (λ rest. list_written Two c.args.edit.now c.in-All.parts c.as_slice.result.now c.len.result c.args.out.now.items
    c.push.new.self.items c.spell.new.out.items c.spell_parts.new.out.items c.in-All.is c.as_slice.ensures
    c.len.ensures c.in_ok-push-in-All.ensures.items c.in_ok-spell-in-All.ensures.spelled rest)
    c.spell_parts.ensures.spelled

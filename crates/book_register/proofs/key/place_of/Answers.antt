use Rattle.std.proofs.Common.{sym, ◌∙◌, arith}
use Rattle.book_seq.proofs.ListLemmas.{slice_get_or}
use Rattle.book_register.proofs.RowLemmas.{absent_end, absent_here, found_at}
use Rattle.book_register.proofs.key.place_of.Goals as goal

pub returns-then-place-len-clause-place : goal.returns-then-place-len-clause-place
returns-then-place-len-clause-place g c =
    sym (absent_end c.args.key c.args.rows.now.list c.count_before-place.result c.count_before-place.ensures.bound
    (omega (arith, c.if-place-len.true, c.len-len.ensures.len)))

pub returns-then-has_key-clause-place : goal.returns-then-has_key-clause-place
returns-then-has_key-clause-place g c =
    let at = slice_get_or c.args.rows.now.list c.count_before-place.result c.get.result.now c.get.ensures.entry in
    sym (found_at c.args.key c.args.rows.now.list c.count_before-place.result c.get.result.now
    c.count_before-place.ensures.bound at.0 at.1 (sym c.has_key.ensures ∙ c.if-has_key.true))

pub returns-clause-place : goal.returns-clause-place
returns-clause-place g c =
    let at = slice_get_or c.args.rows.now.list c.count_before-place.result c.get.result.now c.get.ensures.entry in
    sym (absent_here c.args.key c.args.rows.now.list c.count_before-place.result c.get.result.now c.requires
    c.count_before-place.ensures.bound at.0 at.1 (sym c.has_key.ensures ∙ c.if-has_key.false))

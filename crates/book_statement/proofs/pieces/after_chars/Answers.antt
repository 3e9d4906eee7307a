use Rattle.std.proofs.Common.{◌-◌, length, ap, ◌∙◌}
use Rattle.std.proofs.lemmas.List.{take_rest}
use Rattle.book_statement.specs.Pieces.{after_chars, past_continuations}
use Rattle.book_statement.proofs.TextLemmas.{after_chars-step, has_length}
use Rattle.book_statement.proofs.pieces.after_chars.Goals as goal

pub loop-left-preserved : goal.loop-left-preserved
loop-left-preserved c =
    let rest = c.loop-left.rest.now in
    ap (after_chars (c.loop-left.left - 1)) (c.past_continuations-rest.ensures
    ∙ ap past_continuations (take_rest rest 1))
    ∙ after_chars-step c.loop-left.left rest c.loop-left-test.true (has_length (length rest) c.if-not-is_empty.ensures)
    ∙ c.loop-left.invariant

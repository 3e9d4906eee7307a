use Rattle.std.proofs.Common.{sym, ◌∙◌}
use Rattle.book_sample.proofs.LastLemmas.{all_read, empty_is, line_read, line_refused, nothing_read}
use Rattle.book_sample.proofs.LastLemmas.{piece_left, shorter_behind, some_is}
use Rattle.book_sample.proofs.last_lines.last_two_answers.Goals as goal

pub lines-init : goal.lines-init
lines-init c = nothing_read c.args.text.now

pub lines-preserved : goal.lines-preserved
lines-preserved c =
    line_read c.args.text.now c.lines.rest.now c.lines.line.now c.lines.line_before.now c.in-Some.first.now
    c.in-Some.behind.now c.lines.invariant c.in-Some.ensures.0 c.in-Some.ensures.1
    (sym c.is_answer.ensures ∙ c.if-not-is_answer.false)

pub lines-smaller : goal.lines-smaller
lines-smaller c =
    shorter_behind c.lines.rest.now c.in-Some.first.now c.in-Some.behind.now c.in-Some.ensures.1

pub returns-then-not-is_answer-clause-none : goal.returns-then-not-is_answer-clause-none
returns-then-not-is_answer-clause-none c =
    line_refused c.args.text.now c.lines.rest.now c.lines.line.now c.lines.line_before.now c.in-Some.first.now
    c.in-Some.behind.now c.lines.invariant c.in-Some.ensures.0 c.in-Some.ensures.1
    (sym c.is_answer.ensures ∙ c.if-not-is_answer.true)

pub returns-then-is_empty-clause-some : goal.returns-then-is_empty-clause-some
returns-then-is_empty-clause-some c =
    all_read c.args.text.now c.lines.rest.now c.lines.line.now c.lines.line_before.now c.lines.invariant
    (empty_is c.lines.rest.now c.if-is_empty.ensures)

pub returns-else-is_empty-clause-none : goal.returns-else-is_empty-clause-none
returns-else-is_empty-clause-none c =
    piece_left c.args.text.now c.lines.rest.now c.lines.line.now c.lines.line_before.now c.lines.invariant
    c.in_default.ensures (some_is c.lines.rest.now c.if-is_empty.ensures)

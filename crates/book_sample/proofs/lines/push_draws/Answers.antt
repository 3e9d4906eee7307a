use Rattle.std.proofs.Common.{◌∙◌, ap, ◌++◌, string_bytes}
use Rattle.book_sample.specs.Sample.{draw_lines, lines_of_draws, post_line, redo_after, undo_after}
use Rattle.book_sample.proofs.SampleLemmas.{draw_lines-is, state_after-next, texts_from-end, texts_from-step}
use Rattle.book_sample.proofs.lines.push_draws.Goals as goal

pub loop-place-preserved : goal.loop-place-preserved
loop-place-preserved c =
    let drawn = c.next_state-state.ensures
    ∙ state_after-next c.args.number c.loop-place.place c.loop-place.state c.loop-place.invariant.drawn in
    record {
      drawn = drawn;
      lines = texts_from-step (draw_lines c.args.number) c.loop-place.place c.args.count
          (string_bytes c.loop-place.text) _ _ c.loop-place-test.true
          (c.in_ok-push_draw.ensures
          ∙ ap (λ t. string_bytes c.loop-place.text ++ t)
          (ap (λ d. post_line d ++ (undo_after c.loop-place.place ++ redo_after c.loop-place.place)) c.draw_of.ensures.drawn
          ∙ draw_lines-is c.args.number c.loop-place.place c.next_state-state.result drawn)) c.loop-place.invariant.lines;
    }

pub returns : goal.returns
unfolding lines_of_draws
returns c =
    texts_from-end (draw_lines c.args.number) c.loop-place.place c.args.count (string_bytes c.loop-place.text) _
    c.loop-place-test.false c.loop-place.invariant.lines

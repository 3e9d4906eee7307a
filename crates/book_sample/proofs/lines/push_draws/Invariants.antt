-- So many steps have been drawn; the lines so far, with those that are still to come, are all of them.
use Rattle.std.proofs.Common.{◌≡◌, ◌-◌, ◌++◌, string_bytes}
use Rattle.book_sample.specs.Sample.{draw_lines, state_after, texts_from}
use Rattle.book_sample.proofs.lines.push_draws.Given as goal

abbrev pub invariant-loop-place : goal.invariant-loop-place
invariant-loop-place l = record {
  drawn : l.state ≡ state_after l.number l.place;
  lines : string_bytes l.text ++ texts_from (draw_lines l.number) l.place (l.count - l.place)
      ≡ string_bytes l.fn.text ++ texts_from (draw_lines l.number) 0 l.count;
}

use Rattle.std.proofs.Common.{ℕ, List}
use Rattle.book_lines.specs.Marks.{Mark}
use Rattle.book_lines.proofs.CallerLemmas.{Maps, IsRun-map}
use Rattle.book_engine.specs.Kept.{Kept}
use Rattle.book_engine.specs.Books.{machine_kept}
use Rattle.book_app.specs.Machine.{answers}
use Rattle.book_app.proofs.main_call.run_lines.Goals as goal

-- the engine's answers are those of the machine of whole books on its state
machine :
    Maps
    (λ (old : Kept) (line : List ℕ) (mark : Mark) (text : List ℕ) (new : Kept).
    answers (machine_kept old) line mark text (machine_kept new))
    answers machine_kept
machine = record { each = λ old line mark text new h. h }

pub returns-clause-run : goal.returns-clause-run
returns-clause-run g c =
    let run = IsRun-map _ answers machine_kept machine _ _ _ _ _ c.run.ensures.run in
    record {
      bytes = run.bytes;
      read = run.read;
      left = run.left;
      text = run.text;
      bytes_are = run.bytes_are;
      left_are = run.left_are;
      parts = run.parts;
      few = run.few;
      wrote = run.wrote;
      ended = c.run.result;
      status_is = c.status_after.ensures;
      clause = run.clause;
    }

use Rattle.std.proofs.Common.{ℕ, List, subst}
use Rattle.book_lines.proofs.CallerLemmas.{Maps}
use Rattle.book_lines.specs.Marks.{Mark}
use Rattle.book_engine.specs.Books.{machine_kept}
use Rattle.book_engine.specs.Kept.{Kept}
use Rattle.book_engine.specs.Machine.{Machine}
use Rattle.book_sample.specs.Sample.{sample_text}
use Rattle.book_sample.specs.Shown.{IsShown}
use Rattle.book_sample.proofs.ShownLemmas.{shown-map}
use Rattle.book_app.specs.Machine.{answers}
use Rattle.book_app.proofs.sample.show_in_memory.Goals as goal

-- the engine's answers are those of the machine of whole books on its state
machine :
    Maps
    (λ (old : Kept) (line : List ℕ) (mark : Mark) (text : List ℕ) (new : Kept).
    answers (machine_kept old) line mark text (machine_kept new))
    answers machine_kept
machine = record { each = λ old line mark text new h. h }

pub returns-in-Ok-clause-shown : goal.returns-in-Ok-clause-shown
returns-in-Ok-clause-shown g c =
    let seen = shown-map _ answers machine_kept machine c.in-Ok.engine (sample_text c.args.number) _ _
    c.show_sample.result c.show_sample.ensures.shown in
    subst (λ (m : Machine). IsShown answers m (sample_text c.args.number) (g.O.Sink.written c.args.output.now)
    (g.O.Sink.written c.show_sample.new.output) c.show_sample.result) c.in-Ok.ensures.new_book seen

use Rattle.std.proofs.Common.{ℕ, List}
use Rattle.book_lines.specs.Marks.{Mark}
use Rattle.book_lines.proofs.WholeLemmas.{MapsFrom, IsWhole-map}
use Rattle.book_engine.specs.Books.{machine_kept}
use Rattle.book_app.specs.Machine.{import_answers}
use Rattle.book_app.specs.declared.importer.Importer.{Importer}
use Rattle.book_app.proofs.import_call.import_input.Goals as goal

-- the importer's answers are those of the machine of whole books on its state
machine : (importer : Importer)
    → MapsFrom
    (λ (old : Importer) (bytes : List ℕ) (mark : Mark) (text : List ℕ) (new : Importer).
    import_answers old.words (machine_kept old.engine) bytes mark text (machine_kept new.engine))
    (import_answers importer.words) (λ i. machine_kept i.engine) importer
machine importer = record { each = λ bytes mark text new h. h }

pub returns-clause-run : goal.returns-clause-run
returns-clause-run g c = record {
  ended = c.run_whole.result;
  status_is = c.status_after.ensures;
  whole = IsWhole-map _ (import_answers c.args.importer.now.words) (λ (i : Importer). machine_kept i.engine) _ _ _ _ _
      (machine c.args.importer.now) c.run_whole.ensures.whole;
}

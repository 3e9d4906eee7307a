use Rattle.std.proofs.Common.{◌≡◌, ◌∙◌, ap}
use Rattle.book_sample.specs.Sample.{sample_text}
use Rattle.book_sample.proofs.ShownLemmas.{all_written}
use Rattle.book_sample.proofs.showing.answers_to.Goals as goal

pub returns-in-Done : goal.returns-in-Done
returns-in-Done g c =
    let text : c.new-lines.result.left ≡ sample_text c.args.number = ap (λ s. s.left) c.new-lines.ensures
    ∙ c.of-bytes.ensures ∙ ap (λ v. v.items) c.into_bytes.ensures.value ∙ c.into_string.ensures ∙ c.in_ok-text.ensures in
    all_written g.M.Machine.answers (sample_text c.args.number) c.new-lines.result.left _ c.args.machine.now
    c.run.new.machine c.in_ok-answers.answers.written c.run.new.output.written _ _ text
    (ap (λ s. s.written) c.in_ok-answers.ensures) c.in-Done.ensures.run

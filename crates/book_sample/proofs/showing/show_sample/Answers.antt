use Rattle.std.proofs.Common.{subst}
use Rattle.book_sample.specs.Sample.{sample_text}
use Rattle.book_sample.specs.Shown.{AreLastAnswers}
use Rattle.book_sample.proofs.ShownLemmas.{last_answers}
use Rattle.book_sample.proofs.showing.show_sample.Goals as goal

pub returns-in-Ok-write_all-clause-shown : goal.returns-in-Ok-write_all-clause-shown
returns-in-Ok-write_all-clause-shown g c = record {
  text = c.in-Some.text.now;
  wrote = c.in-Ok-write_all.ensures.ok;
  clause = last_answers g.M.Machine.answers c.args.machine.now c.answers_to.new.machine (sample_text c.args.number)
      c.in-Ok.answers.written c.written.result.now c.in-Some.text.now c.in-Ok.ensures c.written.ensures
      c.in-Some.ensures.some;
}

pub returns-clause-shown : goal.returns-clause-shown
returns-clause-shown g c =
    let part = c.in-Err.ensures.err in
    record {
      text = part.part;
      wrote = part.wrote;
      clause = (
        part.rest,
        part.short,
        subst (λ t. AreLastAnswers g.M.Machine.answers c.args.machine.now (sample_text c.args.number) t) part.parts
            (last_answers g.M.Machine.answers c.args.machine.now c.answers_to.new.machine
            (sample_text c.args.number) c.in-Ok.answers.written c.written.result.now c.in-Some.text.now
            c.in-Ok.ensures c.written.ensures c.in-Some.ensures.some),
      );
    }

use Rattle.std.proofs.Common.{◌≡◌, [], length, sym, subst}
use Rattle.std.proofs.lemmas.List.{nil_from_length}
use Rattle.std.proofs.lemmas.Bool.{eqb-true}
use Rattle.book_statement.specs.Checks.{Gives}
use Rattle.mt940_read.proofs.RunLemmas.{SoFar, first, step, fault_gives, end}
use Rattle.mt940_read.proofs.read.read_mt940.Goals as goal

pub loop-rest-init : goal.loop-rest-init
loop-rest-init c = record {
  so_far = subst (λ r. SoFar c.args.known.now.entries c.args.text.now c.new-reader.result 0 r)
      (sym c.as_str-rest.ensures)
      (first c.args.known.now.entries c.args.text.now c.new-reader.result
      (c.new-reader.ensures c.args.known.now.entries));
  utf8 = c.as_str-rest.utf8;
}

pub is_empty-requires-text-self : goal.is_empty-requires-text-self
is_empty-requires-text-self c = λ _. c.loop-rest.invariant.utf8

pub returns-in-Err : goal.returns-in-Err
returns-in-Err c = record {
  exact = fault_gives c.args.known.now.entries c.args.text.now c.loop-rest.reader c.take.new.self c.loop-rest.count
      c.loop-rest.rest.now c.next_line.result.0.now c.next_line.result.1.now
      c.in-Err.error c.loop-rest.invariant.so_far c.next_line.ensures.lines c.in-Err.ensures;
}

pub loop-rest-preserved : goal.loop-rest-preserved
loop-rest-preserved c = record {
  so_far = step c.args.known.now.entries c.args.text.now c.loop-rest.reader c.take.new.self c.loop-rest.count
      c.loop-rest.rest.now c.next_line.result.0.now c.next_line.result.1.now
      c.loop-rest.invariant.so_far c.next_line.ensures.lines c.next_line.ensures.shorter c.in-Ok.ensures;
  utf8 = c.next_line.ensures.utf8;
}

pub returns : goal.returns
returns c =
    let none : c.loop-rest.rest.now ≡ [] = nil_from_length c.loop-rest.rest.now
    (eqb-true (length c.loop-rest.rest.now) 0 (sym c.loop-rest-test.ensures)) in
    record {
      exact = subst (λ s. Gives s c.finish.result)
          (sym (end c.args.known.now.entries c.args.text.now c.loop-rest.reader c.loop-rest.count
          c.loop-rest.rest.now c.loop-rest.invariant.so_far none))
          (c.finish.ensures c.args.known.now.entries);
    }

use Rattle.std.proofs.Common.{◌≡◌, ◌+◌, ℕ, List, [], length, refl, sym, subst, ap, ◌∙◌, arith}
use Rattle.std.proofs.Common.{Err, rules}
use Rattle.std.proofs.lemmas.Bool.{eqb-true}
use Rattle.std.proofs.lemmas.List.{nil_from_length}
use Rattle.std.proofs.lemmas.Result.{err_from_is_err_and}
use Rattle.book_statement.specs.Checks.{Gives}
use Rattle.book_statement.specs.declared.statement.Statement.{Statement}
use Rattle.bai2_read.specs.Reading.{reading}
use Rattle.bai2_read.proofs.FileLemmas.{has_tree, reads_tree}
use Rattle.bai2_read.proofs.ReadingLemmas.{SoFar, end_so_far, error_so_far, first_so_far, next_so_far}
use Rattle.bai2_read.proofs.reading.read_bai2.Goals as goal

pub loop-rest-init : goal.loop-rest-init
loop-rest-init c =
    let text = c.args.text.now in
    record {
      so_far =
          subst (λ (rest : List ℕ). SoFar c.args.known.now.entries c.new-reader.result 0 rest text)
          (sym c.as_str-rest.ensures)
          (first_so_far c.args.known.now.entries c.new-reader.result text
          (c.new-reader.ensures c.args.known.now.entries));
      utf8 = c.as_str-rest.utf8;
      within = omega (arith, ap (λ (l : List ℕ). length l) c.as_str-rest.ensures);
    }

pub loop-rest-preserved : goal.loop-rest-preserved
loop-rest-preserved c =
    let shorter = c.next_line.ensures.shorter in
    record {
      so_far =
          next_so_far c.args.known.now.entries c.loop-rest.reader c.take.new.self c.loop-rest.lines
          (c.loop-rest.lines + 1)
          c.loop-rest.rest.now c.args.text.now c.next_line.result.0.now c.next_line.result.1.now
          c.loop-rest.invariant.so_far c.next_line.ensures.lines refl c.in_ok-take.ensures;
      utf8 = search rules;
      within = (let within = c.loop-rest.invariant.within in omega arith);
    }

pub returns-in_err-take : goal.returns-in_err-take
returns-in_err-take c =
    let known = c.args.known.now.entries in
    let text = c.args.text.now in
    let p = err_from_is_err_and c.from_residual.result c.from_residual.ensures.1 in
    let exact : Gives {X = List Statement} (reading known text) (Err c.in_err-take.field-0.0) =
    error_so_far known c.loop-rest.reader c.take.new.self c.loop-rest.lines (c.loop-rest.lines + 1)
    c.loop-rest.rest.now text c.next_line.result.0.now c.next_line.result.1.now c.in_err-take.field-0.0
    c.loop-rest.invariant.so_far c.next_line.ensures.lines refl c.in_err-take.ensures in
    rw (p.1, p.2) (record {
      exact = exact;
      tree = has_tree known text (Err c.in_err-take.field-0.0) exact;
      every_tree = reads_tree known text (Err c.in_err-take.field-0.0) exact;
    })

pub returns : goal.returns
returns c =
    let known = c.args.known.now.entries in
    let text = c.args.text.now in
    let none : c.loop-rest.rest.now ≡ [] =
    nil_from_length c.loop-rest.rest.now
    (eqb-true (length c.loop-rest.rest.now) 0 (sym c.is_empty.ensures ∙ c.loop-rest-test.false)) in
    let exact : Gives (reading known text) c.end.result =
    end_so_far known c.loop-rest.reader c.loop-rest.lines c.loop-rest.rest.now text c.end.result
    c.loop-rest.invariant.so_far none c.end.ensures in
    record {
      exact = exact;
      tree = has_tree known text c.end.result exact;
      every_tree = reads_tree known text c.end.result exact;
    }

use Rattle.std.proofs.Common.{rules, sym, ◌∙◌}
use Rattle.std.proofs.lemmas.Result.{err_from_is_err_and}
use Rattle.book_statement.specs.Texts.{lines_of}
use Rattle.qif_read.specs.Kinds.{kind_of}
use Rattle.qif_read.specs.Qif.{result_of}
use Rattle.qif_read.specs.Steps.{after, fault_of, answer_after}
use Rattle.qif_read.specs.Tree.{listings_of}
use Rattle.qif_read.proofs.WholeLemmas.{so_far_fresh, so_far_next, so_far_bad, so_far_end, gives_error, gives_same}
use Rattle.qif_read.proofs.WholeLemmas.{no_text}
use Rattle.qif_read.specs.declared.reader.Reader.{Reader}
use Rattle.qif_read.proofs.read.read_lines.Goals as goal

pub loop-rest-init : goal.loop-rest-init
loop-rest-init c = record {
  known = so_far_fresh c.args.form.now c.args.text.now c.new-reader.result c.new-reader.ensures;
  utf8 = c.utf8.text;
}

pub is_empty-requires-text-self : goal.is_empty-requires-text-self
is_empty-requires-text-self c = λ _. c.loop-rest.invariant.utf8

pub returns-in_err-take : goal.returns-in_err-take
returns-in_err-take c =
    let p = err_from_is_err_and c.from_residual.result c.from_residual.ensures.1 in
    let form = c.args.form.now in
    let line = c.next_line.result.0.now in
    let old = c.loop-rest.reader in
    rw (p.1, p.2)
    (gives_error Reader (Unit {0}) (result_of form (listings_of (lines_of c.args.text.now)))
    (fault_of form c.loop-rest.count line (kind_of line) old) (after form c.loop-rest.count line (kind_of line) old)
    c.take.new.self c.in_err-take.field-0.0
    (λ fault found. so_far_bad form c.args.text.now c.loop-rest.rest.now line c.next_line.result.1.now old
    c.loop-rest.count fault c.loop-rest.invariant.known c.next_line.ensures.lines found)
    c.in_err-take.ensures)

pub loop-rest-preserved : goal.loop-rest-preserved
loop-rest-preserved c = record {
  known = so_far_next c.args.form.now c.args.text.now c.loop-rest.rest.now c.next_line.result.0.now
      c.next_line.result.1.now c.loop-rest.reader c.take.new.self c.loop-rest.count c.loop-rest.invariant.known
      c.next_line.ensures.lines c.next_line.ensures.shorter c.in_ok-take.ensures.0 c.in_ok-take.ensures.1;
  utf8 = search rules;
}

pub returns : goal.returns
returns c =
    let form = c.args.form.now in
    let none = no_text c.loop-rest.rest.now (sym c.is_empty.ensures ∙ c.loop-rest-test.false) in
    gives_same (result_of form (listings_of (lines_of c.args.text.now)))
    (answer_after form c.loop-rest.count c.loop-rest.reader) c.finish.result
    (so_far_end form c.args.text.now c.loop-rest.rest.now c.loop-rest.reader c.loop-rest.count
    c.loop-rest.invariant.known none)
    c.finish.ensures

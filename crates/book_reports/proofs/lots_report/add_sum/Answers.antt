use Rattle.std.proofs.Common.{rules, ◌≡◌, ◌++◌, [], OnOk, refl, string_bytes, subst}
use Rattle.book_commodity.specs.Amount.{amount_text}
use Rattle.book_reports.specs.LotsText.{Fields, sum_fields, row_text}
use Rattle.book_reports.proofs.LotsLemmas.{same_fields}
use Rattle.book_reports.proofs.lots_report.add_sum.Goals as goal

pub returns : goal.returns
returns c =
    let row : Fields = record {
      what = c.args.name.now;
      plus = [];
      minus = [];
      units = [];
      day = [];
      amount = c.as_str.result.now;
    } in
    let amount : c.as_str.result.now ≡ amount_text c.args.amount c.args.style.amounts = search rules in
    subst
    (λ (f : Fields). OnOk c.add_row.result
    (string_bytes c.add_row.new.out ≡ string_bytes c.args.out.now ++ row_text c.args.style.form f))
    (same_fields row (sum_fields c.args.style c.args.name.now c.args.amount) refl refl refl refl refl amount)
    c.add_row.ensures

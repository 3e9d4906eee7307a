use Rattle.std.proofs.Common.{rules, ◌≡◌, ◌++◌, ◌∙◌, OnOk, codes, refl, string_bytes, subst}
use Rattle.book_commodity.specs.Amount.{amount_text}
use Rattle.book_reports.specs.LotsText.{Fields, pair_fields, row_text}
use Rattle.book_reports.proofs.LotsLemmas.{same_fields}
use Rattle.book_reports.proofs.lots_report.add_pair.Goals as goal

pub returns : goal.returns
returns c =
    let row : Fields = record {
      what = codes "pair";
      plus = c.as_str.result.now;
      minus = c.as_str-2.result.now;
      units = c.as_str-3.result.now;
      day = c.as_str-4.result.now;
      amount = c.as_str-5.result.now;
    } in
    let gain : c.as_str-5.result.now ≡ amount_text c.args.pair.now.gain c.args.style.amounts = search rules in
    let units : c.as_str-3.result.now ≡ amount_text c.args.pair.now.units c.args.style.units = search rules in
    subst
    (λ (f : Fields). OnOk c.add_row.result
    (string_bytes c.add_row.new.out ≡ string_bytes c.args.out.now ++ row_text c.args.style.form f))
    (same_fields row (pair_fields c.args.style c.args.pair.now) refl (c.as_str.ensures.value ∙ c.in_ok-plus.ensures)
    (c.as_str-2.ensures.value ∙ c.in_ok-minus.ensures) units (c.as_str-4.ensures.value ∙ c.in_ok-day.ensures) gain)
    c.add_row.ensures

use Rattle.std.proofs.Common.{rules, ◌≡◌, ◌++◌, [], OnOk, codes, not, refl, string_bytes, subst, if◌then◌else◌, pos}
use Rattle.std.specs.Prelude.{int_lt}
use Rattle.std.specs.Fmt.{decimal}
use Rattle.book_commodity.specs.Amount.{amount_text}
use Rattle.book_reports.specs.LotsText.{Fields, lot_fields, row_text}
use Rattle.book_reports.proofs.LotsLemmas.{same_fields}
use Rattle.book_reports.proofs.lots_report.add_open_lot.Goals as goal

pub returns : goal.returns
returns c =
    let row : Fields = record {
      what = codes "open";
      plus = c.text_unless.result.now;
      minus = c.text_unless-2.result.now;
      units = c.as_str-3.result.now;
      day = [];
      amount = c.as_str-4.result.now;
    } in
    let cost : c.as_str-4.result.now ≡ amount_text c.args.lot.now.cost c.args.style.amounts = search rules in
    let units : c.as_str-3.result.now ≡ amount_text c.args.lot.now.units c.args.style.units = search rules in
    let plus : c.text_unless.result.now
    ≡ (if int_lt c.args.lot.now.units (pos 0) then [] else decimal c.args.lot.now.split) = search rules in
    let minus : c.text_unless-2.result.now
    ≡ (if not (int_lt c.args.lot.now.units (pos 0)) then [] else decimal c.args.lot.now.split) = search rules in
    subst
    (λ (f : Fields). OnOk c.add_row.result
    (string_bytes c.add_row.new.out ≡ string_bytes c.args.out.now ++ row_text c.args.style.form f))
    (same_fields row (lot_fields c.args.style c.args.lot.now) refl plus minus units refl cost)
    c.add_row.ensures

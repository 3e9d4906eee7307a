use Rattle.std.proofs.Common.{◌≡◌, ◌++◌, string_bytes, subst}
use lib.Utf8.{encode}
use Rattle.book_reports.specs.LotsText.{Fields, row_text}
use Rattle.book_reports.specs.declared.form.Form.TheVariants.{Plain}
use Rattle.book_reports.proofs.LotsLemmas.{words_made}
use Rattle.book_reports.proofs.lots_report.add_words.Goals as goal

pub returns : goal.returns
unfolding encode
returns c =
    let row : Fields = record {
      what = c.row.inside.what.now;
      plus = c.row.inside.plus.now;
      minus = c.row.inside.minus.now;
      units = c.row.inside.units.now;
      day = c.row.inside.day.now;
      amount = c.row.inside.amount.now;
    } in
    subst (λ (f : Fields). string_bytes c.push.new.self ≡ string_bytes c.args.out.now ++ row_text Plain f) c.row.view_is
    (words_made row (string_bytes c.args.out.now) (string_bytes c.push_str.new.self) (string_bytes c.add_word.new.out)
    (string_bytes c.add_word-2.new.out) (string_bytes c.add_word-3.new.out) (string_bytes c.add_word-4.new.out)
    (string_bytes c.add_word-5.new.out) (string_bytes c.push.new.self) c.in_ok-push_str.ensures.bytes
    c.in_ok-add_word.ensures c.in_ok-add_word-2.ensures c.in_ok-add_word-3.ensures c.in_ok-add_word-4.ensures
    c.in_ok-add_word-5.ensures c.in_ok-push.ensures.bytes)

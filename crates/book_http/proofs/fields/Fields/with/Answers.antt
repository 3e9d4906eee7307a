use Rattle.std.proofs.Common.{◌≡◌, ◌||◌, ◌∙◌, ap, sym, codes, cond}
use Rattle.book_http.specs.declared.fields.Fields.{Fields}
use Rattle.book_http.specs.Fields.{same_word, besides, is_close}
use Rattle.book_http.proofs.FieldLemmas.{said-push}
use Rattle.book_http.proofs.fields.Fields.with.Goals as goal

pub returns : goal.returns
returns c seen is =
    let name = c.args.name.now in
    let value = c.args.value.now in
    let old = c.args.self in
    let here : record {
      encoded = old.encoded || c.is_encoding-encoding.result;
      length = c.next_length-length.result;
      close = old.close || c.is_close-close.result;
    } ≡ record {
      encoded = old.encoded || same_word name (codes "transfer-encoding");
      length = cond (same_word name (codes "content-length")) (besides old.length value) old.length;
      close = old.close || is_close name value;
    } = λ i. record {
      encoded = old.encoded || c.is_encoding-encoding.ensures i;
      length = c.next_length-length.ensures i;
      close = old.close || c.is_close-close.ensures i;
    } in
    here ∙ ap (λ (fields : Fields). record {
      encoded = fields.encoded || same_word name (codes "transfer-encoding");
      length = cond (same_word name (codes "content-length")) (besides fields.length value) fields.length;
      close = fields.close || is_close name value;
    }) is ∙ sym (said-push seen name value)

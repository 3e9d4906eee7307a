use Rattle.std.proofs.Common.{◌∙◌, sym, ap}
use Rattle.serde_json.specs.View.{view}
use Rattle.book_json.specs.Forms.{day_form, day_named}
use Rattle.book_json.proofs.DayLemmas.{day_named_is, view-String}
use Rattle.book_json.proofs.form.DayForm.read.Goals as goal

pub returns : goal.returns
unfolding day_form
returns c =
    day_named_is c.as_bytes.result.now c.of_text.result c.of_text.ensures.day c.of_text.ensures.none
    ∙ (ap day_named c.as_bytes.ensures.value
    ∙ sym (ap (λ value. day_form (view value)) c.in-String.is ∙ ap day_form (view-String c.in-String.text)))

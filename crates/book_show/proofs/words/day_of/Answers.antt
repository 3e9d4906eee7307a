use Rattle.std.proofs.Common.{ap, ◌∙◌}
use Rattle.book_json.specs.Forms.{day_named}
use Rattle.book_json.proofs.DayLemmas.{day_named_is}
use Rattle.book_show.proofs.words.day_of.Goals as goal

pub returns : goal.returns
returns c =
    day_named_is c.as_bytes.result.now c.of_text.result c.of_text.ensures.day c.of_text.ensures.none
    ∙ ap day_named c.as_bytes.ensures.value

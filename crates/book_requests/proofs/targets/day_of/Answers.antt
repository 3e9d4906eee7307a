use Rattle.std.proofs.Common.{sym, ap, ◌∙◌}
use Rattle.book_json.specs.Forms.{day_named}
use Rattle.book_json.proofs.DayLemmas.{day_named_is}
use Rattle.book_requests.proofs.TargetLemmas.{missing_reads}
use Rattle.book_requests.proofs.targets.day_of.Goals as goal

pub returns-in-Some : goal.returns-in-Some
returns-in-Some c =
    ap day_named (sym c.as_bytes.ensures.value)
    ∙ (sym (day_named_is c.as_bytes.result.now c.of_text.result c.of_text.ensures.day c.of_text.ensures.none)
    ∙ c.in-Some.is)

pub returns-in-None : goal.returns-in-None
returns-in-None c =
    missing_reads c.args.name.now (day_named c.args.text.now) c.not_command.result
    (ap day_named (sym c.as_bytes.ensures.value)
    ∙ (sym (day_named_is c.as_bytes.result.now c.of_text.result c.of_text.ensures.day c.of_text.ensures.none)
    ∙ c.in-None.is)) c.not_command.ensures

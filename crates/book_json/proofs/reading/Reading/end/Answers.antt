use Rattle.book_json.proofs.TakeLemmas.{fails, ends-first, ends-none}
use Rattle.book_json.proofs.reading.Reading.end.Goals as goal
use Rattle.std.proofs.Common.{◌∙◌, sym, ap, Err}

pub returns-in-None : goal.returns-in-None
returns-in-None g c = ends-none c.args.value c.args.self.now.members.entries c.in-None.ensures.variant

pub returns-in-Some : goal.returns-in-Some
returns-in-Some g c =
    fails _ _ _ _ (ends-first c.args.value c.args.self.now.members.entries _ _ c.in-Some.ensures.first
    ∙ ap Err (sym c.as_str.ensures.value)) c.fault.ensures

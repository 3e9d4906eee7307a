use Rattle.book_json.proofs.TakeLemmas.{fails, optional-absent, optional-other, optional-found}
use Rattle.book_json.proofs.reading.Reading.optional_object.Goals as goal
use Rattle.std.proofs.Common.{◌∙◌, sym}

pub returns-in_default : goal.returns-in_default
returns-in_default g c = optional-absent _ _ _ _ (sym c.in_default.ensures.member) c.in_default.ensures.left

pub returns-in_default-2 : goal.returns-in_default-2
returns-in_default-2 g c =
    fails _ _ _ _ (optional-other _ _ _ _ (sym c.in-Some.ensures.member)
    (sym c.in_ok-read.ensures ∙ c.in_default-2.is)) c.fault.ensures

pub returns : goal.returns
returns g c = optional-found _ _ _ _ _ _ (sym c.in-Some.ensures.member)
    (sym c.in_ok-read.ensures ∙ c.in-Some-2.is) c.in-Some.ensures.left

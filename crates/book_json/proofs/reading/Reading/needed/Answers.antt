use Rattle.book_json.proofs.TakeLemmas.{fails, needed-absent, needed-other, needed-found}
use Rattle.book_json.proofs.reading.Reading.needed.Goals as goal
use Rattle.std.proofs.Common.{◌∙◌, sym}

pub returns-in_default : goal.returns-in_default
returns-in_default g c = fails _ _ _ _ (needed-absent _ _ _ (sym c.in_default.ensures.member)) c.fault.ensures

pub returns-in_default-2 : goal.returns-in_default-2
returns-in_default-2 g c =
    fails _ _ _ _ (needed-other _ _ _ _ (sym c.in-Some.ensures.member)
    (sym c.in_ok-read.ensures ∙ c.in_default-2.is)) c.fault-in_default-2.ensures

pub returns : goal.returns
returns g c = needed-found _ _ _ _ _ _ (sym c.in-Some.ensures.member)
    (sym c.in_ok-read.ensures ∙ c.in-Some-2.is) c.in-Some.ensures.left

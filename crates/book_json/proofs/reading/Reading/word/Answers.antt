use Rattle.book_json.proofs.TakeLemmas.{fails, needed-absent, needed-other, needed-found}
use Rattle.book_json.proofs.reading.Reading.word.Goals as goal
use Rattle.std.proofs.Common.{sym}

pub returns-in_default : goal.returns-in_default
returns-in_default g c = fails _ _ _ _ (needed-absent _ _ _ (sym c.in_default.ensures.member)) c.fault.ensures

pub returns-in_default-among : goal.returns-in_default-among
returns-in_default-among g c =
    fails _ _ _ _ (needed-other _ _ _ _ (sym c.in-Some.ensures.member) (sym c.in_default-among.ensures))
    c.fault-in_default-among.ensures

pub returns : goal.returns
returns g c = needed-found _ _ _ _ _ _ (sym c.in-Some.ensures.member)
    (sym c.in-Some-among.ensures) c.in-Some.ensures.left

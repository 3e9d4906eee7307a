use Rattle.book_json.proofs.TakeLemmas.{fails, optional-absent, optional-other, optional-found}
use Rattle.book_json.proofs.reading.Reading.optional_word.Goals as goal
use Rattle.std.proofs.Common.{sym}

pub returns-in_default : goal.returns-in_default
returns-in_default g c = optional-absent _ _ _ _ (sym c.in_default.ensures.member) c.in_default.ensures.left

pub returns-in_default-among : goal.returns-in_default-among
returns-in_default-among g c =
    fails _ _ _ _ (optional-other _ _ _ _ (sym c.in-Some.ensures.member) (sym c.in_default-among.ensures))
    c.fault.ensures

pub returns : goal.returns
returns g c = optional-found _ _ _ _ _ _ (sym c.in-Some.ensures.member)
    (sym c.in-Some-among.ensures) c.in-Some.ensures.left

use Rattle.book_json.proofs.TakeLemmas.{fails, absent-absent, absent-given}
use Rattle.book_json.proofs.reading.Reading.absent.Goals as goal
use Rattle.std.proofs.Common.{sym}

pub returns-in_default : goal.returns-in_default
returns-in_default g c = absent-absent _ _ _ (sym c.in_default.ensures.member) c.in_default.ensures.left

pub returns : goal.returns
returns g c = fails _ _ _ _ (absent-given _ _ _ (sym c.in-Some.ensures.member)) c.fault.ensures

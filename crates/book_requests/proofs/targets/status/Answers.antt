use Rattle.std.proofs.Common.{sym, ap, ◌∙◌}
use Rattle.book_wire.specs.Asked.{Asks}
use Rattle.book_requests.proofs.TargetLemmas.{status_asks}
use Rattle.book_requests.proofs.targets.status.Goals as goal

pub returns : goal.returns
returns c = status_asks ∙ ap Asks (sym c.command.ensures)

-- What holds of the links, with the words of `serve`, when the program's work has ended.
use Rattle.std.specs.Prelude.{◌≡◌, ℕ, ◌⊎◌, List, Option}
use Rattle.book_engine.specs.Books.{machine_kept}
use Rattle.book_engine.specs.Kept.{Kept}
use Rattle.book_engine.specs.Opens.{Opens}
use Rattle.book_serve.specs.Served.{IsServing, LinkReports, server_state}
use Rattle.book_serve.specs.declared.serve_end.ServeEnd.{ServeEnd}
use Rattle.book_serve.specs.declared.serve_end.ServeEnd.TheVariants as end
use Rattle.book_app.specs.Respond.{kept_answers}
use Rattle.book_app.specs.StatusClause.{HoldsUnopened, Keeping, MayOpenTo, NowOpensTo, OpenedTo}
use Rattle.book_app.specs.declared.status.Status.{Status}
use Rattle.book_app.specs.declared.status.Status.TheVariants.{Done, Usage, Memory, InputFault, OutputFault, KeeperFault}
use Rattle.book_app.specs.declared.status.Status.TheVariants.{BadRows, UnsoundBook, PortFault, InputLimit}
use Rattle.book_app.specs.declared.words.ServeWords.{ServeWords}

-- What is seen of ports before and after: the links to come and the closed ones, as far as they report them, how many
-- links they have accepted, and the port of the last one.
pub record PortsSeen (L : Type 0) : Type 0 where
  pub coming_before : Option (List L)
  pub coming_after : Option (List L)
  pub closed_before : Option (List L)
  pub closed_after : Option (List L)
  pub accepted_before : ℕ
  pub accepted_after : ℕ
  pub port_before : ℕ
  pub port_after : ℕ

-- What is seen of these ports, before and after.
abbrev pub across :
    {P L : Type 0} → (P → Option (List L)) → (P → Option (List L)) → (P → ℕ) → (P → ℕ) → P → P → PortsSeen L
across coming closed accepted port before after = record {
  coming_before = coming before;
  coming_after = coming after;
  closed_before = closed before;
  closed_after = closed after;
  accepted_before = accepted before;
  accepted_after = accepted after;
  port_before = port before;
  port_after = port after;
}

-- No link was accepted.
pub record NoneAccepted {L : Type 0} (ports : PortsSeen L) : Type 0 where
  pub coming : ports.coming_after ≡ ports.coming_before
  pub closed : ports.closed_after ≡ ports.closed_before
  pub accepted : ports.accepted_after ≡ ports.accepted_before
  pub port : ports.port_after ≡ ports.port_before

-- Links were served up to an end, at most as many as the words say and at their port: from an engine with the machine
-- as which the keeper's rows opened, to one with the machine as which its rows open now. The engine answers requests as
-- its machine does.
pub record HasServedBook {L : Type 0} (serve : ServeWords) (keeping : Keeping) (of : LinkReports L) (ports : PortsSeen L)
    (ended : ServeEnd) : Type 0 where
  pub first : Kept
  pub last : Kept
  pub opened : OpenedTo keeping (Opens (machine_kept first))
  pub served : IsServing kept_answers of serve.links serve.port
      (server_state first keeping.faults_before ports.coming_before ports.closed_before ports.accepted_before
      ports.port_before)
      (server_state last keeping.faults_after ports.coming_after ports.closed_after ports.accepted_after
      ports.port_after) ended
  pub kept : NowOpensTo keeping (machine_kept last)
  pub leaves : MayOpenTo keeping (machine_kept last)

-- With the words of `serve`, by the status. The status is none of the last three.
abbrev pub ServeClause : {L : Type 0} → ServeWords → Keeping → LinkReports L → PortsSeen L → Status → Type 0
ServeClause serve keeping of ports Done = HasServedBook serve keeping of ports end.Done
ServeClause serve keeping of ports PortFault = HasServedBook serve keeping of ports end.PortFault
ServeClause serve keeping of ports Memory =
    (NoneAccepted ports × HoldsUnopened keeping) ⊎ HasServedBook serve keeping of ports end.OutOfMemory
ServeClause serve keeping of ports Usage = NoneAccepted ports
ServeClause serve keeping of ports KeeperFault = NoneAccepted ports
ServeClause serve keeping of ports (BadRows kind id) = NoneAccepted ports
ServeClause serve keeping of ports (UnsoundBook kind id) = NoneAccepted ports
ServeClause serve keeping of ports InputFault = ⊥
ServeClause serve keeping of ports OutputFault = ⊥
ServeClause serve keeping of ports InputLimit = ⊥

-- Links that are served one after the other.
use Rattle.std.specs.Prelude.{◌≡◌, ℕ, ◌+◌, ◌<◌, ◌≤◌, ◌⊎◌, List, [], ◌∷◌, ◌++◌, Option, Some, map, option_map}
use Rattle.std.specs.Prelude.{length, All}
use Rattle.book_lines.specs.RunClause.{at}
use Rattle.book_serve.specs.Exchange.{RequestRelation}
use Rattle.book_serve.specs.Link.{HasAnsweredLink}
use Rattle.book_serve.specs.declared.link_end.LinkEnd.{LinkEnd}
use Rattle.book_serve.specs.declared.link_end.LinkEnd.TheVariants as end
use Rattle.book_serve.specs.declared.serve_end.ServeEnd.{ServeEnd}
use Rattle.book_serve.specs.declared.serve_end.ServeEnd.TheVariants.{Done, PortFault, OutOfMemory}

-- What is known of the links of some ports: the bytes that a link has left, as far as it reports them, the lists of
-- bytes that it may have been given, and how many of its reads and of its writes failed.
pub record LinkReports (L : Type 0) : Type 1 where
  pub left : L → Option (List ℕ)
  pub written : L → List ℕ → Type 0
  pub read_faults : L → ℕ
  pub write_faults : L → ℕ

-- What is known of links by the ghost members of their sides.
abbrev pub link_reports :
    {L : Type 0} → (L → Option (List ℕ)) → (L → List ℕ → Type 0) → (L → ℕ) → (L → ℕ) → LinkReports L
link_reports left written read_faults write_faults =
    record { left = left; written = written; read_faults = read_faults; write_faults = write_faults }

-- A server between two links: the machine's state; the count of faults of what is kept; of its ports the links that are
-- to come and those that were closed, as far as they report them, how many links they have accepted, and the port of
-- the last one.
pub record ServerState (S L : Type 0) : Type 0 where
  pub machine : S
  pub faults : ℕ
  pub coming : Option (List L)
  pub closed : Option (List L)
  pub accepted : ℕ
  pub port : ℕ

-- A server with this machine, these faults and such ports.
abbrev pub server_state : {S L : Type 0} → S → ℕ → Option (List L) → Option (List L) → ℕ → ℕ → ServerState S L
server_state machine faults coming closed accepted port = record {
  machine = machine;
  faults = faults;
  coming = coming;
  closed = closed;
  accepted = accepted;
  port = port;
}

-- A link that was served: as it was accepted, as it was closed, and how it ended.
pub record ServedLink (L : Type 0) : Type 0 where
  pub accepted : L
  pub closed : L
  pub end : LinkEnd

-- The link was accepted with nothing written, and served: from one state of the machine to another, and from one count
-- of faults of what is kept to another. It ended by a fault only where it failed, and failed only there.
pub record IsServedLink {S L : Type 0} (answers : RequestRelation S) (of : LinkReports L) (old : S) (before : ℕ)
    (link : ServedLink L) (new : S) (after : ℕ) : Type 0 where
  pub unwritten : (bytes : List ℕ) → of.written link.accepted bytes → bytes ≡ []
  pub served : HasAnsweredLink answers (of.left link.accepted) (of.left link.closed)
      (at old (of.written link.accepted) before) (at new (of.written link.closed) after) link.end
  pub read_fault : link.end ≡ end.ReadFault → 0 < of.read_faults link.closed
  pub no_read_fault : (link.end ≡ end.ReadFault → ⊥) → of.read_faults link.closed ≡ 0
  pub write_fault : link.end ≡ end.WriteFault → 0 < of.write_faults link.closed
  pub no_write_fault : (link.end ≡ end.WriteFault → ⊥) → of.write_faults link.closed ≡ 0

-- The links were served in turn, from the machine `old` to the machine `new`, with the faults of what is kept before
-- and after.
abbrev pub ServedInTurn :
    {S L : Type 0} → RequestRelation S → LinkReports L → S → ℕ → List (ServedLink L) → S → ℕ → Type 0
ServedInTurn answers of old before [] new after = (new ≡ old) × (after ≡ before)
ServedInTurn {S} answers of old before (link ∷ more) new after = (mid : S) × (between : ℕ)
    × IsServedLink answers of old before link mid between × ServedInTurn answers of mid between more new after

-- The link ended otherwise than for want of memory.
abbrev pub HadMemory : {L : Type 0} → ServedLink L → Type 0
HadMemory link = link.end ≡ end.OutOfMemory → ⊥

-- Where links were accepted, the last was at this port.
abbrev pub PortAfter : {L : Type 0} → ℕ → List (ServedLink L) → ℕ → ℕ → Type 0
PortAfter port [] old new = new ≡ old
PortAfter port (link ∷ more) old new = new ≡ port

-- The links were accepted at the port, served and closed one after the other, and no others were accepted: they were
-- the first of those to come, in order, and stand last among the closed ones, as far as the ports report them.
pub record HasServedLinks {S L : Type 0} (answers : RequestRelation S) (of : LinkReports L) (port : ℕ)
    (old new : ServerState S L) (links : List (ServedLink L)) : Type 0 where
  pub in_turn : ServedInTurn answers of old.machine old.faults links new.machine new.faults
  pub came : old.coming ≡ option_map (λ others. map (λ link. link.accepted) links ++ others) new.coming
  pub closed : new.closed ≡ option_map (λ others. others ++ map (λ link. link.closed) links) old.closed
  pub counted : new.accepted ≡ old.accepted + length links
  pub port_is : PortAfter port links old.port new.port

-- By the end, where at most so many links are served: at Done they were so many, or no link is left to come; at
-- PortFault they were fewer; at OutOfMemory the last of them ended so. No other link did.
abbrev pub LinksClause : {L : Type 0} → ℕ → List (ServedLink L) → Option (List L) → ServeEnd → Type 0
LinksClause most links coming Done =
    (length links ≤ most) × All HadMemory links × ((length links ≡ most) ⊎ (coming ≡ Some []))
LinksClause most links coming PortFault = (length links < most) × All HadMemory links
LinksClause {L} most links coming OutOfMemory = (front : List (ServedLink L)) × (last : ServedLink L)
    × (links ≡ front ++ last ∷ []) × (length links ≤ most) × All HadMemory front × (last.end ≡ end.OutOfMemory)

-- Links were served up to an end.
pub record IsServing {S L : Type 0} (answers : RequestRelation S) (of : LinkReports L) (most port : ℕ)
    (old new : ServerState S L) (end : ServeEnd) : Type 0 where
  pub links : List (ServedLink L)
  pub served : HasServedLinks answers of port old new links
  pub clause : LinksClause most links new.coming end

-- One link was accepted at the port, served and closed.
abbrev pub HasServedLink :
    {S L : Type 0} → RequestRelation S → LinkReports L → ℕ → ServerState S L → ServerState S L → ServedLink L → Type 0
HasServedLink answers of port old new link = HasServedLinks answers of port old new (link ∷ [])

-- How the next link ends the serving of links: it does not come, or can't be accepted, and nothing has changed; or it
-- ended for want of memory.
abbrev pub EndsServing :
    {S L : Type 0} → RequestRelation S → LinkReports L → ℕ → ServerState S L → ServerState S L → ServeEnd → Type 0
EndsServing answers of port old new Done = (new ≡ old) × (new.coming ≡ Some [])
EndsServing answers of port old new PortFault = new ≡ old
EndsServing {S} {L} answers of port old new OutOfMemory =
    (link : ServedLink L) × HasServedLink answers of port old new link × (link.end ≡ end.OutOfMemory)

-- The next link was accepted, served and closed, and it ended otherwise than for want of memory.
abbrev pub HasServedNext :
    {S L : Type 0} → RequestRelation S → LinkReports L → ℕ → ServerState S L → ServerState S L → Type 0
HasServedNext {S} {L} answers of port old new =
    (link : ServedLink L) × HasServedLink answers of port old new link × HadMemory link

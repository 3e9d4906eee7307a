-- Links and ports over TCP, and what is known of them.
use Rattle.std.specs.Prelude.{◌≡◌, ℕ, List, Option, None, IsSomeAnd}
use Rattle.book_ports.specs.declared.tcp_link.TcpLink.{TcpLink}
use Rattle.book_ports.specs.declared.tcp_ports.TcpPorts.{TcpPorts}

-- No read and no write of the link failed yet.
pub record HasNoFault (link : TcpLink) : Type 0 where
  pub no_read_fault : link.input.source.faults ≡ 0
  pub no_write_fault : link.sink.faults ≡ 0

-- This port is the last one that the ports bound.
abbrev pub IsBoundTo : {R : Type 0} → ℕ → TcpPorts R → Type 0
IsBoundTo port ports = IsSomeAnd ports.bound (λ bound. bound.port ≡ port)

-- A link over TCP reports no bytes that it has left, and none that it was given.
abbrev pub left_of : TcpLink → Option (List ℕ)
left_of link = None

abbrev pub written_to : TcpLink → List ℕ → Type 0
written_to link bytes = ⊥

-- How many of its reads failed, and how many of its writes.
abbrev pub read_faults_of : TcpLink → ℕ
read_faults_of link = link.input.source.faults

abbrev pub write_faults_of : TcpLink → ℕ
write_faults_of link = link.sink.faults

-- Ports over TCP report no links, neither those to come nor those that were closed.
abbrev pub links_of : {R : Type 0} → TcpPorts R → Option (List TcpLink)
links_of ports = None

-- How many links they have accepted, and the port of the last one.
abbrev pub accepted_by : {R : Type 0} → TcpPorts R → ℕ
accepted_by ports = ports.accepted_links

abbrev pub port_of : {R : Type 0} → TcpPorts R → ℕ
port_of ports = ports.port

-- Ports in memory, and what their calls make of them.
use Rattle.std.specs.Prelude.{◌≡◌, ℕ, ◌+◌, ◌-◌, List, [], ◌∷◌, ◌++◌}
use Rattle.book_keeper.specs.Faults.{next_count}
use Rattle.book_ports.specs.declared.mem_link.MemLink.{MemLink}

-- No read and no write was called on the link yet.
pub record IsUnused (link : MemLink) : Type 0 where
  pub no_read : link.source.calls ≡ 0
  pub no_read_fault : link.source.faults ≡ 0
  pub no_write : link.sink.calls ≡ 0
  pub no_write_fault : link.sink.faults ≡ 0
  pub unwritten : link.sink.written ≡ []

-- The links to come and those that were closed, in order; how many are open; the port of the last call that gave a
-- link; the numbers of the calls of `accept` that fail, the number of these calls so far, and the count of faults.
pub record PortsInMemory : Type 0 where
  pub coming : List MemLink
  pub closed : List MemLink
  pub open_links : ℕ
  pub port : ℕ
  pub fail : List ℕ
  pub calls : ℕ
  pub faults : ℕ

-- The ports after a call that gave a link at the port, with the others to come.
abbrev pub after_accept : PortsInMemory → ℕ → List MemLink → PortsInMemory
after_accept ports port others =
    record ports { coming = others; open_links = ports.open_links + 1; port = port; calls = next_count ports.calls }

-- The ports after a call where no link was to come.
abbrev pub after_none : PortsInMemory → PortsInMemory
after_none ports = record ports { calls = next_count ports.calls }

-- The ports after a call that failed.
abbrev pub after_failed_accept : PortsInMemory → PortsInMemory
after_failed_accept ports = record ports { calls = next_count ports.calls; faults = next_count ports.faults }

-- The ports after this link was closed.
abbrev pub after_close : PortsInMemory → MemLink → PortsInMemory
after_close ports link = record ports { closed = ports.closed ++ link ∷ []; open_links = ports.open_links - 1 }

-- The causes of the statuses that tell of the words, or of a fault: one for each.
use Rattle.std.specs.Prelude.{◌≡◌, ◌↔◌, ℕ}
use Rattle.book_keeper.specs.Faults.{Rose}
use Rattle.book_lines.specs.EndFaults.{TellsFault}
use Rattle.book_app.specs.declared.status.Status.{Status}
use Rattle.book_app.specs.declared.status.Status.TheVariants.{Usage, InputFault, OutputFault, KeeperFault, PortFault}

-- The counts of faults of what a call of the program is given.
pub record Faults : Type 0 where
  pub keeper : ℕ
  pub input : ℕ
  pub output : ℕ
  pub ports : ℕ

-- The counts of these four.
abbrev pub counted : ℕ → ℕ → ℕ → ℕ → Faults
counted keeper input output ports = record { keeper = keeper; input = input; output = output; ports = ports }

-- Those of a call without ports: what it is not given counts no fault.
abbrev pub without_ports : ℕ → ℕ → ℕ → Faults
without_ports keeper input output = counted keeper input output 0

-- Those of a call without an input and an output.
abbrev pub without_streams : ℕ → ℕ → Faults
without_streams keeper ports = counted keeper 0 0 ports

-- Those of the input and the output alone.
abbrev pub in_streams : ℕ → ℕ → Faults
in_streams input output = counted 0 input output 0

-- The causes of the statuses of a call over a keeper and ports. Usage comes exactly where the words are none, as
-- `no_words` says. KeeperFault comes only where the keeper's count of faults rose, and PortFault only where that of the
-- ports did; at each other status the count of the ports stays.
pub record HasBookCauses (no_words : Type 0) (before after : Faults) (status : Status) : Type 0 where
  pub usage : (status ≡ Usage) ↔ no_words
  pub keeper_fault : status ≡ KeeperFault → Rose before.keeper after.keeper
  pub port_faults : TellsFault PortFault status before.ports after.ports

-- The causes of the statuses of a call over an input and an output. InputFault comes only where the count of faults of
-- the input rose, and OutputFault only where that of the output did; at each other status the count stays.
pub record HasStreamCauses (before after : Faults) (status : Status) : Type 0 where
  pub input_faults : TellsFault InputFault status before.input after.input
  pub output_faults : TellsFault OutputFault status before.output after.output

-- The causes of the statuses of a call over a keeper, an input, an output and ports.
pub record HasCauses (no_words : Type 0) (before after : Faults) (status : Status) : Type 0 where
  pub book : HasBookCauses no_words before after status
  pub streams : HasStreamCauses before after status

-- The numbers and messages of the statuses, and the statuses of runs.
use Rattle.std.specs.Prelude.{ℕ, List, [], codes}
use Rattle.book_lines.specs.declared.running.RunEnd.{RunEnd}
use Rattle.book_lines.specs.declared.running.RunEnd.TheVariants as end
use Rattle.book_engine.specs.declared.fault.OpenError.{OpenError}
use Rattle.book_engine.specs.declared.fault.OpenError.TheVariants as error
use Rattle.book_sample.specs.declared.showing.SampleEnd.{SampleEnd}
use Rattle.book_sample.specs.declared.showing.SampleEnd.TheVariants as shown
use Rattle.book_serve.specs.declared.serve_end.ServeEnd.{ServeEnd}
use Rattle.book_serve.specs.declared.serve_end.ServeEnd.TheVariants as served
use Rattle.book_app.specs.declared.status.Status.{Status}
use Rattle.book_app.specs.declared.status.Status.TheVariants.{Done, Usage, Memory, InputFault, OutputFault, KeeperFault}
use Rattle.book_app.specs.declared.status.Status.TheVariants.{BadRows, UnsoundBook, PortFault, InputLimit}

-- The number with which the program ends.
abbrev pub number_of : Status → ℕ
number_of Done = 0
number_of Usage = 2
number_of Memory = 3
number_of InputFault = 4
number_of OutputFault = 5
number_of KeeperFault = 6
number_of (BadRows kind id) = 7
number_of (UnsoundBook kind id) = 7
number_of PortFault = 8
number_of InputLimit = 9

-- The line that the program prints on standard error; at Done it prints none.
abbrev pub message_of : Status → List ℕ
message_of Done = []
message_of Usage =
    codes "usage: book run BOOK | import BOOK FORMAT ACCOUNT CURRENCY | serve BOOK PORT LINKS | sample NUMBER"
message_of Memory = codes "book: out of memory"
message_of InputFault = codes "book: the input failed"
message_of OutputFault = codes "book: the output failed"
message_of KeeperFault = codes "book: the book file failed"
message_of (BadRows kind id) = codes "book: the book is damaged"
message_of (UnsoundBook kind id) = codes "book: the book is damaged"
message_of PortFault = codes "book: the port failed"
message_of InputLimit = codes "book: the input is too long"

-- The status of a run of lines, or of an import, that has ended so.
abbrev pub status_of : RunEnd → Status
status_of end.Done = Done
status_of end.InputLimit = InputLimit
status_of end.InputFault = InputFault
status_of end.OutputFault = OutputFault

-- The status of a sample that was shown.
abbrev pub status_shown : SampleEnd → Status
status_shown shown.Done = Done
status_shown shown.OutOfMemory = Memory
status_shown shown.OutputFault = OutputFault

-- The status of a serving of links that has ended so.
abbrev pub status_served : ServeEnd → Status
status_served served.Done = Done
status_served served.PortFault = PortFault
status_served served.OutOfMemory = Memory

-- The status where no book was opened for this reason.
abbrev pub status_unopened : OpenError → Status
status_unopened error.Keeper = KeeperFault
status_unopened (error.BadRows kind id) = BadRows kind id
status_unopened (error.UnsoundBook kind id) = UnsoundBook kind id
status_unopened error.OutOfMemory = Memory

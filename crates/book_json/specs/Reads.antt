-- What the calls that read members give, in the words of readers.
use Rattle.std.specs.Prelude.{◌≡◌, ℕ, List, Result, Ok, Err, ⊤}
use Rattle.serde_json.specs.Data.{Members}
use Rattle.serde_json.specs.View.{members_view}
use Rattle.book_json.specs.declared.fault.Fault.{Fault}
use Rattle.book_json.specs.declared.fault.Fault.TheVariants.{Member, OutOfMemory}
use Rattle.book_json.specs.declared.reading.Reading.{Reading}

-- The members that are left to read.
abbrev pub rest : Reading → Members
rest reading = members_view reading.members.entries

-- The fault names this member, unless the name found no memory.
abbrev pub IsFaultOf : List ℕ → Fault → Type 0
IsFaultOf name (Member found) = found ≡ name
IsFaultOf name OutOfMemory = ⊤

-- A call gives what its reader gives: the value and the members left, or the member that fails.
abbrev pub Gives : {X : Type 0} → Result (X × Members) (List ℕ) → Result X Fault → Members → Type 0
Gives read (Ok x) left = read ≡ Ok (x, left)
Gives read (Err (Member name)) left = read ≡ Err name
Gives read (Err OutOfMemory) left = ⊤

-- A call gives the value that was read, or the member that fails.
abbrev pub Completes : {X : Type 0} → Result X (List ℕ) → Result X Fault → Type 0
Completes read (Ok x) = read ≡ Ok x
Completes read (Err (Member name)) = read ≡ Err name
Completes read (Err OutOfMemory) = ⊤

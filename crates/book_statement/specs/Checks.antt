-- Checks of a statement file: the fault of a file is the first place at which a check fails, with the first failing
-- check there.
use Rattle.std.specs.Prelude.{ℕ, ◌≡◌, Bool, List, [], ◌∷◌, Option, Some, None, Result, Ok, Err, if◌then◌else◌, ⊤}
use Rattle.book_statement.specs.declared.bad.Bad.{Bad}
use Rattle.book_statement.specs.declared.fault.StatementFault.{StatementFault}
use Rattle.book_statement.specs.declared.read_error.ReadError.{ReadError}
use Rattle.book_statement.specs.declared.read_error.ReadError.TheVariants.{Fault, OutOfMemory}

-- a condition, and what is wrong where it does not hold
pub record Check : Type 0 where
  pub holds : Bool
  pub bad : Bad

-- a check from its two parts
abbrev pub check : Bool → Bad → Check
check holds bad = record { holds = holds; bad = bad }

-- what the first check that fails finds wrong
abbrev pub first_bad : List Check → Option Bad
first_bad [] = None
first_bad (c ∷ cs) = if c.holds then first_bad cs else Some c.bad

-- a place of a file, by its line counted from 1, with the checks that belong there
pub record Place : Type 0 where
  pub line : ℕ
  pub checks : List Check

-- a place from its two parts
abbrev pub place : ℕ → List Check → Place
place line checks = record { line = line; checks = checks }

-- what is wrong at a line, or else a later fault
abbrev pub fault_at : ℕ → Option Bad → Option StatementFault → Option StatementFault
fault_at line (Some bad) later = Some (record { line = line; bad = bad })
fault_at line None later = later

-- the first place at which a check fails
abbrev pub first_fault : List Place → Option StatementFault
first_fault [] = None
first_fault (p ∷ ps) = fault_at p.line (first_bad p.checks) (first_fault ps)

-- a file has either a fault or what it says
abbrev pub unless_fault : {X : Type 0} → Option StatementFault → X → Result X StatementFault
unless_fault (Some fault) value = Err fault
unless_fault None value = Ok value

-- what a call answers that makes checks and reads a value: the value exactly where no check fails, else the first
-- failure
abbrev pub Tells : {X : Type 0} → List Check → X → Result X Bad → Type 0
Tells checks value (Ok given) = (first_bad checks ≡ None) × (given ≡ value)
Tells checks value (Err bad) = first_bad checks ≡ Some bad

-- what a reader answers of a file that says this: exactly its statements or exactly its fault; out of memory at any
-- file
abbrev pub Gives : {X : Type 0} → Result X StatementFault → Result X ReadError → Type 0
Gives said (Ok given) = said ≡ Ok given
Gives said (Err OutOfMemory) = ⊤
Gives said (Err (Fault fault)) = said ≡ Err fault

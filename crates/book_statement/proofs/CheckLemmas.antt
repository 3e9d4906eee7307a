-- Laws of checks and of the first place at which one fails.
use Rattle.std.proofs.Common.{
  ◌≡◌,
  ℕ,
  Bool,
  true,
  false,
  List,
  [],
  ◌∷◌,
  ◌++◌,
  Option,
  Some,
  None,
  Result,
  Ok,
  Err,
  refl,
  ap,
  ◌∙◌,
}
use Rattle.std.specs.Option.{option_or}
use Rattle.std.specs.Prelude.{if◌then◌else◌}
use Rattle.book_statement.specs.declared.bad.Bad.{Bad}
use Rattle.book_statement.specs.declared.fault.StatementFault.{StatementFault}
use Rattle.book_statement.specs.Checks.{Check, check, Tells, first_bad, Place, fault_at, first_fault}

-- of checks one behind the other, the first ones are asked first
pub first_bad-append : (cs ds : List Check) → first_bad (cs ++ ds) ≡ option_or (first_bad cs) (first_bad ds)
first_bad-append [] ds = refl
first_bad-append (c ∷ cs) ds =
    elim (c.holds) as (λ h. (if h then first_bad (cs ++ ds) else Some c.bad) ≡ option_or
    (if h then first_bad cs else Some c.bad) (first_bad ds))
    [ true ↦ first_bad-append cs ds | false ↦ refl ]

-- behind checks that hold, the first failure is one of the later checks
pub first_bad-past : (cs ds : List Check) → first_bad cs ≡ None → first_bad (cs ++ ds) ≡ first_bad ds
first_bad-past cs ds e = first_bad-append cs ds ∙ ap (λ o. option_or o (first_bad ds)) e

-- a failure stays the first one, whatever checks stand behind
pub first_bad-here : (cs ds : List Check) (bad : Bad) → first_bad cs ≡ Some bad → first_bad (cs ++ ds) ≡ Some bad
first_bad-here cs ds bad e = first_bad-append cs ds ∙ ap (λ o. option_or o (first_bad ds)) e

fault_at-or : (line : ℕ) (found : Option Bad) (f g : Option StatementFault)
    → fault_at line found (option_or f g) ≡ option_or (fault_at line found f) g
fault_at-or line (Some bad) f g = refl
fault_at-or line None f g = refl

-- of places one behind the other, the first ones are asked first
pub first_fault-append : (ps qs : List Place) → first_fault (ps ++ qs) ≡ option_or (first_fault ps) (first_fault qs)
first_fault-append [] qs = refl
first_fault-append (p ∷ ps) qs =
    ap (fault_at p.line (first_bad p.checks)) (first_fault-append ps qs)
    ∙ fault_at-or p.line (first_bad p.checks) (first_fault ps) (first_fault qs)

-- behind places where all holds, the first fault is at one of the later places
pub first_fault-past : (ps qs : List Place) → first_fault ps ≡ None → first_fault (ps ++ qs) ≡ first_fault qs
first_fault-past ps qs e = first_fault-append ps qs ∙ ap (λ o. option_or o (first_fault qs)) e

-- a fault stays the first one, whatever places stand behind
pub first_fault-here : (ps qs : List Place) (fault : StatementFault) → first_fault ps ≡ Some fault
    → first_fault (ps ++ qs) ≡ Some fault
first_fault-here ps qs fault e = first_fault-append ps qs ∙ ap (λ o. option_or o (first_fault qs)) e

-- behind places where all holds, a place at which a check fails is the fault, whatever places stand behind
pub fault_there : (ps : List Place) (p : Place) (qs : List Place) (bad : Bad) → first_fault ps ≡ None
    → first_bad p.checks ≡ Some bad
    → first_fault (ps ++ p ∷ qs) ≡ Some (record { line = p.line; bad = bad })
fault_there ps p qs bad e fails = first_fault-past ps (p ∷ qs) e ∙ ap (λ o. fault_at p.line o (first_fault qs)) fails

-- one more place where all holds
pub sound_more : (ps : List Place) (p : Place) → first_fault ps ≡ None → first_bad p.checks ≡ None
    → first_fault (ps ++ p ∷ []) ≡ None
sound_more ps p e holds = first_fault-past ps (p ∷ []) e ∙ ap (λ o. fault_at p.line o None) holds

-- what a call answers of later checks it answers of all, behind checks that hold
pub tells-past : {X : Type 0} (cs ds : List Check) (value : X) (result : Result X Bad) → first_bad cs ≡ None
    → Tells ds value result → Tells (cs ++ ds) value result
tells-past cs ds value (Ok given) e h = (first_bad-past cs ds e ∙ h.0, h.1)
tells-past cs ds value (Err bad) e h = first_bad-past cs ds e ∙ h

-- one check that holds, in front
pub tells-held : {X : Type 0} (holds : Bool) (bad : Bad) (ds : List Check) (value : X) (result : Result X Bad)
    → holds ≡ true → Tells ds value result → Tells (check holds bad ∷ ds) value result
tells-held true bad ds value result e h = h
tells-held false bad ds value result e h = absurd cc

-- one check that fails, in front
pub tells-failed : {X : Type 0} (holds : Bool) (bad : Bad) (ds : List Check) (value : X) → holds ≡ false
    → Tells (check holds bad ∷ ds) value (Err bad)
tells-failed true bad ds value e = absurd cc
tells-failed false bad ds value e = refl

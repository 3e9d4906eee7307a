-- Checks that all hold, and what it says of a record that it has no fault.
use Rattle.std.proofs.Common.{◌≡◌, ℕ, Bool, true, false, ◌&&◌, not, List, [], ◌∷◌, Option, Some, None, refl, ap}
use Rattle.std.proofs.Common.{◌∙◌, inl, inr}
use Rattle.std.specs.Prelude.{⊤, if◌then◌else◌}
use Rattle.std.proofs.lemmas.Bool.{cases_Bool, cond-true}
use Rattle.book_statement.specs.Checks.{Check, fault_at, first_bad, first_fault}
use Rattle.book_statement.specs.declared.bad.Bad.{Bad}
use Rattle.bai2_read.specs.Said.{said_by}
use Rattle.bai2_read.specs.Kinds.{is_blank, is_file_header, may_follow}
use Rattle.bai2_read.specs.Reading.{Known, checks, own_checks, record_place}
use Rattle.bai2_read.specs.Records.{Record}
use Rattle.bai2_read.specs.Said.{Said}
use Rattle.bai2_read.specs.declared.kind.Kind.{Kind}
use Rattle.bai2_read.specs.declared.kind.Kind.TheVariants.{FileHeader}

-- each check holds
abbrev pub AllHold : List Check → Type 0
AllHold [] = ⊤
AllHold (c ∷ cs) = (c.holds ≡ true) × AllHold cs

held : (holds : Bool) (bad : Bad) (later : Option Bad) → (if holds then later else Some bad) ≡ None
    → (holds ≡ true) × (later ≡ None)
held true bad later e = (refl, e)
held false bad later e = absurd cc

pub all_hold : (cs : List Check) → first_bad cs ≡ None → AllHold cs
all_hold [] e = tt
all_hold (c ∷ cs) e = let p = held c.holds c.bad (first_bad cs) e in (p.0, all_hold cs p.1)

pub none_bad : (cs : List Check) → AllHold cs → first_bad cs ≡ None
none_bad [] h = refl
none_bad (c ∷ cs) h = cond-true c.holds (first_bad cs) (Some c.bad) h.0 ∙ none_bad cs h.1

-- what is known of a record without a fault, behind what the records before it say
pub record Checked (known : Known) (c : Said) (r : Record) : Type 0 where
  pub order : may_follow c.last r.kind ≡ true
  pub own : AllHold (own_checks known c r.kind r.lines r.body)

no_bad : (line : ℕ) (found : Option Bad) → fault_at line found None ≡ None → found ≡ None
no_bad line None e = refl
no_bad line (Some bad) e = absurd cc

abbrev pub starts_wrong : Said → Record → Bool
starts_wrong c r = is_blank c.last && not (is_file_header r.kind)

pub checked : (known : Known) (c : Said) (r : Record) → starts_wrong c r ≡ false
    → first_fault (record_place known c r ∷ []) ≡ None → Checked known c r
unfolding record_place checks
checked known c r goes none =
    let found = no_bad r.line (first_bad (checks known c r)) (rw goes at none) in
    let h = all_hold (checks known c r) found in
    record { order = h.0; own = h.1 }

pub passes : (known : Known) (c : Said) (r : Record) → starts_wrong c r ≡ false → Checked known c r
    → first_fault (record_place known c r ∷ []) ≡ None
unfolding record_place checks
passes known c r goes h =
    rw goes (ap (λ (o : Option Bad). fault_at r.line o None) (none_bad (checks known c r) (h.order, h.own)))

-- the first record is the header of a file
header_kind : (kind : Kind) → is_file_header kind ≡ true → kind ≡ FileHeader
header_kind FileHeader e = refl
header_kind _ e = absurd cc

pub first_is_header : (known : Known) (r : Record) → first_fault (record_place known (said_by []) r ∷ []) ≡ None
    → r.kind ≡ FileHeader
unfolding record_place
first_is_header known r none =
    elim (cases_Bool (is_file_header r.kind)) [
      | inl is ↦ header_kind r.kind is
      | inr other ↦ let fails = rw other at none in absurd cc
    ]

-- The lines of statements have amounts that a book may hold: of a list of lines and of statements, and of checks that
-- hold.
use Rattle.std.proofs.Common.{◌≡◌, ℕ, zero, suc, ◌%◌, ◌^◌, ◌==◌, nat_le, length, Bool, true, false, ℤ, pos, negsuc, neg_ℤ, List, [], ◌∷◌, ◌++◌}
use Rattle.std.proofs.Common.{if◌then◌else◌, flat_map, Option, Some, None, Ok, refl, sym, ◌∙◌, arith}
use Rattle.std.specs.List.{AllByRecursion}
use Rattle.std.specs.Option.{option_or}
use Rattle.std.proofs.lemmas.Bool.Decides.{nat_tests}
use Rattle.book_statement.specs.Checks.{Check, Place, check, fault_at, first_bad, first_fault, unless_fault}
use Rattle.book_statement.specs.Lists.{each_after}
use Rattle.book_statement.specs.Numbers.{fine_units, largest_amount, unit_checks, units}
use Rattle.book_statement.specs.declared.bad.Bad.{Bad}
use Rattle.book_statement.specs.declared.bad.Bad.TheVariants.{AmountForm, TooManyDecimals}
use Rattle.book_statement.specs.declared.fault.StatementFault.{StatementFault}
use Rattle.book_statement.specs.declared.statement.Statement.{Statement}
use Rattle.book_statement.specs.declared.statement_line.StatementLine.{StatementLine}
use Rattle.book_statement.proofs.CheckLemmas.{first_bad-append, first_fault-append}
use Rattle.book_sound.specs.LineRules.{is_over_limit}

-- These lines have amounts of at most 10^12 in size.
abbrev pub AreWithin : List StatementLine → Type 0
AreWithin lines = AllByRecursion (λ line. is_over_limit line.amount ≡ false) lines

-- So have those of each of these statements.
abbrev pub AllWithin : List Statement → Type 0
AllWithin statements = AllByRecursion (λ statement. AreWithin statement.lines) statements

-- ---- lists

pub each-append :
    {X : Type 0} (P : X → Type 0) (xs ys : List X) → AllByRecursion P xs → AllByRecursion P ys
    → AllByRecursion P (xs ++ ys)
each-append P [] ys front back = back
each-append P (x ∷ xs) ys front back = (front.0, each-append P xs ys front.1 back)

pub each-gathered :
    {X Y : Type 0} (P : Y → Type 0) (gives : X → List Y) (xs : List X)
    → ((x : X) → AllByRecursion P (gives x)) → AllByRecursion P (flat_map gives xs)
each-gathered P gives [] all = tt
each-gathered P gives (x ∷ xs) all =
    each-append P (gives x) (flat_map gives xs) (all x) (each-gathered P gives xs all)

pub each-behind :
    {X Y : Type 0} (P : Y → Type 0) (gives : List X → X → List Y) (before xs : List X)
    → ((before : List X) (x : X) → AllByRecursion P (gives before x))
    → AllByRecursion P (each_after gives before xs)
each-behind P gives before [] all = tt
each-behind P gives before (x ∷ xs) all =
    each-append P (gives before x) (each_after gives (before ++ x ∷ []) xs) (all before x)
    (each-behind P gives (before ++ x ∷ []) xs all)

-- ---- amounts

pub size-within : (size : ℕ) → nat_le size largest_amount ≡ true → is_over_limit (pos size) ≡ false
size-within size small = grind (arith, nat_tests, small)

pub minus-within : (amount : ℤ) → is_over_limit amount ≡ false → is_over_limit (neg_ℤ amount) ≡ false
minus-within (pos zero) within = refl
minus-within (pos (suc n)) within = within
minus-within (negsuc n) within = within

pub signed-within :
    (negative : Bool) (size : ℕ) → nat_le size largest_amount ≡ true
    → is_over_limit (if negative then neg_ℤ (pos size) else pos size) ≡ false
signed-within true size small = minus-within (pos size) (size-within size small)
signed-within false size small = size-within size small

-- ---- checks that hold

both_none :
    {X : Type 0} (one other : Option X) → option_or one other ≡ None → (one ≡ None) × (other ≡ None)
both_none None other none = (refl, none)
both_none (Some x) other none = absurd cc

pub checks-parts :
    (cs ds : List Check) → first_bad (cs ++ ds) ≡ None → (first_bad cs ≡ None) × (first_bad ds ≡ None)
checks-parts cs ds none = both_none (first_bad cs) (first_bad ds) (sym (first_bad-append cs ds) ∙ none)

pub check-head :
    (holds : Bool) (bad : Bad) (cs : List Check) → first_bad (check holds bad ∷ cs) ≡ None
    → (holds ≡ true) × (first_bad cs ≡ None)
check-head true bad cs none = (refl, none)
check-head false bad cs none = absurd cc

-- an amount that passes its checks is at most 10^12 smallest units
pub units-small :
    (whole decimals : List ℕ) (fraction : ℕ) → first_bad (unit_checks whole decimals fraction) ≡ None
    → nat_le (units whole decimals fraction) largest_amount ≡ true
unfolding unit_checks
units-small whole decimals fraction holds =
    let small = nat_le (units whole decimals fraction) largest_amount in
    let rest = check-head (fine_units whole decimals fraction % 10 ^ length decimals == 0) TooManyDecimals
    (check small AmountForm ∷ []) holds in
    (check-head small AmountForm [] rest.1).0

pub places-parts :
    (ps qs : List Place) → first_fault (ps ++ qs) ≡ None → (first_fault ps ≡ None) × (first_fault qs ≡ None)
places-parts ps qs none = both_none (first_fault ps) (first_fault qs) (sym (first_fault-append ps qs) ∙ none)

pub place-holds :
    (line : ℕ) (checks : List Check) → first_fault (record { line = line; checks = checks } ∷ []) ≡ None
    → first_bad checks ≡ None
place-holds line checks none = go (first_bad checks) none
  where
    go : (bad : Option Bad) → fault_at line bad None ≡ None → bad ≡ None
    go None none = refl
    go (Some b) none = absurd cc

pub no-fault :
    {X : Type 0} (fault : Option StatementFault) (value said : X) → unless_fault fault value ≡ Ok said
    → (fault ≡ None) × (value ≡ said)
no-fault None value said is = (refl, cc)
no-fault (Some fault) value said is = absurd cc

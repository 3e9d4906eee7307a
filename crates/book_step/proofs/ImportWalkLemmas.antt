-- An import step by step: what its file is read in, which rule is broken first, and what its changes come to.
use Rattle.std.proofs.Common.{◌≡◌, ℕ, ◌≤◌, ◌^◌, true, false, List}
use Rattle.std.proofs.Common.{[], ◌++◌, map, Option, Some, None, Result, Ok, Err, IsTrue, sym, ap}
use Rattle.std.proofs.Common.{subst, ◌∙◌, arith}
use Rattle.std.proofs.lemmas.Bool.Decides.{nat_tests}
use Rattle.book_commodity.specs.CommodityRules.{has_fraction}
use Rattle.book_commodity.specs.Rules.{first_broken}
use Rattle.book_commodity.specs.Table.{value_of}
use Rattle.book_commodity.specs.declared.commodity.Commodity.{Commodity}
use Rattle.book_commodity.proofs.RuleLemmas.{first-here, first-past, kept_of, not-broken}
use Rattle.book_statement.specs.Currencies.{HaveFractions, IsFraction}
use Rattle.book_statement.specs.declared.fault.StatementFault.{StatementFault}
use Rattle.book_statement.specs.declared.statement.Statement.{Statement}
use Rattle.book_sound.proofs.OwnFrames.{all_of_each}
use Rattle.book_import.specs.Import.{Bound, imported}
use Rattle.book_import.specs.declared.added.Additions.{Additions}
use Rattle.book_undo.specs.Book.{Book}
use Rattle.book_undo.specs.Edit.{edited}
use Rattle.book_undo.specs.declared.edit.Edit.{Edit}
use Rattle.book_command.specs.declared.refusal.Refusal.{Refusal}
use Rattle.book_command.specs.declared.refusal.Refusal.TheVariants as refusal
use Rattle.book_command.specs.declared.rule.Rule.{Rule}
use Rattle.book_command.specs.declared.rule.Rule.TheVariants.{BadStatement}
use Rattle.book_step.specs.Importing.{added_by, adds_nothing, book_with, bound_to, drawn_by, file_rules, import_answer}
use Rattle.book_step.specs.Importing.{import_of, import_said, import_statements, room_rules}
use Rattle.book_step.specs.Outcome.{Broken, StepsTo, changing, leaving, unless_broken}
use Rattle.book_step.specs.Schedules.{Finds}
use Rattle.book_step.specs.Soundness.{IsSoundBook}
use Rattle.book_step.specs.State.{State}
use Rattle.book_step.specs.declared.step.Step.{Step}
use Rattle.book_step.proofs.OutcomeLemmas.{either-broken, either-changed, either-left}

-- ---- the currencies of a sound book

fraction-of : (commodity : Commodity) → IsTrue (has_fraction commodity) → IsFraction commodity.fraction
fraction-of commodity has = (grind (arith, nat_tests, has), grind (arith, nat_tests, has))

pub known-fractions : (book : Book) → IsSoundBook book → HaveFractions book.commodities
known-fractions book is =
    all_of_each (λ (e : ℕ × Commodity). IsFraction e.1.fraction) book.commodities is.commodities.rise
    (λ k x there. fraction-of x (is.commodities.keep.each k x there).1.0)

pub known-fraction :
    (book : Book) (n : ℕ) (commodity : Commodity) → IsSoundBook book → value_of n book.commodities ≡ Some commodity
    → IsFraction commodity.fraction
known-fraction book n commodity is there = fraction-of commodity (is.commodities.keep.each n commodity there).1.0

-- ---- the rules of the statements

pub bound-refused :
    (state : State) (rules : List (Option Rule)) (given : Option ℕ) (statements : List Statement) (why : Refusal)
    → first_broken rules ≡ None
    → Finds {T = List Bound} (file_rules state.book given statements)
    (λ file. file ≡ map (bound_to state.book.bindings given) statements) (Err why)
    → StepsTo state (import_statements state rules given statements) (Err why)
bound-refused state rules given statements (refusal.Broken rule) none found =
    let added = added_by state given statements in
    let file = file_rules state.book given statements in
    let room = room_rules state.book added in
    either-broken state (adds_nothing added) ((rules ++ file) ++ room) (book_with state.book added) (drawn_by added)
    (import_answer added) (import_answer added) rule
    (first-here (rules ++ file) room rule (first-past rules file none ∙ found))
bound-refused state rules given statements refusal.Keeper none found = absurd found
bound-refused state rules given statements refusal.OutOfMemory none found = tt

-- ---- what is added

pub room-few :
    (book : Book) (added : Additions) → first_broken (room_rules book added) ≡ None → drawn_by added ≤ 2 ^ 62
room-few book added none =
    let kept = kept_of (room_rules book added) none in
    let lines = not-broken _ _ kept.0 in
    let statements = not-broken _ _ kept.1.0 in
    grind (arith, nat_tests, lines, statements)

pub add-broken :
    (state : State) (rules : List (Option Rule)) (added : Additions) (rule : Rule) → first_broken rules ≡ None
    → first_broken (room_rules state.book added) ≡ Some rule → import_of state rules added ≡ Broken rule
add-broken state rules added rule none broken =
    let room = room_rules state.book added in
    either-broken state (adds_nothing added) (rules ++ room) (book_with state.book added) (drawn_by added)
    (import_answer added) (import_answer added) rule (first-past rules room none ∙ broken)

pub add-left :
    (state : State) (rules : List (Option Rule)) (added : Additions) (result : Result Step Refusal)
    → first_broken rules ≡ None → first_broken (room_rules state.book added) ≡ None → adds_nothing added ≡ true
    → StepsTo state (leaving state [] (import_answer added)) result
    → StepsTo state (import_of state rules added) result
add-left state rules added result none room nothing left =
    either-left state (adds_nothing added) (rules ++ room_rules state.book added) (book_with state.book added)
    (drawn_by added) (import_answer added) (import_answer added) result
    (first-past rules (room_rules state.book added) none ∙ room) nothing left

pub add-changed :
    (state : State) (rules : List (Option Rule)) (added : Additions) (edit : Edit) (drawn : ℕ)
    (result : Result Step Refusal)
    → first_broken rules ≡ None → first_broken (room_rules state.book added) ≡ None → adds_nothing added ≡ false
    → edited edit state.book ≡ book_with state.book added → drawn ≡ drawn_by added
    → StepsTo state (changing state [] (edited edit state.book) drawn (import_answer added)) result
    → StepsTo state (import_of state rules added) result
add-changed state rules added edit drawn result none room some leads count changed =
    either-changed state (adds_nothing added) (rules ++ room_rules state.book added) (book_with state.book added)
    (drawn_by added) (import_answer added) (import_answer added) result
    (first-past rules (room_rules state.book added) none ∙ room) some
    (subst (λ (n : ℕ). StepsTo state (changing state [] (book_with state.book added) n (import_answer added)) result)
    count
    (subst (λ (b : Book). StepsTo state (changing state [] b drawn (import_answer added)) result) leads changed))

-- ---- the file

pub asked-broken :
    (state : State) (rules : List (Option Rule)) (given : Option ℕ) (says : Result (List Statement) StatementFault)
    (rule : Rule) → first_broken rules ≡ Some rule → import_said state rules given says ≡ Broken rule
asked-broken state rules given (Err fault) rule broken =
    ap (λ (b : Option Rule). unless_broken b (Broken (BadStatement fault))) broken
asked-broken state rules given (Ok statements) rule broken =
    let added = added_by state given statements in
    let file = file_rules state.book given statements in
    let room = room_rules state.book added in
    either-broken state (adds_nothing added) ((rules ++ file) ++ room) (book_with state.book added) (drawn_by added)
    (import_answer added) (import_answer added) rule
    (first-here (rules ++ file) room rule (first-here rules file rule broken))

pub file-broken :
    (state : State) (rules : List (Option Rule)) (given : Option ℕ) (says : Result (List Statement) StatementFault)
    (fault : StatementFault) → first_broken rules ≡ None → says ≡ Err fault
    → import_said state rules given says ≡ Broken (BadStatement fault)
file-broken state rules given says fault none is =
    ap (import_said state rules given) is
    ∙ ap (λ (b : Option Rule). unless_broken b (Broken (BadStatement fault))) none

pub file-read :
    (state : State) (rules : List (Option Rule)) (given : Option ℕ) (says : Result (List Statement) StatementFault)
    (statements : List Statement) (result : Result Step Refusal) → says ≡ Ok statements
    → StepsTo state (import_statements state rules given statements) result
    → StepsTo state (import_said state rules given says) result
file-read state rules given says statements result is done =
    subst (λ (s : Result (List Statement) StatementFault). StepsTo state (import_said state rules given s) result)
    (sym is) done

-- what is added is what the statements of the file add, with their accounts
pub added-from :
    (state : State) (rules : List (Option Rule)) (given : Option ℕ) (statements : List Statement) (file : List Bound)
    (added : Additions) (result : Result Step Refusal)
    → file ≡ map (bound_to state.book.bindings given) statements
    → added ≡ imported state.book.statements state.book.lines file state.next
    → StepsTo state (import_of state (rules ++ file_rules state.book given statements) added) result
    → StepsTo state (import_statements state rules given statements) result
added-from state rules given statements file added result bound is done =
    subst (λ (a : Additions). StepsTo state (import_of state (rules ++ file_rules state.book given statements) a) result)
    (is ∙ ap (λ (f : List Bound). imported state.book.statements state.book.lines f state.next) bound) done

-- What an import of a file comes to in a book: when it leaves the state, that all of the file is there after it, and
-- that two imports in either order leave the same keys and the same statements.
use Rattle.std.proofs.Common.{◌≡◌, ℕ, ◌+◌, ◌==◌, ◌||◌, nat_lt, Bool, true, false, if◌then◌else◌, List, []}
use Rattle.std.proofs.Common.{◌∷◌, ◌++◌, length, map, Option, Ok, Err, Result, refl, sym, ap, subst, ◌∙◌}
use Rattle.std.proofs.Common.{arith}
use Rattle.std.specs.Prelude.{IfOk}
use Rattle.std.proofs.Math.ListN.{length-append}
use Rattle.std.proofs.lemmas.Bool.{and_parts}
use Rattle.std.proofs.lemmas.Bool.Decides.{nat_tests}
use Rattle.std.proofs.lemmas.List.{append-nil}
use Rattle.book_commodity.specs.Rules.{AllKept, broken_where, first_broken}
use Rattle.book_commodity.proofs.RuleLemmas.{kept_back, kept_both, kept_front, kept_of, none_broken, not-broken}
use Rattle.book_commodity.specs.declared.counted.Counted.TheVariants.{Lines, Statements}
use Rattle.book_statement.specs.declared.fault.StatementFault.{StatementFault}
use Rattle.book_statement.specs.declared.held.Held.{Held}
use Rattle.book_statement.specs.declared.line.Line.{Line}
use Rattle.book_statement.specs.declared.line_key.LineKey.{LineKey}
use Rattle.book_statement.specs.declared.statement.Statement.{Statement}
use Rattle.book_undo.specs.Book.{Book}
use Rattle.book_undo.specs.Edit.{is_nothing}
use Rattle.book_import.specs.Import.{has_key}
use Rattle.book_import.specs.Laws.{AreThere, count_lines, is_among, keys_in, only_seen}
use Rattle.book_import.specs.declared.added.Additions.{Additions}
use Rattle.book_import.proofs.ImportLaws.{imported-keys, imported-nothing}
use Rattle.book_command.specs.declared.answer.Answer.{Answer}
use Rattle.book_command.specs.declared.answer.Answer.TheVariants as answer
use Rattle.book_command.specs.declared.command.Format.{Format}
use Rattle.book_command.specs.declared.command.Update.TheVariants.{Import}
use Rattle.book_command.specs.declared.refusal.Refusal.{Refusal}
use Rattle.book_command.specs.declared.rule.Rule.{Rule}
use Rattle.book_command.specs.declared.rule.Rule.TheVariants.{BadStatement, Limit}
use Rattle.book_step.specs.Importing.{added_by, adds_nothing, book_with, bound_to, drawn_by, file_rules, given_rules}
use Rattle.book_step.specs.Importing.{import_answer, import_of, import_said, room_rules, said}
use Rattle.book_step.specs.Laws.{HasFile, SameKeys, SameStatements, bound_in, file_of, has_statement, is_in_file}
use Rattle.book_step.specs.Laws.{lines_in}
use Rattle.book_step.specs.Outcome.{Broken, Done, StepsTo, after, changed, changing, leaving, numbers, unless_broken}
use Rattle.book_step.specs.Outcome.{version_after}
use Rattle.book_step.specs.State.{State}
use Rattle.book_step.specs.Step.{outcome}
use Rattle.book_step.specs.declared.step.Step.{Step}
use Rattle.book_step.proofs.AnswerLemmas.{whole_of}
use Rattle.book_step.proofs.SoundOutcome.{changing_done, leaving_done, unless_done}
use Rattle.book_step.proofs.ThereLemmas.{imported-statements, imported-there}

-- ---- what an import that is done says

-- What is added led from a state to another with this answer, behind some rules that are kept.
record IsAdded (state : State) (rules : List (Option Rule)) (added : Additions) (new : State) (answered : Answer) :
    Type 0 where
  kept : AllKept (rules ++ room_rules state.book added)
  book : new.book ≡ book_with state.book added
  left : adds_nothing added ≡ true → new ≡ state
  raised : adds_nothing added ≡ false → new.version ≡ state.version + 1
  answers : answered ≡ import_answer added

none-there : {T : Type 0} (xs : List T) → (length xs == 0) ≡ true → xs ≡ []
none-there [] e = refl
none-there (x ∷ xs) e = absurd (grind (arith, nat_tests, e))

book-with-nothing :
    (book : Book) (added : Additions) → adds_nothing added ≡ true → book_with book added ≡ book
book-with-nothing book added nothing i =
    let both = and_parts (length added.statements == 0) _ nothing in
    record book {
      statements = (ap (λ (es : List (ℕ × Held)). book.statements ++ es) (none-there added.statements both.0)
          ∙ append-nil book.statements) i;
      lines = (ap (λ (es : List (ℕ × Line)). book.lines ++ es) (none-there added.lines both.1)
          ∙ append-nil book.lines) i;
    }

is-added :
    (state : State) (rules : List (Option Rule)) (added : Additions) (new : State) (answered : Answer)
    → import_of state rules added ≡ Done new answered → IsAdded state rules added new answered
is-added state rules added new answered e = go (adds_nothing added) refl e
  where
    all : List (Option Rule)
    all = rules ++ room_rules state.book added

    go : (nothing : Bool) → adds_nothing added ≡ nothing
        → (if nothing then leaving state all (import_answer added)
        else changing state all (book_with state.book added) (drawn_by added) (import_answer added))
        ≡ Done new answered
        → IsAdded state rules added new answered
    go true nothing e =
        let done = unless_done (first_broken all) (Done state (import_answer added)) new answered e in
        let same : new ≡ state = sym (leaving_done state all (import_answer added) new answered e) in
        record {
          kept = kept_of all done.0;
          book = ap (λ (s : State). s.book) same ∙ sym (book-with-nothing state.book added nothing);
          left = λ none. same;
          raised = λ some. absurd (let both = nothing in cc);
          answers = (let both = done.1 in cc);
        }
    go false nothing e =
        let later = book_with state.book added in
        let change = changing_done state all later (drawn_by added) (import_answer added) new answered e in
        let last = numbers state (drawn_by added) ∷ [] in
        let done = unless_done (first_broken (all ++ last))
        (Done (changed state later (drawn_by added)) (import_answer added)) new answered e in
        record {
          kept = change.kept;
          book = ap (λ (s : State). s.book) (sym change.is);
          left = λ none. absurd (let both = nothing in cc);
          raised = λ some. ap (λ (s : State). s.version) (sym change.is);
          answers = (let both = done.1 in cc);
        }

-- The file says these statements, and what they add led to the state with this answer.
record IsImported
    (state : State) (format : Format) (text : List ℕ) (given : Option ℕ) (new : State) (answered : Answer) :
    Type 0 where
  statements : List Statement
  says : said state.book.commodities text format ≡ Ok statements
  added : IsAdded state (given_rules state.book format given ++ file_rules state.book given statements)
      (added_by state given statements) new answered

is-imported :
    (state : State) (format : Format) (text : List ℕ) (given : Option ℕ) (new : State) (answered : Answer)
    → outcome state (Import format text given) ≡ Done new answered → IsImported state format text given new answered
is-imported state format text given new answered e = go (said state.book.commodities text format) refl e
  where
    rules : List (Option Rule)
    rules = given_rules state.book format given

    go : (says : Result (List Statement) StatementFault) → said state.book.commodities text format ≡ says
        → import_said state rules given says ≡ Done new answered
        → IsImported state format text given new answered
    go (Err fault) is e =
        absurd (let none = (unless_done (first_broken rules) (Broken (BadStatement fault)) new answered e).1 in cc)
    go (Ok statements) is e = record {
      statements = statements;
      says = is;
      added = is-added state (rules ++ file_rules state.book given statements) (added_by state given statements) new
          answered e;
    }

-- ---- what stays, and what is there after it

-- Another file is bound to the same accounts after an import as before it.
pub import-frames :
    (state : State) (format : Format) (text : List ℕ) (given : Option ℕ) (new : State) (answered : Answer)
    → outcome state (Import format text given) ≡ Done new answered
    → (other : Format) (said_there : List ℕ) (at : Option ℕ)
    → file_of new.book other said_there at ≡ file_of state.book other said_there at
import-frames state format text given new answered e other said_there at =
    ap (λ (b : Book). file_of b other said_there at) (is-imported state format text given new answered e).added.book

-- After an import exactly the keys of the book and of the file are in the book.
pub import-keys :
    (state : State) (format : Format) (text : List ℕ) (given : Option ℕ) (new : State) (answered : Answer)
    (key : LineKey) → outcome state (Import format text given) ≡ Done new answered
    → has_key key new.book.lines
    ≡ (has_key key state.book.lines || is_among key (keys_in (file_of state.book format text given)))
import-keys state format text given new answered key e =
    let is = is-imported state format text given new answered e in
    let file = map (bound_to state.book.bindings given) is.statements in
    ap (λ (b : Book). has_key key b.lines) is.added.book
    ∙ imported-keys key state.book.statements state.book.lines file state.next
    ∙ ap (λ (s : Result (List Statement) StatementFault). has_key key state.book.lines
    || is_among key (keys_in (bound_in state.book given s))) (sym is.says)

-- After an import exactly the statements of the book and of the file are in the book.
pub import-statements :
    (state : State) (format : Format) (text : List ℕ) (given : Option ℕ) (new : State) (answered : Answer)
    (held : Held) → outcome state (Import format text given) ≡ Done new answered
    → has_statement held new.book.statements
    ≡ (has_statement held state.book.statements || is_in_file held (file_of state.book format text given))
import-statements state format text given new answered held e =
    let is = is-imported state format text given new answered e in
    let file = map (bound_to state.book.bindings given) is.statements in
    ap (λ (b : Book). has_statement held b.statements) is.added.book
    ∙ imported-statements held state.book.statements state.book.lines file state.next
    ∙ ap (λ (s : Result (List Statement) StatementFault). has_statement held state.book.statements
    || is_in_file held (bound_in state.book given s)) (sym is.says)

-- After an import all of its file is in the book.
pub import-there :
    (state : State) (format : Format) (text : List ℕ) (given : Option ℕ) (new : State) (answered : Answer)
    → outcome state (Import format text given) ≡ Done new answered → HasFile new.book format text given
import-there state format text given new answered e =
    let is = is-imported state format text given new answered e in
    let file = map (bound_to state.book.bindings given) is.statements in
    let named : file_of new.book format text given ≡ file =
    import-frames state format text given new answered e format text given ∙ ap (bound_in state.book given) is.says in
    let there = imported-there state.book.statements state.book.lines file state.next in
    subst (λ bounds. AreThere new.book.statements new.book.lines bounds) (sym named)
    (subst (λ (b : Book). AreThere b.statements b.lines file) (sym is.added.book) there)

-- ---- an import of what is there

-- what is added of a file that is there
nothing-added :
    (state : State) (format : Format) (text : List ℕ) (given : Option ℕ) (statements : List Statement)
    → said state.book.commodities text format ≡ Ok statements → HasFile state.book format text given
    → added_by state given statements ≡ only_seen (lines_in state.book format text given) state.next
nothing-added state format text given statements says there =
    let named = ap (bound_in state.book given) says in
    let file = map (bound_to state.book.bindings given) statements in
    imported-nothing state.book.statements state.book.lines file state.next
    (subst (λ bounds. AreThere state.book.statements state.book.lines bounds) named there)
    ∙ ap (λ bounds. only_seen (count_lines bounds) state.next) (sym named)

-- An import whose file is all in the book leaves the state. Its answer has no statement and no line, and all lines of
-- the file are seen.
pub import-leaves :
    (state : State) (format : Format) (text : List ℕ) (given : Option ℕ) (new : State) (answered : Answer)
    → outcome state (Import format text given) ≡ Done new answered → HasFile state.book format text given
    → (new ≡ state) × (answered ≡ answer.Import [] [] (lines_in state.book format text given))
import-leaves state format text given new answered e there =
    let is = is-imported state format text given new answered e in
    let none = nothing-added state format text given is.statements is.says there in
    (is.added.left (ap adds_nothing none), is.added.answers ∙ ap import_answer none)

-- Only such an import leaves it,
pub import-left :
    (state : State) (format : Format) (text : List ℕ) (given : Option ℕ) (new : State) (answered : Answer)
    → outcome state (Import format text given) ≡ Done new answered → new ≡ state
    → HasFile state.book format text given
import-left state format text given new answered e same =
    subst (λ (s : State). HasFile s.book format text given) same
    (import-there state format text given new answered e)

-- and any other raises the version by one.
pub import-raises :
    (state : State) (format : Format) (text : List ℕ) (given : Option ℕ) (new : State) (answered : Answer)
    → outcome state (Import format text given) ≡ Done new answered → (HasFile state.book format text given → ⊥)
    → new.version ≡ state.version + 1
import-raises state format text given new answered e missing =
    go (adds_nothing (added_by state given is.statements)) refl
  where
    is : IsImported state format text given new answered
    is = is-imported state format text given new answered e

    go : (nothing : Bool) → adds_nothing (added_by state given is.statements) ≡ nothing
        → new.version ≡ state.version + 1
    go true nothing = absurd (missing (import-left state format text given new answered e (is.added.left nothing)))
    go false some = is.added.raised some

-- ---- the same import again

room-again :
    (book : Book) (added : Additions) (next : ℕ) (seen : ℕ) → AllKept (room_rules book added)
    → AllKept (room_rules (book_with book added) (only_seen seen next))
room-again book added next seen kept =
    let lines = not-broken _ _ kept.0 in
    let statements = not-broken _ _ kept.1.0 in
    let all_lines = length-append book.lines added.lines in
    let all_statements = length-append book.statements added.statements in
    let few_lines : nat_lt 1000000 (length (book.lines ++ added.lines) + 0) ≡ false =
    grind (arith, nat_tests, lines, all_lines) in
    let few_statements : nat_lt 100000 (length (book.statements ++ added.statements) + 0) ≡ false =
    grind (arith, nat_tests, statements, all_statements) in (
      ap (λ b. broken_where b (Limit Lines 1000000)) few_lines,
      (ap (λ b. broken_where b (Limit Statements 100000)) few_statements, tt),
    )

-- the same import in a state with the book after it
again-there :
    (state : State) (format : Format) (text : List ℕ) (given : Option ℕ) (statements : List Statement)
    (added : Additions) (next version : ℕ) → said state.book.commodities text format ≡ Ok statements
    → AllKept ((given_rules state.book format given ++ file_rules state.book given statements)
    ++ room_rules state.book added) → HasFile (book_with state.book added) format text given
    → outcome (record { book = book_with state.book added; next = next; version = version }) (Import format text given)
    ≡ Done (record { book = book_with state.book added; next = next; version = version })
    (answer.Import [] [] (lines_in state.book format text given))
again-there state format text given statements added next version says kept there =
    let after : State = record { book = book_with state.book added; next = next; version = version } in
    let asked = given_rules state.book format given in
    let rules = asked ++ file_rules state.book given statements in
    let seen = lines_in state.book format text given in
    let room = room_rules after.book (only_seen seen next) in
    let none = none_broken (rules ++ room)
    (kept_both rules room (kept_front rules (room_rules state.book added) kept)
    (room-again state.book added next seen (kept_back rules (room_rules state.book added) kept))) in
    ap (import_said after asked given) says
    ∙ ap (import_of after rules) (nothing-added after format text given statements says there)
    ∙ ap (λ rule. unless_broken rule (Done after (answer.Import [] [] seen))) none

-- The same import right after one that is done leaves the state. Its answer has no statement and no line, and all lines
-- of the file are seen.
pub import-again :
    (state : State) (format : Format) (text : List ℕ) (given : Option ℕ) (new : State) (answered : Answer)
    → outcome state (Import format text given) ≡ Done new answered
    → outcome new (Import format text given)
    ≡ Done new (answer.Import [] [] (lines_in state.book format text given))
import-again state format text given new answered e =
    let is = is-imported state format text given new answered e in
    let there = import-there state format text given new answered e in
    let whole : record {
      book = book_with state.book (added_by state given is.statements);
      next = new.next;
      version = new.version;
    } ≡ new = (λ i. record { book = sym is.added.book i; next = new.next; version = new.version }) in
    subst (λ (s : State). outcome s (Import format text given)
    ≡ Done s (answer.Import [] [] (lines_in state.book format text given))) whole
    (again-there state format text given is.statements (added_by state given is.statements) new.next new.version
    is.says is.added.kept (subst (λ (b : Book). HasFile b format text given) is.added.book there))

-- ---- two imports in either order

or_crossed : (a b c : Bool) → ((a || b) || c) ≡ ((a || c) || b)
or_crossed true b c = refl
or_crossed false true true = refl
or_crossed false true false = refl
or_crossed false false true = refl
or_crossed false false false = refl

-- An import as it is asked.
pub record Asked : Type 0 where
  pub format : Format
  pub text : List ℕ
  pub given : Option ℕ

-- An import that is done in a state and one that is done after it lead to this state.
pub record AreDone (state : State) (one other : Asked) (last : State) : Type 0 where
  pub middle : State
  pub first : Answer
  pub second : Answer
  pub is_first : outcome state (Import one.format one.text one.given) ≡ Done middle first
  pub is_second : outcome middle (Import other.format other.text other.given) ≡ Done last second

both-keys :
    (state last : State) (one other : Asked) (key : LineKey) → AreDone state one other last
    → has_key key last.book.lines
    ≡ ((has_key key state.book.lines || is_among key (keys_in (file_of state.book one.format one.text one.given)))
    || is_among key (keys_in (file_of state.book other.format other.text other.given)))
both-keys state last one other key done =
    import-keys done.middle other.format other.text other.given last done.second key done.is_second
    ∙ ap (λ file. has_key key done.middle.book.lines || is_among key (keys_in file))
    (import-frames state one.format one.text one.given done.middle done.first done.is_first other.format other.text
    other.given)
    ∙ ap (λ b. b || is_among key (keys_in (file_of state.book other.format other.text other.given)))
    (import-keys state one.format one.text one.given done.middle done.first key done.is_first)

both-statements :
    (state last : State) (one other : Asked) (held : Held) → AreDone state one other last
    → has_statement held last.book.statements
    ≡ ((has_statement held state.book.statements || is_in_file held (file_of state.book one.format one.text one.given))
    || is_in_file held (file_of state.book other.format other.text other.given))
both-statements state last one other held done =
    import-statements done.middle other.format other.text other.given last done.second held done.is_second
    ∙ ap (λ file. has_statement held done.middle.book.statements || is_in_file held file)
    (import-frames state one.format one.text one.given done.middle done.first done.is_first other.format other.text
    other.given)
    ∙ ap (λ b. b || is_in_file held (file_of state.book other.format other.text other.given))
    (import-statements state one.format one.text one.given done.middle done.first held done.is_first)

-- Two imports that are done in either order leave the same keys of lines.
pub import-either-keys :
    (state one_last other_last : State) (one other : Asked) → AreDone state one other one_last
    → AreDone state other one other_last → SameKeys one_last.book other_last.book
import-either-keys state one_last other_last one other done turned = λ key.
    both-keys state one_last one other key done
    ∙ or_crossed (has_key key state.book.lines) _ _
    ∙ sym (both-keys state other_last other one key turned)

-- Two imports that are done in either order leave the same statements.
pub import-either-statements :
    (state one_last other_last : State) (one other : Asked) → AreDone state one other one_last
    → AreDone state other one other_last → SameStatements one_last.book other_last.book
import-either-statements state one_last other_last one other done turned = λ held.
    both-statements state one_last one other held done
    ∙ or_crossed (has_statement held state.book.statements) _ _
    ∙ sym (both-statements state other_last other one held turned)

-- ---- as a step says it

unchanged-where : (unchanged : Bool) (version : ℕ) → version_after unchanged version ≡ version → unchanged ≡ true
unchanged-where true version same = refl
unchanged-where false version same = absurd (omega (arith, same))

-- An import whose file is all in the book is a step that changes nothing.
pub step-leaves :
    (state : State) (format : Format) (text : List ℕ) (given : Option ℕ) (result : Result Step Refusal)
    → StepsTo state (outcome state (Import format text given)) result → HasFile state.book format text given
    → IfOk result (λ step. is_nothing step.edit ≡ true)
step-leaves state format text given (Ok step) is there =
    let whole = whole_of (outcome state (Import format text given)) (after state step) step.answer is.leads in
    let same = (import-leaves state format text given (after state step) whole.0 whole.1 there).0 in
    unchanged-where (is_nothing step.edit) state.version (ap (λ (s : State). s.version) same)
step-leaves state format text given (Err refusal) is there = tt

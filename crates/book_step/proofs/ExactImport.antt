-- The edit of an import is exact for a sound book, and leads to the book with what is added.
use Rattle.std.proofs.Common.{◌≡◌, ◌≢◌, ℕ, ◌-◌, ◌+◌, ◌^◌, ◌<◌, nat_lt, max, min, Bool, false, All, List, []}
use Rattle.std.proofs.Common.{◌∷◌, ◌++◌, flat_map, map, Option, Some, None, option_map, refl, sym, ap, subst}
use Rattle.std.proofs.Common.{◌∙◌, append_assoc, arith}
use Rattle.std.proofs.lemmas.Bool.Decides.{nat_tests}
use Rattle.std.proofs.lemmas.List.{append-nil}
use Rattle.book_commodity.specs.Rules.{broken_where}
use Rattle.book_commodity.specs.Table.{value_of, with_entry}
use Rattle.book_commodity.proofs.DrawnLemmas.{drawn_before, drawn_free, with_last}
use Rattle.book_statement.specs.declared.held.Held.{Held}
use Rattle.book_statement.specs.declared.line.Line.{Line}
use Rattle.book_undo.specs.Book.{Book}
use Rattle.book_undo.specs.Edit.{Key, Leaf, OfPut, depth, deepest, edited, edited_all, is_nothing, key_at, leaves}
use Rattle.book_undo.specs.EditRules.{first_missing, first_unordered, out_of_order}
use Rattle.book_undo.specs.Exact.{IsExact}
use Rattle.book_undo.specs.declared.edit.Edit.{Edit}
use Rattle.book_undo.specs.declared.rule.EditRule.{EditRule}
use Rattle.book_undo.specs.declared.rule.EditRule.TheVariants.{OutOfOrder, TooDeep}
use Rattle.book_undo.specs.declared.thing.Thing.TheVariants as thing
use Rattle.book_undo.proofs.ExactLaws.{AllChange, exact_of, something_of_some}
use Rattle.book_undo.proofs.PartLaws.{depth_of_all, edited_of_all, leaves_of_all}
use Rattle.book_undo.proofs.ThreeRules.{three_none}
use Rattle.book_sound.proofs.SoundFacts.{tables_rise}
use Rattle.book_import.specs.Edits.{edits_of, line_edits, statement_edits}
use Rattle.book_import.specs.Laws as laws
use Rattle.book_import.specs.Laws.{HasDrawn}
use Rattle.book_import.specs.declared.added.Additions.{Additions}
use Rattle.book_step.specs.Importing.{adds_nothing, book_with, import_edit, whole_edit}
use Rattle.book_step.specs.ScheduleRuns.{with_entries}
use Rattle.book_step.specs.Soundness.{IsSound}
use Rattle.book_step.specs.State.{State}
use Rattle.book_step.proofs.SoundImport.{below-next}

-- ---- one edit alone, or the list of all

pub edited_whole : (edits : List Edit) (book : Book) → edited (whole_edit edits) book ≡ edited_all edits book
edited_whole [] book = edited_of_all [] book
edited_whole (edit ∷ []) book = refl
edited_whole (edit ∷ next ∷ more) book = edited_of_all (edit ∷ next ∷ more) book

pub leaves_whole : (edits : List Edit) → leaves (whole_edit edits) ≡ flat_map leaves edits
leaves_whole [] = leaves_of_all []
leaves_whole (edit ∷ []) = sym (append-nil (leaves edit))
leaves_whole (edit ∷ next ∷ more) = leaves_of_all (edit ∷ next ∷ more)

pub shallow_whole : (edits : List Edit) → deepest edits ≡ 0 → nat_lt 8 (depth (whole_edit edits)) ≡ false
shallow_whole [] flat = let deep = depth_of_all [] in grind (arith, nat_tests, deep)
shallow_whole (edit ∷ []) flat = grind (arith, nat_tests, flat)
shallow_whole (edit ∷ next ∷ more) flat =
    let deep = depth_of_all (edit ∷ next ∷ more) in grind (arith, nat_tests, deep, flat)

pub something_whole :
    (edit : Edit) (more : List Edit) → is_nothing edit ≡ false → is_nothing (whole_edit (edit ∷ more)) ≡ false
something_whole edit [] something = something
something_whole edit (next ∷ more) something = something_of_some (edit ∷ next ∷ more) (λ none. absurd cc)

-- ---- the book that the edits lead to

edited_behind :
    (xs ys : List Edit) (book : Book) → edited_all (xs ++ ys) book ≡ edited_all ys (edited_all xs book)
edited_behind [] ys book = refl
edited_behind (x ∷ xs) ys book = edited_behind xs ys (edited x book)

edited_statements :
    (added : List (ℕ × Held)) (book : Book)
    → edited_all (statement_edits added) book ≡ record book { statements = with_entries added book.statements }
edited_statements [] book = refl
edited_statements (put ∷ more) book =
    edited_statements more (record book { statements = with_entry put.0 put.1 book.statements })

pub edited_lines :
    (added : List (ℕ × Line)) (book : Book)
    → edited_all (line_edits added) book ≡ record book { lines = with_entries added book.lines }
edited_lines [] book = refl
edited_lines (put ∷ more) book =
    edited_lines more (record book { lines = with_entry put.0 put.1 book.lines })

-- what is put under drawn numbers stands behind all
entries_behind :
    {T : Type 0} (from next : ℕ) (added es : List (ℕ × T)) → All (λ (e : ℕ × T). e.0 < from) es
    → laws.AreDrawn from next added → with_entries added es ≡ es ++ added
entries_behind from next [] es below drawn = sym (append-nil es)
entries_behind {T} from next (put ∷ more) es below drawn =
    let here = drawn_before from put.0 es drawn.0 below in
    ap (λ (l : List (ℕ × T)). with_entries more l) (with_last put.0 put.1 es here)
    ∙ entries_behind (put.0 + 1) next more (es ++ put ∷ []) (below-next put.0 put.1 es here) drawn.1
    ∙ append_assoc es (put ∷ []) more

pub import_leads :
    (state : State) (added : Additions) → IsSound state → HasDrawn state.next added
    → edited (import_edit added) state.book ≡ book_with state.book added
import_leads state added is drawn =
    let book = state.book in
    edited_whole (edits_of added) book
    ∙ edited_behind (statement_edits added.statements) (line_edits added.lines) book
    ∙ ap (edited_all (line_edits added.lines)) (edited_statements added.statements book)
    ∙ edited_lines added.lines (record book { statements = with_entries added.statements book.statements })
    ∙ ap (λ (es : List (ℕ × Held)). record book { statements = es; lines = with_entries added.lines book.lines })
    (entries_behind state.next added.next added.statements book.statements is.drawn.statements drawn.0)
    ∙ ap (λ (es : List (ℕ × Line)). record book { statements = book.statements ++ added.statements; lines = es })
    (entries_behind state.next added.next added.lines book.lines is.drawn.lines drawn.1)

-- ---- the leaves

abbrev statement_leaves : List (ℕ × Held) → List Leaf
statement_leaves added = map (λ (e : ℕ × Held). OfPut e.0 (thing.Held e.1)) added

abbrev pub line_leaves : List (ℕ × Line) → List Leaf
line_leaves added = map (λ (e : ℕ × Line). OfPut e.0 (thing.Line e.1)) added

pub leaves_of_lines : (added : List (ℕ × Line)) → flat_map leaves (line_edits added) ≡ line_leaves added
leaves_of_lines [] = refl
leaves_of_lines (put ∷ more) =
    ap (λ (ls : List Leaf). OfPut put.0 (thing.Line put.1) ∷ ls) (leaves_of_lines more)

leaves_of_both :
    (statements : List (ℕ × Held)) (lines : List (ℕ × Line))
    → flat_map leaves (statement_edits statements ++ line_edits lines)
    ≡ statement_leaves statements ++ line_leaves lines
leaves_of_both [] lines = leaves_of_lines lines
leaves_of_both (put ∷ more) lines =
    ap (λ (ls : List Leaf). OfPut put.0 (thing.Held put.1) ∷ ls) (leaves_of_both more lines)

pub deepest_lines : (added : List (ℕ × Line)) → deepest (line_edits added) ≡ 0
deepest_lines [] = refl
deepest_lines (put ∷ more) = ap (λ (d : ℕ). max 0 d) (deepest_lines more)

deepest_both :
    (statements : List (ℕ × Held)) (lines : List (ℕ × Line))
    → deepest (statement_edits statements ++ line_edits lines) ≡ 0
deepest_both [] lines = deepest_lines lines
deepest_both (put ∷ more) lines = ap (λ (d : ℕ). max 0 d) (deepest_both more lines)

pub missing_lines : (book : Book) (added : List (ℕ × Line)) → first_missing book (line_leaves added) ≡ None
missing_lines book [] = refl
missing_lines book (put ∷ more) = missing_lines book more

missing_both :
    (book : Book) (statements : List (ℕ × Held)) (lines : List (ℕ × Line))
    → first_missing book (statement_leaves statements ++ line_leaves lines) ≡ None
missing_both book [] lines = missing_lines book lines
missing_both book (put ∷ more) lines = missing_both book more lines

-- ---- their keys rise: first those of the statements, then those of the lines

order_of_lines :
    (from next : ℕ) (before : Key) (added : List (ℕ × Line)) → before.kind ≡ 8 → before.number < from
    → laws.AreDrawn from next added → first_unordered before (line_leaves added) ≡ None
order_of_lines from next before [] here less drawn = refl
order_of_lines from next before (put ∷ more) here less drawn =
    let rest = order_of_lines (put.0 + 1) next (key_at 8 put.0) more refl (omega arith) drawn.1 in
    let le = drawn.0 in
    let above : before.number < put.0 = omega (arith, le, less) in
    grind (arith, nat_tests, here, above, rest)

order_behind :
    (from next : ℕ) (before : Key) (added : List (ℕ × Line)) → before.kind < 8 → laws.AreDrawn from next added
    → first_unordered before (line_leaves added) ≡ None
order_behind from next before [] less drawn = refl
order_behind from next before (put ∷ more) less drawn =
    let rest = order_of_lines (put.0 + 1) next (key_at 8 put.0) more refl (omega arith) drawn.1 in
    grind (arith, nat_tests, less, rest)

order_of_both :
    (from start next : ℕ) (before : Key) (statements : List (ℕ × Held)) (lines : List (ℕ × Line))
    → before.kind ≡ 7 → before.number < from → laws.AreDrawn from next statements → laws.AreDrawn start next lines
    → first_unordered before (statement_leaves statements ++ line_leaves lines) ≡ None
order_of_both from start next before [] lines here less drawn behind =
    order_behind start next before lines (omega (arith, here)) behind
order_of_both from start next before (put ∷ more) lines here less drawn behind =
    let rest = order_of_both (put.0 + 1) start next (key_at 7 put.0) more lines refl (omega arith) drawn.1 behind in
    let le = drawn.0 in
    let above : before.number < put.0 = omega (arith, le, less) in
    grind (arith, nat_tests, here, above, rest)

order_all :
    (from next : ℕ) (statements : List (ℕ × Held)) (lines : List (ℕ × Line)) → laws.AreDrawn from next statements
    → laws.AreDrawn from next lines
    → first_unordered (key_at 0 0) (statement_leaves statements ++ line_leaves lines) ≡ None
order_all from next [] lines drawn behind = order_behind from next (key_at 0 0) lines (omega arith) behind
order_all from next (put ∷ more) lines drawn behind =
    let rest = order_of_both (put.0 + 1) from next (key_at 7 put.0) more lines refl (omega arith) drawn.1 behind in
    grind (arith, nat_tests, rest)

-- ---- each changes what stands at its key, where nothing stood

none_some : {X Y : Type 0} (of : X → Y) (found : Option X) (y : Y) → found ≡ None → option_map of found ≢ Some y
none_some of None y none same = absurd cc
none_some of (Some x) y none same = absurd cc

lines_change :
    (book : Book) (from next : ℕ) (added : List (ℕ × Line)) → All (λ (e : ℕ × Line). e.0 < from) book.lines
    → laws.AreDrawn from next added → AllChange book (line_leaves added)
lines_change book from next [] below drawn = tt
lines_change book from next (put ∷ more) below drawn =
    let here = drawn_before from put.0 book.lines drawn.0 below in (
      none_some (λ (l : Line). thing.Line l) (value_of put.0 book.lines) (thing.Line put.1)
          (drawn_free put.0 book.lines here),
      lines_change book (put.0 + 1) next more (drawn_before put.0 (put.0 + 1) book.lines (omega arith) here) drawn.1,
    )

both_change :
    (book : Book) (from start next : ℕ) (statements : List (ℕ × Held)) (lines : List (ℕ × Line))
    → All (λ (e : ℕ × Held). e.0 < from) book.statements → All (λ (e : ℕ × Line). e.0 < start) book.lines
    → laws.AreDrawn from next statements → laws.AreDrawn start next lines
    → AllChange book (statement_leaves statements ++ line_leaves lines)
both_change book from start next [] lines below below_lines drawn behind =
    lines_change book start next lines below_lines behind
both_change book from start next (put ∷ more) lines below below_lines drawn behind =
    let here = drawn_before from put.0 book.statements drawn.0 below in (
      none_some (λ (h : Held). thing.Held h) (value_of put.0 book.statements) (thing.Held put.1)
          (drawn_free put.0 book.statements here),
      both_change book (put.0 + 1) start next more lines
          (drawn_before put.0 (put.0 + 1) book.statements (omega arith) here) below_lines drawn.1 behind,
    )

-- ---- the edit

pub import_exact :
    (state : State) (added : Additions) → IsSound state → HasDrawn state.next added
    → IsExact state.book (import_edit added)
import_exact state added is drawn =
    let book = state.book in
    let edits = edits_of added in
    let whole = whole_edit edits in
    let all : leaves whole ≡ statement_leaves added.statements ++ line_leaves added.lines =
    leaves_whole edits ∙ leaves_of_both added.statements added.lines in
    let named : Option ℕ → Option EditRule = option_map (λ place. OutOfOrder (min place (2 ^ 64 - 1))) in
    let few = shallow_whole edits (deepest_both added.statements added.lines) in
    let allowed = three_none (first_missing book (leaves whole)) (out_of_order (leaves whole))
    (broken_where (nat_lt 8 (depth whole)) TooDeep)
    (ap (first_missing book) all ∙ missing_both book added.statements added.lines)
    (ap out_of_order all
    ∙ ap named (order_all state.next added.next added.statements added.lines drawn.0 drawn.1))
    (ap (λ (b : Bool). broken_where b TooDeep) few) in
    exact_of book whole (tables_rise book is.book) allowed
    (subst (λ (ls : List Leaf). AllChange book ls) (sym all)
    (both_change book state.next state.next added.next added.statements added.lines is.drawn.statements is.drawn.lines
    drawn.0 drawn.1))

-- where something is added the edit has a leaf
pub import_something : (added : Additions) → adds_nothing added ≡ false → is_nothing (import_edit added) ≡ false
import_something added some = go added.statements added.lines some
  where
    go : (statements : List (ℕ × Held)) (lines : List (ℕ × Line))
        → adds_nothing (record { statements = statements; lines = lines; seen = 0; next = 0 }) ≡ false
        → is_nothing (whole_edit (statement_edits statements ++ line_edits lines)) ≡ false
    go [] [] some = absurd cc
    go [] (put ∷ more) some =
        something_whole _ (line_edits more) refl
    go (put ∷ more) lines some =
        something_whole _ (statement_edits more ++ line_edits lines) refl

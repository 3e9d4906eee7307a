-- The edit that matches lines with the splits that they take is exact for a sound book, and leads to the book in which
-- they are matched.
use Rattle.std.proofs.Common.{◌≡◌, ◌≢◌, ℕ, ◌<◌, ◌==◌, Bool, true, false, if◌then◌else◌, List, [], ◌∷◌}
use Rattle.std.proofs.Common.{◌++◌, Option, Some, None, refl, sym, ap, ◌∙◌, arith}
use Rattle.std.proofs.lemmas.Bool.{and_parts}
use Rattle.std.proofs.lemmas.Bool.Decides.{nat_tests}
use Rattle.book_commodity.specs.Table.{AllAbove, Rises, value_of, with_entry}
use Rattle.book_splits.specs.TransactionRules.{is_new}
use Rattle.book_splits.specs.declared.split.Mark.{Mark}
use Rattle.book_splits.specs.declared.split.Mark.TheVariants.{Cleared}
use Rattle.book_splits.specs.declared.split.Split.{Split}
use Rattle.book_splits.specs.declared.transaction.Txn.{Txn}
use Rattle.book_statement.specs.declared.line.Line.{Line}
use Rattle.book_statement.specs.declared.line_state.LineState.TheVariants.{Open}
use Rattle.book_undo.specs.Book.{Book, IsRising}
use Rattle.book_undo.specs.Edit.{Key, edited, is_nothing, key_at}
use Rattle.book_undo.specs.EditRules.{first_unordered}
use Rattle.book_undo.specs.Exact.{IsExact}
use Rattle.book_undo.proofs.ExactLaws.{AllChange}
use Rattle.book_sound.proofs.SplitFrames.{above_there}
use Rattle.book_import.specs.Edits.{line_edits}
use Rattle.book_match.specs.declared.views.Matched.{Matched}
use Rattle.book_step.specs.AutoMatching.{becomes_cleared, book_paired, cleared, clearing, clears, has_pair, line_paired}
use Rattle.book_step.specs.AutoMatching.{lines_newly_paired, lines_paired, newly_paired, pairing_edit, split_of}
use Rattle.book_step.specs.Importing.{whole_edit}
use Rattle.book_step.specs.LineAdding.{matched_with}
use Rattle.book_step.specs.Remarking.{ChangesMarksAlone, ChangesWhere, all_remarked, newly_remarked}
use Rattle.book_step.specs.ScheduleRuns.{transaction_edits, with_entries}
use Rattle.book_step.proofs.ExactImport.{deepest_lines, edited_lines, leaves_of_lines, line_leaves, missing_lines}
use Rattle.book_step.proofs.ExactImport.{something_whole}
use Rattle.book_step.proofs.ExactLines.{matched_differs}
use Rattle.book_step.proofs.RemarkTable.{all_remarked-edits, all_remarked-exact}

-- ---- the splits that become cleared

not_new : (mark : Mark) → mark ≡ Cleared → is_new mark ≡ true → ⊥
not_new mark is new = absurd (let none = ap is_new is in cc)

pub clearing_alone : (taken : ℕ → Bool) → ChangesMarksAlone (clearing taken)
clearing_alone taken = record {
  each = λ day split.
      let rule : Bool → Split = λ b. if b then cleared split else split in
      elim (becomes_cleared taken split) as
      (λ (b : Bool). rule b ≡ record split { mark = (rule b).mark; recon = (rule b).recon }) [
        | true ↦ refl
        | false ↦ refl
      ];
}

pub clearing_where : (taken : ℕ → Bool) → ChangesWhere (clears taken) (clearing taken)
clearing_where taken = record {
  stays = λ day split other. ap (λ (b : Bool). if b then cleared split else split) other;
  changes = λ day split new same.
      let is = sym (ap (λ (b : Bool). if b then cleared split else split) new) ∙ same in
      let parts = and_parts (is_new split.mark) (taken split.id) new in
      not_new split.mark (sym (ap (λ (s : Split). s.mark) is)) parts.0;
}

-- ---- the lines with those put that take a split

entries_past :
    (puts : List (ℕ × Line)) (e : ℕ × Line) (lines : List (ℕ × Line)) → AllAbove e.0 puts
    → with_entries puts (e ∷ lines) ≡ e ∷ with_entries puts lines
entries_past [] e lines above = refl
entries_past (put ∷ more) e lines above =
    let past : with_entry put.0 put.1 (e ∷ lines) ≡ e ∷ with_entry put.0 put.1 lines = with_past put.0 put.1 above.0 in
    ap (with_entries more) past ∙ entries_past more e (with_entry put.0 put.1 lines) above.1
  where
    with_past : (n : ℕ) (x : Line) → e.0 < n → with_entry n x (e ∷ lines) ≡ e ∷ with_entry n x lines
    with_past n x less = grind (arith, nat_tests, less)

with_here :
    (x : Line) (e : ℕ × Line) (lines : List (ℕ × Line)) → with_entry e.0 x (e ∷ lines) ≡ (e.0, x) ∷ lines
with_here x e lines = grind (arith, nat_tests)

above_paired :
    (takes : ℕ → Option ℕ) (n : ℕ) (lines : List (ℕ × Line)) → AllAbove n lines
    → AllAbove n (lines_newly_paired takes lines)
above_paired takes n [] above = tt
above_paired takes n (e ∷ lines) above =
    let rest = above_paired takes n lines above.1 in
    elim (takes e.0) as (λ (o : Option ℕ). AllAbove n (newly_paired e o ++ lines_newly_paired takes lines)) [
      | None ↦ rest
      | Some s ↦ (above.0, rest)
    ]

rises_paired :
    (takes : ℕ → Option ℕ) (lines : List (ℕ × Line)) → Rises lines → Rises (lines_newly_paired takes lines)
rises_paired takes [] r = tt
rises_paired takes (e ∷ lines) r =
    let rest = rises_paired takes lines r.1 in
    elim (takes e.0) as (λ (o : Option ℕ). Rises (newly_paired e o ++ lines_newly_paired takes lines)) [
      | None ↦ rest
      | Some s ↦ (above_paired takes e.0 lines r.0, rest)
    ]

with_paired :
    (takes : ℕ → Option ℕ) (lines : List (ℕ × Line)) → Rises lines
    → with_entries (lines_newly_paired takes lines) lines ≡ lines_paired takes lines
with_paired takes [] r = refl
with_paired takes (e ∷ lines) r =
    let rows = lines_newly_paired takes lines in
    let above = above_paired takes e.0 lines r.0 in
    let rest = with_paired takes lines r.1 in
    let Chosen : Option ℕ → Type 0 = λ o.
    with_entries (newly_paired e o ++ rows) (e ∷ lines) ≡ (e.0, line_paired o e.1) ∷ lines_paired takes lines in
    elim (takes e.0) as Chosen [
      | None ↦ entries_past rows e lines above ∙ ap (λ (more : List (ℕ × Line)). e ∷ more) rest
      | Some s ↦ ap (with_entries rows) (with_here (matched_with s e.1) e lines)
          ∙ entries_past rows (e.0, matched_with s e.1) lines above
          ∙ ap (λ (more : List (ℕ × Line)). (e.0, matched_with s e.1) ∷ more) rest
    ]

-- The edit leads to the book in which all pairs are matched.
pub pairing_leads :
    (pairs : List Matched) (book : Book) → IsRising book
    → edited (pairing_edit pairs book) book ≡ book_paired pairs book
pairing_leads pairs book r =
    let taken = has_pair pairs in
    let rows = lines_newly_paired (split_of pairs) book.lines in
    let later : Book = record book { transactions = all_remarked (clearing taken) book.transactions } in
    all_remarked-edits (clears taken) (clearing taken) (line_edits rows) book (clearing_where taken)
    r.transactions
    ∙ edited_lines rows later
    ∙ ap (λ (lines : List (ℕ × Line)). record later { lines = lines }) (with_paired (split_of pairs) book.lines r.lines)

-- ---- it is exact

order_of_lines :
    (before : Key) (puts : List (ℕ × Line)) → before.kind ≡ 8 → AllAbove before.number puts → Rises puts
    → first_unordered before (line_leaves puts) ≡ None
order_of_lines before [] here above r = refl
order_of_lines before (put ∷ more) here above r =
    let rest = order_of_lines (key_at 8 put.0) more refl r.0 r.1 in
    grind (arith, nat_tests, here, above.0, rest)

order_behind :
    (before : Key) (puts : List (ℕ × Line)) → before.kind < 5 → Rises puts
    → first_unordered before (line_leaves puts) ≡ None
order_behind before [] less r = refl
order_behind before (put ∷ more) less r =
    let rest = order_of_lines (key_at 8 put.0) more refl r.0 r.1 in grind (arith, nat_tests, less, rest)

-- The lines that take a split are open.
abbrev pub TakeOpen : (ℕ → Option ℕ) → List (ℕ × Line) → Type 0
TakeOpen takes lines = (n split : ℕ) (line : Line) → value_of n lines ≡ Some line → takes n ≡ Some split
    → line.state ≡ Open

lines_change :
    (takes : ℕ → Option ℕ) (book : Book) (lines : List (ℕ × Line)) → TakeOpen takes book.lines → Rises lines
    → ((k : ℕ) (x : Line) → value_of k lines ≡ Some x → value_of k book.lines ≡ Some x)
    → AllChange book (line_leaves (lines_newly_paired takes lines))
lines_change takes book [] open_ r there = tt
lines_change takes book (e ∷ lines) open_ r there =
    let first : value_of e.0 (e ∷ lines) ≡ Some e.1 = grind (arith, nat_tests) in
    let rest = lines_change takes book lines open_ r.1
    (λ k x found.
    let past = above_there e.0 k x lines r.0 found in
    let later : value_of k (e ∷ lines) ≡ Some x = grind (arith, nat_tests, past, found) in
    there k x later) in
    let Chosen : Option ℕ → Type 0 = λ o. takes e.0 ≡ o
    → AllChange book (line_leaves (newly_paired e o ++ lines_newly_paired takes lines)) in
    elim (takes e.0) as Chosen [
      | None ↦ λ none. rest
      | Some s ↦ λ some. (
        matched_differs book e.0 s e.1 (there e.0 e.1 first) (open_ e.0 s e.1 (there e.0 e.1 first) some),
        rest,
      )
    ] refl

pub pairing_exact :
    (pairs : List Matched) (book : Book) → IsRising book → TakeOpen (split_of pairs) book.lines
    → IsExact book (pairing_edit pairs book)
pairing_exact pairs book r open_ =
    let taken = has_pair pairs in
    let rows = lines_newly_paired (split_of pairs) book.lines in
    all_remarked-exact (clears taken) (clearing taken) (line_edits rows) (line_leaves rows) book
    (clearing_where taken) r
    (record {
      are = leaves_of_lines rows;
      flat = deepest_lines rows;
      there = missing_lines book rows;
      order = λ before less. order_behind before rows less (rises_paired (split_of pairs) book.lines r.lines);
      change = lines_change (split_of pairs) book book.lines open_ r.lines (λ k x found. found);
    })

-- ---- it changes something where a line takes a split

some_paired :
    (takes : ℕ → Option ℕ) (n split : ℕ) (line : Line) (lines : List (ℕ × Line)) → value_of n lines ≡ Some line
    → takes n ≡ Some split → lines_newly_paired takes lines ≢ []
some_paired takes n split line [] there some = absurd cc
some_paired takes n split line (e ∷ lines) there some =
    let rows = lines_newly_paired takes lines in
    let Here : Bool → Type 0 = λ b. (n == e.0) ≡ b → (if b then Some e.1 else value_of n lines) ≡ Some line
    → newly_paired e (takes e.0) ++ rows ≢ [] in
    elim (n == e.0) as Here [
      | true ↦ λ same found none.
          let here : n ≡ e.0 = grind (arith, nat_tests, same) in
          let first = ap takes (sym here) ∙ some in
          absurd (let rows_are = sym (ap (λ (o : Option ℕ). newly_paired e o ++ rows) first) ∙ none in cc)
      | false ↦ λ other rest none.
          some_paired takes n split line lines rest some (back_empty (newly_paired e (takes e.0)) rows none)
    ] refl there
  where
    back_empty : (xs ys : List (ℕ × Line)) → xs ++ ys ≡ [] → ys ≡ []
    back_empty [] ys none = none
    back_empty (x ∷ xs) ys none = absurd cc

something_put :
    (made : List (ℕ × Txn)) (rows : List (ℕ × Line)) → rows ≢ []
    → is_nothing (whole_edit (transaction_edits made ++ line_edits rows)) ≡ false
something_put [] [] some = absurd (some refl)
something_put [] (put ∷ more) some = something_whole _ (line_edits more) refl
something_put (put ∷ more) rows some = something_whole _ (transaction_edits more ++ line_edits rows) refl

pub pairing_something :
    (pairs : List Matched) (book : Book) (n split : ℕ) (line : Line) → value_of n book.lines ≡ Some line
    → split_of pairs n ≡ Some split → is_nothing (pairing_edit pairs book) ≡ false
pairing_something pairs book n split line there some =
    let taken = has_pair pairs in
    something_put (newly_remarked (clears taken) (clearing taken) book.transactions)
    (lines_newly_paired (split_of pairs) book.lines)
    (some_paired (split_of pairs) n split line book.lines there some)

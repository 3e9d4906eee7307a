-- The edits that dismiss lines lead to the book in which these are dismissed.
use Rattle.std.proofs.Common.{◌≡◌, ℕ, ◌<◌, Bool, true, false, if◌then◌else◌, List, [], ◌∷◌, map, refl, ap}
use Rattle.std.proofs.Common.{◌∙◌, arith}
use Rattle.std.proofs.lemmas.Bool.Decides.{nat_tests}
use Rattle.book_commodity.specs.Table.{AllAbove, Rises, with_entry}
use Rattle.book_splits.specs.declared.split.Split.{Split}
use Rattle.book_statement.specs.declared.line.Line.{Line}
use Rattle.book_undo.specs.Book.{Book}
use Rattle.book_undo.specs.Edit.{edited_all}
use Rattle.book_undo.specs.declared.edit.Edit.{Put}
use Rattle.book_undo.specs.declared.thing.Thing.TheVariants as thing
use Rattle.book_sound.specs.Dismissal.{dismissed, dismissed_if, dismissed_where, dismissing, lines_after}
use Rattle.book_sound.specs.Dismissal.{loses_split, newly_dismissed}

-- The lines with some put, one after another.
abbrev with_lines : List (ℕ × Line) → List (ℕ × Line) → List (ℕ × Line)
with_lines [] lines = lines
with_lines (put ∷ more) lines = with_lines more (with_entry put.0 put.1 lines)

-- that is what the edits come to
edited_lines :
    (puts : List (ℕ × Line)) (book : Book)
    → edited_all (map (λ (e : ℕ × Line). Put e.0 (thing.Line e.1)) puts) book
    ≡ record book { lines = with_lines puts book.lines }
edited_lines [] book = refl
edited_lines (put ∷ more) book = edited_lines more (record book { lines = with_entry put.0 put.1 book.lines })

with_past :
    (n : ℕ) (x : Line) (e : ℕ × Line) (lines : List (ℕ × Line)) → e.0 < n
    → with_entry n x (e ∷ lines) ≡ e ∷ with_entry n x lines
with_past n x e lines past = grind (arith, nat_tests, past)

with_here :
    (x : Line) (e : ℕ × Line) (lines : List (ℕ × Line)) → with_entry e.0 x (e ∷ lines) ≡ (e.0, x) ∷ lines
with_here x e lines = grind (arith, nat_tests)

-- what is put behind the first leaves it
lines_past :
    (puts : List (ℕ × Line)) (e : ℕ × Line) (lines : List (ℕ × Line)) → AllAbove e.0 puts
    → with_lines puts (e ∷ lines) ≡ e ∷ with_lines puts lines
lines_past [] e lines above = refl
lines_past (put ∷ more) e lines above =
    ap (with_lines more) (with_past put.0 put.1 e lines above.0)
    ∙ lines_past more e (with_entry put.0 put.1 lines) above.1

pub above_dismissed :
    (test : Line → Bool) (n : ℕ) (lines : List (ℕ × Line)) → AllAbove n lines → AllAbove n (newly_dismissed test lines)
above_dismissed test n [] above = tt
above_dismissed test n (e ∷ lines) above =
    let rest = above_dismissed test n lines above.1 in
    elim (test e.1) as
    (λ (b : Bool). AllAbove n (if b then (e.0, dismissed e.1) ∷ newly_dismissed test lines
    else newly_dismissed test lines)) [ true ↦ (above.0, rest) | false ↦ rest ]

with_dismissed :
    (test : Line → Bool) (lines : List (ℕ × Line)) → Rises lines
    → with_lines (newly_dismissed test lines) lines ≡ dismissed_where test lines
with_dismissed test [] r = refl
with_dismissed test (e ∷ lines) r =
    let above = above_dismissed test e.0 lines r.0 in
    let rest = with_dismissed test lines r.1 in
    let Chosen : Bool → Type 0 = λ b.
    with_lines (if b then (e.0, dismissed e.1) ∷ newly_dismissed test lines else newly_dismissed test lines) (e ∷ lines)
    ≡ (e.0, dismissed_if b e.1) ∷ dismissed_where test lines in
    elim (test e.1) as Chosen [
      | true ↦ ap (with_lines (newly_dismissed test lines)) (with_here (dismissed e.1) e lines)
          ∙ lines_past (newly_dismissed test lines) (e.0, dismissed e.1) lines above
          ∙ ap (λ (more : List (ℕ × Line)). (e.0, dismissed e.1) ∷ more) rest
      | false ↦ lines_past (newly_dismissed test lines) e lines above
          ∙ ap (λ (more : List (ℕ × Line)). e ∷ more) rest
    ]

-- The edits dismiss the lines that lose their splits, and change nothing else.
pub dismissing_leads :
    (old new : List Split) (book : Book) → Rises book.lines
    → edited_all (dismissing old new book.lines) book ≡ record book { lines = lines_after old new book.lines }
dismissing_leads old new book r =
    edited_lines (newly_dismissed (loses_split old new) book.lines) book
    ∙ ap (λ (lines : List (ℕ × Line)). record book { lines = lines })
    (with_dismissed (loses_split old new) book.lines r)

-- An edit of a transaction, together with those that dismiss the lines which lose their splits, is exact.
use Rattle.std.proofs.Common.{◌≡◌, ◌≢◌, ℕ, ◌-◌, ◌^◌, ◌<◌, nat_lt, max, min, Bool, true, false, List, []}
use Rattle.std.proofs.Common.{◌∷◌, ◌++◌, if◌then◌else◌, flat_map, map, Option, Some, None, option_map, refl, sym, ap}
use Rattle.std.proofs.Common.{subst, ◌∙◌, arith}
use Rattle.std.proofs.lemmas.Bool.Decides.{nat_tests}
use Rattle.book_commodity.specs.Rules.{broken_where}
use Rattle.book_commodity.specs.Table.{AllAbove, Rises, value_of}
use Rattle.book_splits.specs.declared.split.Split.{Split}
use Rattle.book_statement.specs.declared.line.Line.{Line}
use Rattle.book_statement.specs.declared.line_state.LineState.{LineState}
use Rattle.book_statement.specs.declared.line_state.LineState.TheVariants.{Open, Dismissed}
use Rattle.book_undo.specs.Book.{Book, IsRising}
use Rattle.book_undo.specs.Edit.{Key, Leaf, OfPut, depth, deepest, edited, edited_all, is_nothing, key_at, key_of}
use Rattle.book_undo.specs.Edit.{leaves}
use Rattle.book_undo.specs.Edit.{together}
use Rattle.book_undo.specs.EditRules.{first_missing, first_unordered, out_of_order}
use Rattle.book_undo.specs.Exact.{IsExact}
use Rattle.book_undo.specs.declared.edit.Edit.{Edit, Put}
use Rattle.book_undo.specs.declared.rule.EditRule.{EditRule}
use Rattle.book_undo.specs.declared.rule.EditRule.TheVariants.{OutOfOrder, TooDeep}
use Rattle.book_undo.specs.declared.thing.Thing.{Thing}
use Rattle.book_undo.specs.declared.thing.Thing.TheVariants as thing
use Rattle.book_undo.proofs.ExactLaws.{AllChange, Changes, exact_of, something_of_some}
use Rattle.book_undo.proofs.PartLaws.{depth_of_all, edited_of_all, leaves_of_all, missing-later}
use Rattle.book_undo.proofs.ThreeRules.{three_none}
use Rattle.book_sound.specs.Dismissal.{dismissed, dismissing, is_lost, loses_split, newly_dismissed}
use Rattle.book_sound.specs.LineRules.{matched_split}
use Rattle.book_sound.proofs.DismissalEdits.{above_dismissed}
use Rattle.book_sound.proofs.SplitFrames.{above_there}

-- ---- an edit and others behind it

pub edited_together :
    (edit : Edit) (more : List Edit) (book : Book)
    → edited (together edit more) book ≡ edited_all more (edited edit book)
edited_together edit [] book = refl
edited_together edit (next ∷ more) book = edited_of_all (edit ∷ next ∷ more) book

leaves_together :
    (edit : Edit) (leaf : Leaf) (more : List Edit) → leaves edit ≡ leaf ∷ []
    → leaves (together edit more) ≡ leaf ∷ flat_map leaves more
leaves_together edit leaf [] one = one
leaves_together edit leaf (next ∷ more) one =
    leaves_of_all (edit ∷ next ∷ more)
    ∙ ap (λ (ls : List Leaf). ls ++ flat_map leaves (next ∷ more)) one

shallow_together :
    (edit : Edit) (more : List Edit) → depth edit ≡ 0 → deepest more ≡ 0
    → nat_lt 8 (depth (together edit more)) ≡ false
shallow_together edit [] here behind = ap (nat_lt 8) here
shallow_together edit (next ∷ more) here behind =
    let all = depth_of_all (edit ∷ next ∷ more) in grind (arith, nat_tests, all, here, behind)

pub something_together :
    (edit : Edit) (more : List Edit) → is_nothing edit ≡ false → is_nothing (together edit more) ≡ false
something_together edit [] something = something
something_together edit (next ∷ more) something = something_of_some (edit ∷ next ∷ more) (λ none. absurd cc)

-- ---- the edits that put lines

abbrev line_puts : List (ℕ × Line) → List Edit
line_puts puts = map (λ (e : ℕ × Line). Put e.0 (thing.Line e.1)) puts

abbrev line_leaves : List (ℕ × Line) → List Leaf
line_leaves puts = map (λ (e : ℕ × Line). OfPut e.0 (thing.Line e.1)) puts

leaves_of_puts : (puts : List (ℕ × Line)) → flat_map leaves (line_puts puts) ≡ line_leaves puts
leaves_of_puts [] = refl
leaves_of_puts (put ∷ more) = ap (λ (ls : List Leaf). OfPut put.0 (thing.Line put.1) ∷ ls) (leaves_of_puts more)

deepest_of_puts : (puts : List (ℕ × Line)) → deepest (line_puts puts) ≡ 0
deepest_of_puts [] = refl
deepest_of_puts (put ∷ more) = ap (λ (d : ℕ). max 0 d) (deepest_of_puts more)

missing_of_puts : (book : Book) (puts : List (ℕ × Line)) → first_missing book (line_leaves puts) ≡ None
missing_of_puts book [] = refl
missing_of_puts book (put ∷ more) = missing_of_puts book more

-- their keys rise from one that is below the first
order_of_puts :
    (before : Key) (puts : List (ℕ × Line)) → before.kind ≡ 8 → AllAbove before.number puts → Rises puts
    → first_unordered before (line_leaves puts) ≡ None
order_of_puts before [] lines above r = refl
order_of_puts before (put ∷ more) lines above r =
    let rest = order_of_puts (key_at 8 put.0) more refl r.0 r.1 in
    grind (arith, nat_tests, lines, above.0, rest)

order_behind :
    (before : Key) (puts : List (ℕ × Line)) → before.kind < 8 → Rises puts
    → first_unordered before (line_leaves puts) ≡ None
order_behind before [] less r = refl
order_behind before (put ∷ more) less r =
    let rest = order_of_puts (key_at 8 put.0) more refl r.0 r.1 in grind (arith, nat_tests, less, rest)

rises_dismissed : (test : Line → Bool) (lines : List (ℕ × Line)) → Rises lines → Rises (newly_dismissed test lines)
rises_dismissed test [] r = tt
rises_dismissed test (e ∷ lines) r =
    let rest = rises_dismissed test lines r.1 in
    elim (test e.1) as
    (λ (b : Bool). Rises (if b then (e.0, dismissed e.1) ∷ newly_dismissed test lines
    else newly_dismissed test lines)) [ true ↦ (above_dismissed test e.0 lines r.0, rest) | false ↦ rest ]

-- ---- each changes its line

state_in : Option Thing → LineState
state_in (Some (thing.Line line)) = line.state
state_in _ = Open

-- a line that loses its split isn't dismissed yet
not_yet : (old new : List Split) (line : Line) → loses_split old new line ≡ true → line.state ≢ Dismissed
not_yet old new line loses is =
    absurd (let none = ap (λ (state : LineState). is_lost old new (matched_split state)) is in cc)

line_changes :
    (old new : List Split) (book : Book) (n : ℕ) (line : Line) → loses_split old new line ≡ true
    → value_of n book.lines ≡ Some line → Changes book (OfPut n (thing.Line (dismissed line)))
unfolding state_in
line_changes old new book n line loses there same =
    not_yet old new line loses
    (sym (ap (λ (found : Option Line). state_in (option_map (λ l. thing.Line l) found)) there) ∙ ap state_in same)

lines_change :
    (old new : List Split) (book : Book) (lines : List (ℕ × Line)) → Rises lines
    → ((k : ℕ) (x : Line) → value_of k lines ≡ Some x → value_of k book.lines ≡ Some x)
    → AllChange book (line_leaves (newly_dismissed (loses_split old new) lines))
lines_change old new book [] r there = tt
lines_change old new book (e ∷ lines) r there =
    let test = loses_split old new in
    let first : value_of e.0 (e ∷ lines) ≡ Some e.1 = grind (arith, nat_tests) in
    let rest = lines_change old new book lines r.1
    (λ k x found.
    let past = above_there e.0 k x lines r.0 found in
    let later : value_of k (e ∷ lines) ≡ Some x = grind (arith, nat_tests, past, found) in
    there k x later) in
    let Chosen : Bool → Type 0 = λ b. test e.1 ≡ b
    → AllChange book (line_leaves (if b then (e.0, dismissed e.1) ∷ newly_dismissed test lines
    else newly_dismissed test lines)) in
    elim (test e.1) as Chosen [
      | true ↦ λ loses. (line_changes old new book e.0 e.1 loses (there e.0 e.1 first), rest)
      | false ↦ λ keeps. rest
    ] refl

-- ---- the edit of a transaction with them

-- What a leaf does before the lines are dismissed: it may be applied, changes what stands at its key, and that is
-- below the keys of lines.
pub record IsFirst (book : Book) (edit : Edit) (leaf : Leaf) : Type 0 where
  pub one : leaves edit ≡ leaf ∷ []
  pub shallow : depth edit ≡ 0
  pub there : first_missing book (leaf ∷ []) ≡ None
  pub above : nat_lt 0 (key_of leaf).kind ≡ true
  pub below : nat_lt (key_of leaf).kind 8 ≡ true
  pub changes : Changes book leaf

missing_behind :
    (book : Book) (leaf : Leaf) (more : List Leaf) → first_missing book (leaf ∷ []) ≡ None
    → first_missing book more ≡ None → first_missing book (leaf ∷ more) ≡ None
missing_behind book leaf more here behind = missing-later book (leaf ∷ []) more here ∙ behind

order_first :
    (leaf : Leaf) (more : List Leaf) → nat_lt 0 (key_of leaf).kind ≡ true
    → first_unordered (key_of leaf) more ≡ None → first_unordered (key_at 0 0) (leaf ∷ more) ≡ None
order_first leaf more above rest = grind (arith, nat_tests, above, rest)

pub exact_together :
    (book : Book) (edit : Edit) (leaf : Leaf) (old new : List Split) → IsRising book → IsFirst book edit leaf
    → IsExact book (together edit (dismissing old new book.lines))
exact_together book edit leaf old new r first =
    let puts = newly_dismissed (loses_split old new) book.lines in
    let whole = together edit (line_puts puts) in
    let all : leaves whole ≡ leaf ∷ line_leaves puts = leaves_together edit leaf (line_puts puts) first.one
    ∙ ap (λ (ls : List Leaf). leaf ∷ ls) (leaves_of_puts puts) in
    let below : (key_of leaf).kind < 8 = grind (arith, nat_tests, first.below) in
    let order = order_first leaf (line_leaves puts) first.above
    (order_behind (key_of leaf) puts below (rises_dismissed (loses_split old new) book.lines r.lines)) in
    let missing = missing_behind book leaf (line_leaves puts) first.there (missing_of_puts book puts) in
    let named : Option ℕ → Option EditRule = option_map (λ place. OutOfOrder (min place (2 ^ 64 - 1))) in
    let allowed = three_none (first_missing book (leaves whole)) (out_of_order (leaves whole))
    (broken_where (nat_lt 8 (depth whole)) TooDeep)
    (ap (first_missing book) all ∙ missing)
    (ap out_of_order all ∙ ap named order)
    (ap (λ (b : Bool). broken_where b TooDeep)
    (shallow_together edit (line_puts puts) first.shallow (deepest_of_puts puts))) in
    exact_of book whole r allowed
    (subst (λ (ls : List Leaf). AllChange book ls) (sym all)
    (first.changes, lines_change old new book book.lines r.lines (λ k x found. found)))

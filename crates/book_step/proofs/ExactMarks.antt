-- The edits of the commands that mark a split and that match a line with one are exact for a sound book, and lead to
-- the books of these commands.
use Rattle.std.proofs.Common.{◌≡◌, ℕ, nat_lt, Bool, true, false, if◌then◌else◌, List, [], ◌∷◌, Some}
use Rattle.std.proofs.Common.{option_map, refl, sym, ap, subst, ◌∙◌}
use Rattle.book_commodity.specs.Rules.{broken_where}
use Rattle.book_commodity.specs.Table.{value_of}
use Rattle.book_splits.specs.declared.split.Mark.{Mark}
use Rattle.book_splits.specs.declared.split.Mark.TheVariants.{New, Cleared}
use Rattle.book_splits.specs.declared.split.Split.{Split}
use Rattle.book_splits.specs.declared.transaction.Txn.{Txn}
use Rattle.book_statement.specs.declared.line.Line.{Line}
use Rattle.book_statement.specs.declared.line_state.LineState.TheVariants.{Open}
use Rattle.book_undo.specs.Book.{Book, with_thing}
use Rattle.book_undo.specs.Edit.{Leaf, OfPut, depth, edited, is_nothing, leaves}
use Rattle.book_undo.specs.EditRules.{first_missing, out_of_order}
use Rattle.book_undo.specs.Exact.{IsExact}
use Rattle.book_undo.specs.declared.edit.Edit.{Edit, All as AllOf, Put}
use Rattle.book_undo.specs.declared.rule.EditRule.TheVariants.{TooDeep}
use Rattle.book_undo.specs.declared.thing.Thing.TheVariants as thing
use Rattle.book_undo.proofs.ExactLaws.{AllChange, Changes, exact_of, exact_put, something_of_some}
use Rattle.book_undo.proofs.PartLaws.{depth_of_all, edited_of_all, leaves_of_all}
use Rattle.book_undo.proofs.ThreeRules.{three_none}
use Rattle.book_sound.specs.LineRules.{split_among}
use Rattle.book_sound.proofs.SoundFacts.{tables_rise}
use Rattle.book_step.specs.LineAdding.{matched_with}
use Rattle.book_step.specs.LineMatching.{book_paired, pairing_edit}
use Rattle.book_step.specs.Marking.{Held, IsHeld, book_marked, marked_as, remarked}
use Rattle.book_step.specs.SameTransaction.{is_mark, mark_itself}
use Rattle.book_step.specs.Soundness.{IsSoundBook, IsSound}
use Rattle.book_step.specs.State.{State}
use Rattle.book_step.proofs.ExactLines.{matched_differs}
use Rattle.book_step.proofs.RemarkLemmas.{among_marked, marked_is_put}

-- ---- a split that gets another mark

one_transaction : (old new : Txn) → Some (thing.Txn old) ≡ Some (thing.Txn new) → new ≡ old
one_transaction old new same = cc

one_split : (old new : Split) → Some new ≡ Some old → new ≡ old
one_split old new same = cc

-- another transaction is put
pub remarked_differs :
    (book : Book) (number : ℕ) (mark : Mark) (held : Held) → IsHeld book.transactions number held
    → is_mark held.split.mark mark ≡ false
    → Changes book (OfPut held.number (thing.Txn (remarked number mark held.transaction)))
remarked_differs book number mark held has differs same =
    let t = held.transaction in
    let new = remarked number mark t in
    let one = one_transaction t new (sym (ap (option_map (λ (x : Txn). thing.Txn x)) has.0) ∙ same) in
    let found : Some (marked_as mark held.split) ≡ Some held.split =
    sym (among_marked number mark t.splits ∙ ap (option_map (marked_as mark)) has.1)
    ∙ ap (λ (x : Txn). split_among number x.splits) one ∙ has.1 in
    let marks : mark ≡ held.split.mark =
    ap (λ (s : Split). s.mark) (one_split held.split (marked_as mark held.split) found) in
    absurd (
    let equal = ap (λ (m : Mark). is_mark m mark) (sym marks) ∙ mark_itself mark in
    let both = sym equal ∙ differs in
    cc)

pub mark_exact :
    (state : State) (number : ℕ) (mark : Mark) (held : Held) → IsSound state
    → IsHeld state.book.transactions number held → is_mark held.split.mark mark ≡ false
    → IsExact state.book (Put held.number (thing.Txn (remarked number mark held.transaction)))
mark_exact state number mark held is has differs =
    exact_put state.book held.number (thing.Txn (remarked number mark held.transaction))
    (tables_rise state.book is.book) (remarked_differs state.book number mark held has differs)

-- ---- a line that is matched with a split

-- What the command finds of a line and of a split.
abbrev paired : ℕ → Line → ℕ → Held → Edit
paired number line wanted held = pairing_edit number line wanted held.number held.transaction held.split

-- The edit by whether the split is new.
abbrev paired_if : Bool → ℕ → Line → ℕ → Held → Edit
paired_if new number line wanted held =
    let matched = Put number (thing.Line (matched_with wanted line)) in
    if new then AllOf (Put held.number (thing.Txn (remarked wanted Cleared held.transaction)) ∷ matched ∷ [])
    else matched

-- it changes something
pub pairing_changes : (number : ℕ) (line : Line) (wanted : ℕ) (held : Held)
    → is_nothing (paired number line wanted held) ≡ false
pairing_changes number line wanted held = go (is_mark held.split.mark New)
  where
    go : (new : Bool) → is_nothing (paired_if new number line wanted held) ≡ false
    go true =
        let first = Put held.number (thing.Txn (remarked wanted Cleared held.transaction)) in
        let second = Put number (thing.Line (matched_with wanted line)) in
        something_of_some (first ∷ second ∷ []) (λ none. absurd cc)
    go false = refl

-- it leads to the book in which the line is matched with the split
pub pairing_leads :
    (book : Book) (number : ℕ) (line : Line) (wanted : ℕ) (held : Held) → IsSoundBook book
    → IsHeld book.transactions wanted held
    → edited (paired number line wanted held) book ≡ book_paired number line wanted held.split book
pairing_leads book number line wanted held is has = go (is_mark held.split.mark New)
  where
    go : (new : Bool) → edited (paired_if new number line wanted held) book
        ≡ with_thing number (thing.Line (matched_with wanted line))
        (if new then book_marked wanted Cleared book else book)
    go true =
        let first = Put held.number (thing.Txn (remarked wanted Cleared held.transaction)) in
        let second = Put number (thing.Line (matched_with wanted line)) in
        edited_of_all (first ∷ second ∷ []) book
        ∙ ap (with_thing number (thing.Line (matched_with wanted line)))
        (sym (marked_is_put book wanted Cleared held is has))
    go false = refl

new_isnt_cleared : (mark : Mark) → is_mark mark New ≡ true → is_mark mark Cleared ≡ false
new_isnt_cleared New is = refl
new_isnt_cleared Cleared is = absurd cc
new_isnt_cleared _ is = absurd cc

pub pairing_exact :
    (state : State) (number : ℕ) (line : Line) (wanted : ℕ) (held : Held) → IsSound state
    → IsHeld state.book.transactions wanted held → value_of number state.book.lines ≡ Some line → line.state ≡ Open
    → IsExact state.book (paired number line wanted held)
pairing_exact state number line wanted held is has there is_open =
    go (is_mark held.split.mark New) refl
  where
    go : (new : Bool) → is_mark held.split.mark New ≡ new → IsExact state.book (paired_if new number line wanted held)
    go true new =
        let book = state.book in
        let transaction = thing.Txn (remarked wanted Cleared held.transaction) in
        let matched = thing.Line (matched_with wanted line) in
        let edits = Put held.number transaction ∷ Put number matched ∷ [] in
        let whole = AllOf edits in
        let all : leaves whole ≡ OfPut held.number transaction ∷ OfPut number matched ∷ [] = leaves_of_all edits in
        let deep : depth whole ≡ 1 = depth_of_all edits in
        let allowed = three_none (first_missing book (leaves whole)) (out_of_order (leaves whole))
        (broken_where (nat_lt 8 (depth whole)) TooDeep)
        (ap (first_missing book) all) (ap out_of_order all) (ap (λ (d : ℕ). broken_where (nat_lt 8 d) TooDeep) deep) in
        let differs = remarked_differs book wanted Cleared held has (new_isnt_cleared held.split.mark new) in
        exact_of book whole (tables_rise book is.book) allowed
        (subst (λ (ls : List Leaf). AllChange book ls) (sym all)
        (differs, (matched_differs book number wanted line there is_open, tt)))
    go false other =
        exact_put state.book number (thing.Line (matched_with wanted line)) (tables_rise state.book is.book)
        (matched_differs state.book number wanted line there is_open)

-- The edit that puts a transaction and matches a line with its first split is exact for a sound book, and leads to the
-- book in which both are.
use Rattle.std.proofs.Common.{◌≡◌, ◌≢◌, ℕ, ◌+◌, nat_lt, false, List, [], ◌∷◌, Option, Some, None, option_map, sym, ap}
use Rattle.std.proofs.Common.{subst, ◌∙◌}
use Rattle.book_commodity.specs.Rules.{broken_where}
use Rattle.book_commodity.specs.Table.{value_of}
use Rattle.book_commodity.proofs.DrawnLemmas.{drawn_free}
use Rattle.book_splits.specs.declared.transaction.Txn.{Txn}
use Rattle.book_statement.specs.declared.line.Line.{Line}
use Rattle.book_statement.specs.declared.line_state.LineState.TheVariants.{Open, Matched}
use Rattle.book_undo.specs.Book.{Book}
use Rattle.book_undo.specs.Edit.{Leaf, OfPut, depth, edited, is_nothing, leaves}
use Rattle.book_undo.specs.EditRules.{first_missing, out_of_order}
use Rattle.book_undo.specs.Exact.{IsExact}
use Rattle.book_undo.specs.declared.edit.Edit.{Edit, All as AllOf, Put}
use Rattle.book_undo.specs.declared.rule.EditRule.TheVariants.{TooDeep}
use Rattle.book_undo.specs.declared.thing.Thing.{Thing}
use Rattle.book_undo.specs.declared.thing.Thing.TheVariants as thing
use Rattle.book_undo.proofs.ExactLaws.{AllChange, Changes, exact_of, something_of_some}
use Rattle.book_undo.proofs.PartLaws.{depth_of_all, edited_of_all, leaves_of_all}
use Rattle.book_undo.proofs.ThreeRules.{three_none}
use Rattle.book_sound.proofs.SoundFacts.{tables_rise}
use Rattle.book_step.specs.LineAdding.{book_matched, matched_with, matching_edit}
use Rattle.book_step.specs.Soundness.{IsSound}
use Rattle.book_step.specs.State.{State}

-- The two parts of the edit.
abbrev parts : ℕ → Txn → ℕ → Line → List Edit
parts number transaction n line =
    Put number (thing.Txn transaction) ∷ Put n (thing.Line (matched_with (number + 1) line)) ∷ []

-- the book that it leads to
pub matching_leads :
    (book : Book) (number : ℕ) (transaction : Txn) (n : ℕ) (line : Line)
    → edited (matching_edit number transaction n line) book ≡ book_matched book number transaction n line
matching_leads book number transaction n line = edited_of_all (parts number transaction n line) book

-- it changes something
pub matching_changes :
    (number : ℕ) (transaction : Txn) (n : ℕ) (line : Line)
    → is_nothing (matching_edit number transaction n line) ≡ false
matching_changes number transaction n line =
    let first = Put number (thing.Txn transaction) in
    let second = Put n (thing.Line (matched_with (number + 1) line)) in
    something_of_some (first ∷ second ∷ []) (λ none. absurd cc)

-- nothing stands under a number that isn't drawn yet
none_there : (found : Option Txn) (y : Thing) → found ≡ None → option_map (λ t. thing.Txn t) found ≢ Some y
none_there None y none same = absurd cc
none_there (Some x) y none same = absurd cc

-- an open line isn't matched
one_line : (old new : Line) → Some (thing.Line old) ≡ Some (thing.Line new) → new ≡ old
one_line old new same = cc

pub matched_differs :
    (book : Book) (n split : ℕ) (line : Line) → value_of n book.lines ≡ Some line → line.state ≡ Open
    → Changes book (OfPut n (thing.Line (matched_with split line)))
matched_differs book n split line there is_open same =
    let one = one_line line (matched_with split line)
    (sym (ap (option_map (λ (l : Line). thing.Line l)) there) ∙ same) in
    let state : Matched split ≡ Open = ap (λ (l : Line). l.state) one ∙ is_open in
    absurd cc

pub matching_exact :
    (state : State) (transaction : Txn) (n : ℕ) (line : Line) → IsSound state → value_of n state.book.lines ≡ Some line
    → line.state ≡ Open
    → IsExact state.book (matching_edit state.next transaction n line)
matching_exact state transaction n line is there is_open =
    let book = state.book in
    let edits = parts state.next transaction n line in
    let whole = AllOf edits in
    let line_leaf = OfPut n (thing.Line (matched_with (state.next + 1) line)) in
    let all : leaves whole ≡ OfPut state.next (thing.Txn transaction) ∷ line_leaf ∷ [] = leaves_of_all edits in
    let deep : depth whole ≡ 1 = depth_of_all edits in
    let allowed = three_none (first_missing book (leaves whole)) (out_of_order (leaves whole))
    (broken_where (nat_lt 8 (depth whole)) TooDeep)
    (ap (first_missing book) all) (ap out_of_order all) (ap (λ (d : ℕ). broken_where (nat_lt 8 d) TooDeep) deep) in
    let free = drawn_free state.next book.transactions is.drawn.transactions in
    let drawn = none_there (value_of state.next book.transactions) (thing.Txn transaction) free in
    exact_of book whole (tables_rise book is.book) allowed
    (subst (λ (ls : List Leaf). AllChange book ls) (sym all)
    (drawn, (matched_differs book n (state.next + 1) line there is_open, tt)))

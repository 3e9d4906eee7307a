-- The lines of statements, as a walk asks their rules.
use Rattle.std.proofs.Common.{◌≡◌, ℕ, ◌+◌, nat_eq, not, Bool, true, false, ◌&&◌, ◌||◌, List, take, is_some, Option}
use Rattle.std.proofs.Common.{Some, None, slice_get, option_map, refl, sym, ap, ◌∙◌}
use Rattle.std.specs.Cmp.{unsigned_tied}
use Rattle.std.specs.List.{list_any}
use Rattle.std.specs.Option.{option_eq}
use Rattle.std.specs.Ordering.{nat_cmp}
use Rattle.book_commodity.proofs.ListLemmas.{mapped_some}
use Rattle.book_commodity.specs.Rules.{stands_before}
use Rattle.book_commodity.specs.Table.{Rises}
use Rattle.book_accounts.specs.declared.account.Account.{Account}
use Rattle.book_splits.specs.declared.transaction.Txn.{Txn}
use Rattle.book_statement.specs.declared.held.Held.{Held}
use Rattle.book_statement.specs.declared.line.Line.{Line}
use Rattle.book_sound.specs.LineRules.{fits_in_state, has_same_key, is_over_limit, line_rules, matched_split}
use Rattle.book_sound.specs.LineRules.{shares_split}
use Rattle.book_sound.specs.Tests.{is_live}
use Rattle.book_check.specs.FirstUnsound.{all_hold}
use Rattle.book_check.specs.LineWalk.{AddsMatched, HasMatched, is_matched_with}
use Rattle.book_check.specs.Seen.{Adds, is_seen}
use Rattle.book_check.proofs.AnyLemmas.{any_next, none_of, or_swap}
use Rattle.book_check.proofs.SeenLemmas.{before_place}

-- ---- splits that lines are matched with
-- a line that is matched with none shares no split
pub unmatched_before :
    (line : Line) (lines : List (ℕ × Line)) → matched_split line.state ≡ None
    → list_any (λ (e : ℕ × Line). shares_split line e.1) lines ≡ false
unmatched_before line lines none =
    ap (λ (o : Option ℕ). list_any
    (λ (e : ℕ × Line). is_some o && option_eq nat_eq (matched_split e.1.state) o) lines) none
    ∙ none_of lines

pub unmatched_after :
    (line : Line) (seen : List ℕ) → matched_split line.state ≡ None → AddsMatched seen line seen
unmatched_after line seen none q =
    sym (ap (λ (o : Option ℕ). option_eq nat_eq o (Some q) || is_seen nat_cmp seen q) none)

-- the split of a line was seen where a line is matched with it
pub matched_before :
    (split : ℕ) (line : Line) (seen : List ℕ) (lines : List (ℕ × Line)) → matched_split line.state ≡ Some split
    → HasMatched seen lines
    → is_seen nat_cmp seen split ≡ list_any (λ (e : ℕ × Line). shares_split line e.1) lines
matched_before split line seen lines is has =
    has split
    ∙ sym (ap (λ (o : Option ℕ). list_any
    (λ (e : ℕ × Line). is_some o && option_eq nat_eq (matched_split e.1.state) o) lines) is)

-- it is seen afterwards
pub matched_after :
    (split : ℕ) (line : Line) (old new : List ℕ) → matched_split line.state ≡ Some split
    → Adds nat_cmp old split new → AddsMatched old line new
matched_after split line old new is adds q =
    adds q ∙ ap (λ t. t || is_seen nat_cmp old q) (unsigned_tied split q)
    ∙ sym (ap (λ (o : Option ℕ). option_eq nat_eq o (Some q) || is_seen nat_cmp old q) is)

-- ---- one line after another
pub matched_next :
    (es : List (ℕ × Line)) (i : ℕ) (line : Line) (old new : List ℕ)
    → option_map (λ e. e.1) (slice_get es i) ≡ Some line → HasMatched old (take i es) → AddsMatched old line new
    → HasMatched new (take (i + 1) es)
matched_next es i line old new value has adds q =
    let at = mapped_some (λ (e : ℕ × Line). e.1) (slice_get es i) line value in
    adds q ∙ or_swap (is_matched_with q line) (is_seen nat_cmp old q)
    ∙ ap (λ b. b || is_matched_with q line) (has q)
    ∙ ap (λ l. list_any (λ (e : ℕ × Line). is_matched_with q e.1) (take i es) || is_matched_with q l) (sym at.2)
    ∙ sym (any_next (λ (e : ℕ × Line). is_matched_with q e.1) es i at.0 at.1)

-- the rules of a line, as a walk asks them: those that ask for no other line, its split, and its key
pub line_asked :
    (accounts : List (ℕ × Account)) (statements : List (ℕ × Held)) (transactions : List (ℕ × Txn))
    (es : List (ℕ × Line)) (i n : ℕ) (line : Line) (alone split : Bool) → Rises es → slice_get es i ≡ Some (n, line)
    → alone ≡ (is_live accounts line.account && (is_live statements line.statement
    && (not (is_over_limit line.body.amount) && fits_in_state transactions line line.state)))
    → split ≡ list_any (λ (e : ℕ × Line). shares_split line e.1) (take i es)
    → all_hold (line_rules accounts statements transactions es n line)
    ≡ ((alone && not split) && not (stands_before (has_same_key line) n es))
line_asked accounts statements transactions es i n line alone split rise there asked taken =
    in_order (is_live accounts line.account) (is_live statements line.statement)
    (not (is_over_limit line.body.amount)) (stands_before (has_same_key line) n es)
    (fits_in_state transactions line line.state) (stands_before (shares_split line) n es)
    ∙ ap (λ t. (t && not (stands_before (shares_split line) n es)) && not (stands_before (has_same_key line) n es))
    (sym asked)
    ∙ ap (λ t. (alone && not t) && not (stands_before (has_same_key line) n es))
    (before_place (shares_split line) es i n line rise there ∙ sym taken)
  where
    last_false : (b : Bool) → (b && false) ≡ false
    last_false true = refl
    last_false false = refl

    in_order : (a b c k f s : Bool)
        → (a && (b && (c && (not k && (f && (not s && true)))))) ≡ (((a && (b && (c && f))) && not s) && not k)
    in_order false b c k f s = refl
    in_order true false c k f s = refl
    in_order true true false k f s = refl
    in_order true true true k false s = last_false (not k)
    in_order true true true true true true = refl
    in_order true true true true true false = refl
    in_order true true true false true true = refl
    in_order true true true false true false = refl

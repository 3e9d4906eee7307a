-- A sound book stays sound where a line only takes another state, as which it fits.
use Rattle.std.proofs.Common.{◌≡◌, ◌≢◌, ℕ, ◌==◌, nat_eq, ◌&&◌, ◌||◌, not, Bool, true, false, List, Option}
use Rattle.std.proofs.Common.{Some, None, is_none, is_some, refl, sym, ap, ◌∙◌, arith}
use Rattle.std.specs.Option.{option_eq}
use Rattle.std.specs.Ordering.{int_eq}
use Rattle.std.proofs.lemmas.Bool.{and_parts, eqb-true, ne_eqb, not-true, not_from_false}
use Rattle.std.proofs.lemmas.Bool.Decides.{Decides-int_eq, nat_tests}
use Rattle.std.proofs.lemmas.Slice.Eq.{bytes_eq-Decides}
use Rattle.book_commodity.specs.Rules.{IsSoundTable}
use Rattle.book_commodity.specs.Table.{value_of, with_entry}
use Rattle.book_commodity.proofs.DrawnLemmas.{drawn_below, length_changed}
use Rattle.book_commodity.proofs.RuleLemmas.{none_before_with}
use Rattle.book_statement.specs.Keys.{same_text}
use Rattle.book_statement.specs.declared.line.Line.{Line}
use Rattle.book_statement.specs.declared.line_key.LineKey.{LineKey}
use Rattle.book_statement.specs.declared.line_state.LineState.{LineState}
use Rattle.book_statement.specs.declared.line_state.LineState.TheVariants.{Open, Matched, Dismissed}
use Rattle.book_sound.specs.LineRules.{fits_in_state, fits_line, has_same_key, is_over_limit, is_same_key}
use Rattle.book_sound.specs.LineRules.{key_of_line, line_rules}
use Rattle.book_sound.specs.LineRules.{matched_split, shares_split, split_at}
use Rattle.book_sound.specs.Soundness.{AreDrawn, IsSoundBook}
use Rattle.book_sound.specs.Tests.{is_live}
use Rattle.book_sound.proofs.DrawnChanges.{line_drawn}
use Rattle.book_sound.proofs.OwnFrames.{none_of_others, others_again, own_again, sound_with}
use Rattle.book_sound.proofs.WalkLemmas.{passes_there}
use Rattle.book_check.specs.LineWalk.{is_matched_with}
use Rattle.book_undo.specs.Book.{Book}
use Rattle.book_history.specs.Leaving.{is_same_line}
use Rattle.book_history.specs.Placing.{is_free, may_be}

-- ---- keys

-- keys that are the same by their parts are equal
same_keys : (one other : LineKey) → is_same_key one other ≡ true → other ≡ one
same_keys one other same =
    let account = and_parts (other.account == one.account) _ same in
    let day = and_parts (int_eq other.day one.day) _ account.1 in
    let amount = and_parts (int_eq other.amount one.amount) _ day.1 in
    let kind = and_parts (same_text other.kind one.kind) _ amount.1 in
    let own = and_parts (same_text other.ref_own one.ref_own) _ kind.1 in
    let bank = and_parts (same_text other.ref_bank one.ref_bank) _ own.1 in
    let text = and_parts (same_text other.text one.text) (other.ordinal == one.ordinal) bank.1 in
    ap (λ x. record other { account = x }) (eqb-true other.account one.account account.0)
    ∙ ap (λ x. record other { account = one.account; day = x }) ((Decides-int_eq other.day one.day).0 day.0)
    ∙ ap (λ x. record other { account = one.account; day = one.day; amount = x })
    ((Decides-int_eq other.amount one.amount).0 amount.0)
    ∙ ap (λ x. record one {
      kind = x;
      ref_own = other.ref_own;
      ref_bank = other.ref_bank;
      text = other.text;
      ordinal = other.ordinal;
    }) ((bytes_eq-Decides other.kind one.kind).0 kind.0)
    ∙ ap (λ x. record one { ref_own = x; ref_bank = other.ref_bank; text = other.text; ordinal = other.ordinal })
    ((bytes_eq-Decides other.ref_own one.ref_own).0 own.0)
    ∙ ap (λ x. record one { ref_bank = x; text = other.text; ordinal = other.ordinal })
    ((bytes_eq-Decides other.ref_bank one.ref_bank).0 bank.0)
    ∙ ap (λ x. record one { text = x; ordinal = other.ordinal }) ((bytes_eq-Decides other.text one.text).0 text.0)
    ∙ ap (λ x. record one { ordinal = x }) (eqb-true other.ordinal one.ordinal text.1)

-- ---- lines

-- sharing goes both ways
both_share :
    (one other : Option ℕ) → (is_some one && option_eq nat_eq other one) ≡ false
    → (is_some other && option_eq nat_eq one other) ≡ false
both_share None None apart = refl
both_share None (Some m) apart = refl
both_share (Some n) None apart = refl
both_share (Some n) (Some m) apart = grind (arith, nat_tests, apart)

-- Another line stands in the place of one: it has its key and its statement, fits as its own state says, and shares its
-- split with no other.
record IsInPlace (book : Book) (n : ℕ) (old new : Line) : Type 0 where
  there : value_of n book.lines ≡ Some old
  keys : key_of_line new ≡ key_of_line old
  statement : new.statement ≡ old.statement
  fits : fits_in_state book.transactions new new.state ≡ true
  apart : (k : ℕ) (x : Line) → k ≢ n → value_of k book.lines ≡ Some x → shares_split new x ≡ false

lines_in_place :
    (book : Book) (n : ℕ) (old new : Line) → IsInPlace book n old new
    → IsSoundTable (line_rules book.accounts book.statements book.transactions book.lines) 1000000 book.lines
    → IsSoundTable (line_rules book.accounts book.statements book.transactions (with_entry n new book.lines)) 1000000
    (with_entry n new book.lines)
lines_in_place book n old new in_place is =
    let lines = book.lines in
    let later = with_entry n new lines in
    let was = is.keep.each n old in_place.there in
    let alike : has_same_key new ≡ has_same_key old =
    ap (λ (key : LineKey). λ (x : Line). is_same_key key (key_of_line x)) in_place.keys in
    let own = not_from_false _ (own_again has_same_key n old new lines alike (not-true _ was.1.1.1.0)) in
    let free = none_before_with (shares_split new) n n new lines (λ before. absurd (omega (arith, before)))
    (none_of_others (shares_split new) n lines is.rise in_place.apart) in
    let account = ap (λ (key : LineKey). is_live book.accounts key.account) in_place.keys ∙ was.0 in
    let statement = ap (is_live book.statements) in_place.statement ∙ was.1.0 in
    let amount = ap (λ (key : LineKey). not (is_over_limit key.amount)) in_place.keys ∙ was.1.1.0 in
    sound_with (line_rules book.accounts book.statements book.transactions lines)
    (line_rules book.accounts book.statements book.transactions later) 1000000 n new lines
    (account, (statement, (amount, (own, (in_place.fits, (not_from_false _ free, tt))))))
    (λ k x other there kept.
    let seen = ap (λ (key : LineKey). is_same_key (key_of_line x) key) in_place.keys in
    let once = not_from_false _
    (others_again has_same_key n k old new x lines seen in_place.there (not-true _ kept.1.1.1.0)) in
    let alone = not_from_false _
    (none_before_with (shares_split x) k n new lines
    (λ before. both_share (matched_split new.state) (matched_split x.state) (in_place.apart k x other there))
    (not-true _ kept.1.1.1.1.1.0)) in
    (kept.0, (kept.1.0, (kept.1.1.0, (once, (kept.1.1.1.1.0, (alone, tt)))))))
    (omega (arith, is.few, length_changed n new old lines is.rise in_place.there)) is

-- ---- a state that a line may be in

-- no other line is matched with a split that is free
apart_from :
    (n split k : ℕ) (x : Line) (lines : List (ℕ × Line)) → is_free n split lines ≡ true → k ≢ n
    → value_of k lines ≡ Some x → is_matched_with split x ≡ false
apart_from n split k x lines free other there =
    let passes = passes_there (λ (e : ℕ × Line). (e.0 == n) || not (is_matched_with split e.1)) k x lines free there in
    let differs : (k == n) ≡ false = ne_eqb k n other in
    not-true _ (sym (ap (λ (t : Bool). t || not (is_matched_with split x)) differs) ∙ passes)

-- the state fits, and the line shares its split with no other
state_fits :
    (book : Book) (n : ℕ) (new : Line) (state : LineState) → may_be book n new state ≡ true
    → (fits_in_state book.transactions new state ≡ true)
    × ((k : ℕ) (x : Line) → k ≢ n → value_of k book.lines ≡ Some x
    → (is_some (matched_split state) && option_eq nat_eq (matched_split x.state) (matched_split state)) ≡ false)
state_fits book n new Open may = (refl, λ k x other there. refl)
state_fits book n new (Matched split) may =
    let parts = and_parts (fits_line new (split_at split book.transactions)) (is_free n split book.lines) may in
    (parts.0, λ k x other there. apart_from n split k x book.lines parts.1 other there)
state_fits book n new Dismissed may = (refl, λ k x other there. refl)

line_put :
    (book : Book) (n next : ℕ) (new : Line) (found : Option Line) → value_of n book.lines ≡ found
    → is_same_line new found ≡ true → may_be book n new new.state ≡ true → IsSoundBook book → AreDrawn book next
    → IsSoundBook (record book { lines = with_entry n new book.lines })
    × AreDrawn (record book { lines = with_entry n new book.lines }) next
line_put book n next new None there same may is are = absurd cc
line_put book n next new (Some old) there same may is are =
    let parts = and_parts (new.statement == old.statement) (has_same_key new old) same in
    let state = state_fits book n new new.state may in
    let in_place : IsInPlace book n old new = record {
      there = there;
      keys = sym (same_keys (key_of_line new) (key_of_line old) parts.1);
      statement = eqb-true new.statement old.statement parts.0;
      fits = state.0;
      apart = state.1;
    } in (
      record {
        commodities = is.commodities;
        accounts = is.accounts;
        transactions = is.transactions;
        prices = is.prices;
        schedules = is.schedules;
        statements = is.statements;
        lines = lines_in_place book n old new in_place is.lines;
        bindings = is.bindings;
        reconciliations = is.reconciliations;
        few_splits = is.few_splits;
        root = is.root;
        currency = is.currency;
      },
      line_drawn book n next new (drawn_below n next old book.lines are.lines there) are,
    )

-- a line takes a state in which it may be
pub line_restated :
    (book : Book) (n next : ℕ) (new : Line) → is_same_line new (value_of n book.lines) ≡ true
    → may_be book n new new.state ≡ true → IsSoundBook book → AreDrawn book next
    → IsSoundBook (record book { lines = with_entry n new book.lines })
    × AreDrawn (record book { lines = with_entry n new book.lines }) next
line_restated book n next new = line_put book n next new (value_of n book.lines) refl

-- it may be in a state in which it is matched with no split
pub free_may_be :
    (book : Book) (n : ℕ) (new : Line) (state : LineState) → is_none (matched_split state) ≡ true
    → may_be book n new state ≡ true
free_may_be book n new Open free = refl
free_may_be book n new (Matched split) free = absurd cc
free_may_be book n new Dismissed free = refl

-- Lines stay sound where a transaction changes or goes, and those that lose their splits are dismissed.
use Rattle.std.proofs.Common.{◌≡◌, ℕ, ◌<◌, ◌==◌, ◌&&◌, not, nat_eq, nat_lt, Bool, true, false, if◌then◌else◌, All, List}
use Rattle.std.proofs.Common.{[], ◌∷◌, length, Option, Some, None, is_some, IsTrue, refl, sym, ap, subst, ◌∙◌, arith}
use Rattle.std.specs.Option.{option_eq}
use Rattle.std.specs.Ordering.{int_eq}
use Rattle.std.proofs.lemmas.Bool.{and_parts, eqb-true, not-false, not-true, not_from_false, or_from, or_parts}
use Rattle.std.proofs.lemmas.Bool.Decides.{Decides-int_eq}
use Rattle.book_commodity.specs.Rules.{AllHold, IsSoundTable, stands_before}
use Rattle.book_commodity.specs.Table.{AllAbove, Rises, value_of, with_entry, without_entry}
use Rattle.book_commodity.proofs.DrawnLemmas.{value_here}
use Rattle.book_commodity.proofs.TableLemmas.{rises_with}
use Rattle.book_accounts.specs.declared.account.Account.{Account}
use Rattle.book_splits.specs.Balance.{splits_of}
use Rattle.book_splits.specs.TransactionRules.{is_among, is_voided, numbers_of, share_numbers}
use Rattle.book_splits.specs.declared.split.Split.{Split}
use Rattle.book_splits.specs.declared.transaction.Txn.{Txn}
use Rattle.book_splits.proofs.ReplacedLemmas.{IsFrom, not_among_from}
use Rattle.book_statement.specs.declared.held.Held.{Held}
use Rattle.book_statement.specs.declared.line.Line.{Line}
use Rattle.book_statement.specs.declared.line_key.LineKey.{LineKey}
use Rattle.book_statement.specs.declared.line_state.LineState.{LineState}
use Rattle.book_statement.specs.declared.statement_line.StatementLine.{StatementLine}
use Rattle.book_sound.specs.Dismissal.{dismissed_if, dismissed_where, is_lost, is_lost_split, lines_after, loses_split}
use Rattle.book_sound.specs.LineRules.{fits_in_state, has_same_key, is_over_limit, is_same_key, key_of_line}
use Rattle.book_sound.specs.LineRules.{line_rules, matched_split}
use Rattle.book_sound.specs.LineRules.{shares_split, split_among, split_at}
use Rattle.book_sound.specs.Tests.{is_live}
use Rattle.book_sound.proofs.LineFrames.{SplitSuits, state_still}
use Rattle.book_sound.proofs.SplitFrames.{found_among, found_holds, found_number, split_beside, split_of_one}
use Rattle.book_sound.proofs.SplitFrames.{split_past}

-- ---- what dismissing leaves of a line, and of a table of them

key_stays : (test : Bool) (line : Line) → key_of_line (dismissed_if test line) ≡ key_of_line line
key_stays true line = refl
key_stays false line = refl

account_stays : (test : Bool) (line : Line) → (dismissed_if test line).account ≡ line.account
account_stays true line = refl
account_stays false line = refl

statement_stays : (test : Bool) (line : Line) → (dismissed_if test line).statement ≡ line.statement
statement_stays true line = refl
statement_stays false line = refl

body_stays : (test : Bool) (line : Line) → (dismissed_if test line).body ≡ line.body
body_stays true line = refl
body_stays false line = refl

none_shared : (matched : Option ℕ) → (is_some matched && option_eq nat_eq None matched) ≡ false
none_shared None = refl
none_shared (Some split) = refl

-- lines that share no split share none where some are dismissed
shares_still :
    (one two : Bool) (line other : Line) → shares_split line other ≡ false
    → shares_split (dismissed_if one line) (dismissed_if two other) ≡ false
shares_still true two line other apart = refl
shares_still false true line other apart = none_shared (matched_split line.state)
shares_still false false line other apart = apart

value_where :
    (test : Line → Bool) (k : ℕ) (later : Line) (lines : List (ℕ × Line))
    → value_of k (dismissed_where test lines) ≡ Some later
    → (line : Line) × (value_of k lines ≡ Some line) × (dismissed_if (test line) line ≡ later)
value_where test k later [] there = absurd cc
value_where test k later (e ∷ lines) there =
    let Here : Bool → Type 0 = λ b.
    (if b then Some (dismissed_if (test e.1) e.1) else value_of k (dismissed_where test lines)) ≡ Some later
    → (line : Line) × ((if b then Some e.1 else value_of k lines) ≡ Some line)
    × (dismissed_if (test line) line ≡ later) in
    elim (k == e.0) as Here [
      | true ↦ λ same. (e.1, refl, cc)
      | false ↦ λ rest. value_where test k later lines rest
    ] there

above_where :
    (test : Line → Bool) (n : ℕ) (lines : List (ℕ × Line)) → AllAbove n lines
    → AllAbove n (dismissed_where test lines)
above_where test n [] above = tt
above_where test n (e ∷ lines) above = (above.0, above_where test n lines above.1)

rises_where : (test : Line → Bool) (lines : List (ℕ × Line)) → Rises lines → Rises (dismissed_where test lines)
rises_where test [] r = tt
rises_where test (e ∷ lines) r = (above_where test e.0 lines r.0, rises_where test lines r.1)

length_where :
    (test : Line → Bool) (lines : List (ℕ × Line)) → length (dismissed_where test lines) ≡ length lines
length_where test [] = refl
length_where test (e ∷ lines) = omega (arith, length_where test lines)

before_where :
    (test here later : Line → Bool) (k : ℕ) (lines : List (ℕ × Line))
    → ((other : Line) → here other ≡ false → later (dismissed_if (test other) other) ≡ false)
    → stands_before here k lines ≡ false → stands_before later k (dismissed_where test lines) ≡ false
before_where test here later k [] follows none = refl
before_where test here later k (e ∷ lines) follows none =
    let parts = or_parts (nat_lt e.0 k && here e.1) (stands_before here k lines) none in
    let After : Line = dismissed_if (test e.1) e.1 in
    let first : (nat_lt e.0 k && later After) ≡ false =
    (elim (nat_lt e.0 k) as (λ (b : Bool). (b && here e.1) ≡ false → (b && later After) ≡ false) [
      | true ↦ λ fails. follows e.1 fails
      | false ↦ λ fails. refl
    ]) parts.0 in
    or_from (nat_lt e.0 k && later After) _ first (before_where test here later k lines follows parts.1)

-- ---- lines stay sound where some are dismissed, and each other one is matched as before

fits_dismissed :
    (ts : List (ℕ × Txn)) (test : Bool) (line : Line)
    → (test ≡ false → IsTrue (fits_in_state ts line line.state))
    → IsTrue (fits_in_state ts (dismissed_if test line) (dismissed_if test line).state)
fits_dismissed ts true line fits = refl
fits_dismissed ts false line fits = fits refl

pub lines_dismissed :
    (accounts : List (ℕ × Account)) (statements : List (ℕ × Held)) (old new : List (ℕ × Txn)) (most : ℕ)
    (lines : List (ℕ × Line)) (test : Line → Bool)
    → ((k : ℕ) (line : Line) → value_of k lines ≡ Some line → test line ≡ false
    → IsTrue (fits_in_state old line line.state) → IsTrue (fits_in_state new line line.state))
    → IsSoundTable (line_rules accounts statements old lines) most lines
    → IsSoundTable (line_rules accounts statements new (dismissed_where test lines)) most (dismissed_where test lines)
lines_dismissed accounts statements old new most lines test still is = record {
  rise = rises_where test lines is.rise;
  keep = record {
    each = λ k later there.
        let was = value_where test k later lines there in
        let line = was.0 in
        let kept = is.keep.each k line was.1 in
        let after = dismissed_where test lines in
        let asked = test line in
        let keys = before_where test (has_same_key line) (has_same_key (dismissed_if asked line)) k lines
        (λ other differs. ap (λ (key : LineKey). is_same_key key (key_of_line (dismissed_if (test other) other)))
        (key_stays asked line)
        ∙ ap (is_same_key (key_of_line line)) (key_stays (test other) other) ∙ differs)
        (not-true _ kept.1.1.1.0) in
        let splits = before_where test (shares_split line) (shares_split (dismissed_if asked line)) k lines
        (λ other apart. shares_still asked (test other) line other apart) (not-true _ kept.1.1.1.1.1.0) in
        let matched = fits_dismissed new asked line (λ stays. still k line was.1 stays kept.1.1.1.1.0) in
        let account = subst (λ (n : ℕ). IsTrue (is_live accounts n)) (sym (account_stays asked line)) kept.0 in
        let statement = subst (λ (n : ℕ). IsTrue (is_live statements n)) (sym (statement_stays asked line)) kept.1.0 in
        let amount = subst (λ (body : StatementLine). IsTrue (not (is_over_limit body.amount)))
        (sym (body_stays asked line)) kept.1.1.0 in
        let own = not_from_false _ keys in
        let alone = not_from_false _ splits in
        let Rules : Line → Type 0 = λ x. AllHold (line_rules accounts statements new after k x) in
        subst Rules was.2 (account, (statement, (amount, (own, (matched, (alone, tt))))));
  };
  few = omega (arith, is.few, length_where test lines);
}

-- ---- the splits of a transaction that changes

-- What stays of the splits where a transaction stands in the place of one.
pub record IsReplaced (limit n : ℕ) (old new : Txn) (ts : List (ℕ × Txn)) : Type 0 where
  pub rise : Rises ts
  pub there : value_of n ts ≡ Some old
  pub was_free : stands_before (share_numbers old) n ts ≡ false
  pub is_free : stands_before (share_numbers new) n (with_entry n new ts) ≡ false
  pub below : All (λ (split : Split). split.id < limit) (splits_of ts)
  pub from : All (IsFrom limit (numbers_of old.splits)) (numbers_of new.splits)

-- a split that isn't lost is found again, with its account and its quantity, and it is not voided
stayed :
    (found later : Option Split) (split : Split) → found ≡ Some split → is_lost_split found later ≡ false
    → (new : Split) × (later ≡ Some new) × (new.account ≡ split.account) × (new.quantity ≡ split.quantity)
    × (is_voided split.mark ≡ false → is_voided new.mark ≡ false)
stayed None later split there kept = absurd cc
stayed (Some s) None split there kept = absurd cc
stayed (Some s) (Some new) split there kept =
    let same = and_parts (new.account == s.account) _ (not-false _ kept) in
    let more = and_parts (int_eq new.quantity s.quantity) (not (is_voided new.mark)) same.1 in
    let one : s ≡ split = cc in (
      new,
      refl,
      eqb-true new.account s.account same.0 ∙ ap (λ (x : Split). x.account) one,
      (Decides-int_eq new.quantity s.quantity).0 more.0 ∙ ap (λ (x : Split). x.quantity) one,
      λ was. not-true _ more.1,
    )

split_replaced :
    (limit n id : ℕ) (old new : Txn) (ts : List (ℕ × Txn)) → IsReplaced limit n old new ts
    → is_lost_split (split_among id old.splits) (split_among id new.splits) ≡ false
    → SplitSuits (split_at id ts) (split_at id (with_entry n new ts))
split_replaced limit n id old new ts is kept = record {
  each = λ split found.
      let Below : Split → Type 0 = λ s. s.id < limit in
      let later = with_entry n new ts in
      let Among : Bool → Type 0 = λ b. is_among (numbers_of old.splits) id ≡ b
      → (s : Split) × (split_at id later ≡ Some s) × (s.account ≡ split.account) × (s.quantity ≡ split.quantity)
      × (is_voided split.mark ≡ false → is_voided s.mark ≡ false) in
      elim (is_among (numbers_of old.splits) id) as Among [
        | true ↦ λ among.
            let own = sym (split_of_one n id old ts is.rise is.there is.was_free among) ∙ found in
            let s = stayed (split_among id old.splits) (split_among id new.splits) split own kept in
            let there = value_here n n new ts refl in
            let after = split_of_one n id new later (rises_with n new ts is.rise) there is.is_free
            (found_among id new.splits s.0 s.1) in
            (s.0, after ∙ s.1, s.2, s.3, s.4)
        | false ↦ λ none.
            let number = found_number id (splits_of ts) split found in
            let below : id < limit =
            subst (λ (m : ℕ). m < limit) number (found_holds Below id (splits_of ts) split is.below found) in
            let apart = not_among_from limit id (numbers_of old.splits) (numbers_of new.splits) below none is.from in (
              split,
              split_beside n id new ts is.rise apart ∙ sym (split_past n id old ts is.rise is.there none) ∙ found,
              refl,
              refl,
              λ unvoided. unvoided,
            )
      ] refl;
}

-- Lines stay sound where a transaction stands in the place of one, and those that lose their splits are dismissed.
pub lines_replaced :
    (accounts : List (ℕ × Account)) (statements : List (ℕ × Held)) (limit n : ℕ) (old new : Txn)
    (ts : List (ℕ × Txn)) (most : ℕ) (lines : List (ℕ × Line)) → IsReplaced limit n old new ts
    → IsSoundTable (line_rules accounts statements ts lines) most lines
    → IsSoundTable
    (line_rules accounts statements (with_entry n new ts) (lines_after old.splits new.splits lines)) most
    (lines_after old.splits new.splits lines)
lines_replaced accounts statements limit n old new ts most lines is =
    lines_dismissed accounts statements ts (with_entry n new ts) most lines (loses_split old.splits new.splits)
    (λ k line there kept.
    state_still ts (with_entry n new ts) line line.state
    (λ id matched.
    let Lost : LineState → Type 0 = λ state. is_lost old.splits new.splits (matched_split state) ≡ false in
    split_replaced limit n id old new ts is (subst Lost matched kept)))

-- a split of a transaction that is taken is lost
split_dropped :
    (n id : ℕ) (old : Txn) (ts : List (ℕ × Txn)) → Rises ts → value_of n ts ≡ Some old
    → stands_before (share_numbers old) n ts ≡ false
    → is_lost_split (split_among id old.splits) None ≡ false
    → SplitSuits (split_at id ts) (split_at id (without_entry n ts))
split_dropped n id old ts r there free kept = record {
  each = λ split found.
      let Among : Bool → Type 0 = λ b. is_among (numbers_of old.splits) id ≡ b
      → (s : Split) × (split_at id (without_entry n ts) ≡ Some s) × (s.account ≡ split.account)
      × (s.quantity ≡ split.quantity) × (is_voided split.mark ≡ false → is_voided s.mark ≡ false) in
      elim (is_among (numbers_of old.splits) id) as Among [
        | true ↦ λ among.
            let own = sym (split_of_one n id old ts r there free among) ∙ found in
            let s = stayed (split_among id old.splits) None split own kept in
            absurd (let none = s.1 in cc)
        | false ↦ λ none. (split, sym (split_past n id old ts r there none) ∙ found, refl, refl, λ unvoided. unvoided)
      ] refl;
}

-- Lines stay sound where a transaction is taken, and those that are matched with its splits are dismissed.
pub lines_left :
    (accounts : List (ℕ × Account)) (statements : List (ℕ × Held)) (n : ℕ) (old : Txn) (ts : List (ℕ × Txn))
    (most : ℕ) (lines : List (ℕ × Line)) → Rises ts → value_of n ts ≡ Some old
    → stands_before (share_numbers old) n ts ≡ false
    → IsSoundTable (line_rules accounts statements ts lines) most lines
    → IsSoundTable (line_rules accounts statements (without_entry n ts) (lines_after old.splits [] lines)) most
    (lines_after old.splits [] lines)
lines_left accounts statements n old ts most lines r there free =
    lines_dismissed accounts statements ts (without_entry n ts) most lines (loses_split old.splits [])
    (λ k line found kept.
    state_still ts (without_entry n ts) line line.state
    (λ id matched.
    let Lost : LineState → Type 0 = λ state. is_lost old.splits [] (matched_split state) ≡ false in
    split_dropped n id old ts r there free (subst Lost matched kept)))

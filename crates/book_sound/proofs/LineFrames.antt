-- What the rules of statements' lines see of the accounts, the statements and the transactions: those that they name.
use Rattle.std.proofs.Common.{◌≡◌, ℕ, ◌<◌, ◌==◌, not, ℤ, Bool, true, false, cond, All, List, [], ◌∷◌, ◌++◌, Option}
use Rattle.std.proofs.Common.{Some, None, IsTrue, refl, ap, ◌∙◌, eq-eqb}
use Rattle.std.specs.Ordering.{int_eq}
use Rattle.std.proofs.lemmas.Bool.{and_from, and_parts, not-true, not_from_false}
use Rattle.book_commodity.specs.Rules.{IsSoundTable}
use Rattle.book_commodity.specs.Table.{value_of, with_entry}
use Rattle.book_commodity.proofs.DrawnLemmas.{Stays, some_stays, with_last}
use Rattle.book_accounts.specs.declared.account.Account.{Account}
use Rattle.book_splits.specs.Balance.{splits_of}
use Rattle.book_splits.specs.TransactionRules.{is_voided}
use Rattle.book_splits.specs.declared.split.Split.{Split}
use Rattle.book_splits.specs.declared.transaction.Txn.{Txn}
use Rattle.book_splits.proofs.BalanceLemmas.{splits_of-added}
use Rattle.book_splits.proofs.TransactionRuleLemmas.{Suits}
use Rattle.book_statement.specs.declared.held.Held.{Held}
use Rattle.book_statement.specs.declared.line.Line.{Line}
use Rattle.book_statement.specs.declared.line_state.LineState.{LineState}
use Rattle.book_statement.specs.declared.line_state.LineState.TheVariants.{Open, Matched, Dismissed}
use Rattle.book_sound.specs.LineRules.{fits_in_state, fits_line, line_rules, split_among, split_at}
use Rattle.book_sound.specs.Naming.{has_thing, line_names}
use Rattle.book_sound.proofs.TableFrames.{has_that, live_still, sound_still}

-- Lines stay sound where their accounts are still there.
pub lines_on :
    (old new : List (ℕ × Account)) (statements : List (ℕ × Held)) (transactions : List (ℕ × Txn)) (most : ℕ)
    (lines : List (ℕ × Line))
    → ((account : ℕ) → has_thing (line_names account) lines ≡ true
    → Suits (value_of account old) (value_of account new))
    → IsSoundTable (line_rules old statements transactions lines) most lines
    → IsSoundTable (line_rules new statements transactions lines) most lines
lines_on old new statements transactions most lines suits =
    sound_still (line_rules old statements transactions lines) (line_rules new statements transactions lines) most lines
    (λ k line there kept.
    let account = line.account in
    let named = has_that (line_names account) k line lines there (eq-eqb account account refl) in
    (live_still (value_of account old) (value_of account new) (suits account named) kept.0, kept.1))

-- Lines stay sound where statements are added.
pub lines_under :
    (accounts : List (ℕ × Account)) (old new : List (ℕ × Held)) (transactions : List (ℕ × Txn)) (most : ℕ)
    (lines : List (ℕ × Line)) → Stays old new
    → IsSoundTable (line_rules accounts old transactions lines) most lines
    → IsSoundTable (line_rules accounts new transactions lines) most lines
lines_under accounts old new transactions most lines stays =
    sound_still (line_rules accounts old transactions lines) (line_rules accounts new transactions lines) most lines
    (λ k line there kept.
    let live = some_stays (value_of line.statement old) (value_of line.statement new) (stays.each line.statement)
    kept.1.0 in
    (kept.0, (live, kept.1.1)))

-- ---- where transactions change

-- Where there was a split, there is one that stands in its account, has its quantity, and is not voided if that was not.
pub record SplitSuits (found later : Option Split) : Type 0 where
  pub each : (old : Split) → found ≡ Some old → (new : Split) × (later ≡ Some new) × (new.account ≡ old.account)
      × (new.quantity ≡ old.quantity) × (is_voided old.mark ≡ false → is_voided new.mark ≡ false)

fits_still :
    (line : Line) (found later : Option Split) → SplitSuits found later → IsTrue (fits_line line found)
    → IsTrue (fits_line line later)
fits_still line None later suits fits = absurd cc
fits_still line (Some old) later suits fits =
    let new = suits.each old refl in
    let parts = and_parts (old.account == line.account) _ fits in
    let more = and_parts (int_eq old.quantity line.body.amount) (not (is_voided old.mark)) parts.1 in
    let account = ap (λ (account : ℕ). account == line.account) new.2 ∙ parts.0 in
    let quantity = ap (λ (quantity : ℤ). int_eq quantity line.body.amount) new.3 ∙ more.0 in
    let unvoided = not_from_false _ (new.4 (not-true _ more.1)) in
    ap (fits_line line) new.1 ∙ and_from _ _ account (and_from _ _ quantity unvoided)

-- a line that is matched with a split as its state says still is, where the split suits
pub state_still :
    (old new : List (ℕ × Txn)) (line : Line) (state : LineState)
    → ((split : ℕ) → state ≡ Matched split → SplitSuits (split_at split old) (split_at split new))
    → IsTrue (fits_in_state old line state) → IsTrue (fits_in_state new line state)
state_still old new line Open suits fits = refl
state_still old new line (Matched split) suits fits =
    fits_still line (split_at split old) (split_at split new) (suits split refl) fits
state_still old new line Dismissed suits fits = refl

-- Lines stay sound where the splits that they are matched with stand in their accounts with their quantities as before.
pub lines_matched :
    (accounts : List (ℕ × Account)) (statements : List (ℕ × Held)) (old new : List (ℕ × Txn)) (most : ℕ)
    (lines : List (ℕ × Line))
    → ((k : ℕ) (line : Line) (split : ℕ) → value_of k lines ≡ Some line → line.state ≡ Matched split
    → SplitSuits (split_at split old) (split_at split new))
    → IsSoundTable (line_rules accounts statements old lines) most lines
    → IsSoundTable (line_rules accounts statements new lines) most lines
lines_matched accounts statements old new most lines suits =
    sound_still (line_rules accounts statements old lines) (line_rules accounts statements new lines) most lines
    (λ k line there kept.
    let fits = state_still old new line line.state (λ split is. suits k line split there is) kept.1.1.1.1.0 in
    (kept.0, (kept.1.0, (kept.1.1.0, (kept.1.1.1.0, (fits, kept.1.1.1.1.1))))))

-- the first that is found stays it where others come behind
found_before :
    (n : ℕ) (splits more : List Split) (split : Split) → split_among n splits ≡ Some split
    → split_among n (splits ++ more) ≡ Some split
found_before n [] more split found = absurd cc
found_before n (s ∷ splits) more split found =
    let First : Bool → Type 0 = λ t. cond t (Some s) (split_among n splits) ≡ Some split
    → cond t (Some s) (split_among n (splits ++ more)) ≡ Some split in
    elim (s.id == n) as First [ true ↦ λ here. here | false ↦ λ rest. found_before n splits more split rest ] found

-- a split that was there still is where a transaction is added under a drawn number
pub split_still :
    (n : ℕ) (new : Txn) (ts : List (ℕ × Txn)) (split : ℕ) → All (λ (e : ℕ × Txn). e.0 < n) ts
    → SplitSuits (split_at split ts) (split_at split (with_entry n new ts))
split_still n new ts split below = record {
  each = λ old found.
      let last = ap splits_of (with_last n new ts below) ∙ splits_of-added ts (n, new) in (
        old,
        ap (split_among split) last ∙ found_before split (splits_of ts) new.splits old found,
        refl,
        refl,
        λ unvoided. unvoided,
      );
}

-- Lines stay sound where a transaction is added under a drawn number.
pub lines_posted :
    (accounts : List (ℕ × Account)) (statements : List (ℕ × Held)) (n : ℕ) (new : Txn) (ts : List (ℕ × Txn))
    (most : ℕ) (lines : List (ℕ × Line)) → All (λ (e : ℕ × Txn). e.0 < n) ts
    → IsSoundTable (line_rules accounts statements ts lines) most lines
    → IsSoundTable (line_rules accounts statements (with_entry n new ts) lines) most lines
lines_posted accounts statements n new ts most lines below =
    lines_matched accounts statements ts (with_entry n new ts) most lines
    (λ k line split there matched. split_still n new ts split below)

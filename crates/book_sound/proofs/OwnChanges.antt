-- Tables stay sound where a price, a schedule, a statement, a line, a binding or a reconciliation is put or taken.
use Rattle.std.proofs.Common.{◌≡◌, ◌≢◌, ℕ, ◌<◌, ◌≤◌, ◌==◌, ◌&&◌, ℤ, nat_eq, true, false, All, List, length, Option}
use Rattle.std.proofs.Common.{Some, None, is_some, find, refl, ap, ◌∙◌, arith}
use Rattle.std.specs.Option.{option_eq}
use Rattle.std.specs.Ordering.{int_eq}
use lib.Pointwise.{pointwise}
use Rattle.std.proofs.lemmas.Bool.{not-true, not_from_false}
use Rattle.std.proofs.lemmas.Bool.Decides.{nat_tests}
use Rattle.book_commodity.specs.Currency.{is_currency_of}
use Rattle.book_commodity.specs.Rules.{AllHold, IsSoundTable}
use Rattle.book_commodity.specs.Table.{value_of, with_entry, without_entry}
use Rattle.book_commodity.specs.declared.commodity.Commodity.{Commodity}
use Rattle.book_commodity.proofs.DrawnLemmas.{length_changed}
use Rattle.book_commodity.proofs.RuleLemmas.{none_before_with}
use Rattle.book_commodity.proofs.TableLemmas.{rises_with}
use Rattle.book_accounts.specs.declared.account.Account.{Account}
use Rattle.book_splits.specs.declared.reconciliation.Recon.{Recon}
use Rattle.book_splits.specs.declared.transaction.Txn.{Txn}
use Rattle.book_prices.specs.Rate.{is_same}
use Rattle.book_prices.specs.declared.price.Price.{Price}
use Rattle.book_statement.specs.declared.binding.Binding.{Binding}
use Rattle.book_statement.specs.declared.held.Held.{Held}
use Rattle.book_statement.specs.declared.line.Line.{Line}
use Rattle.book_statement.specs.declared.line_state.LineState.{LineState}
use Rattle.book_statement.specs.declared.line_state.LineState.TheVariants.{Open}
use Rattle.book_undo.specs.declared.schedule.Schedule.{Schedule}
use Rattle.book_sound.specs.BindingRules.{binding_rules, is_same_binding, takes_splits}
use Rattle.book_sound.specs.LineRules.{fits_in_state, has_same_key, is_over_limit, line_rules, matched_split}
use Rattle.book_sound.specs.LineRules.{shares_split}
use Rattle.book_sound.specs.PriceRules.{has_pair, has_ratio, price_rules}
use Rattle.book_sound.specs.ReconciliationRules.{reconciliation_rules}
use Rattle.book_sound.specs.ScheduleRules.{schedule_rules}
use Rattle.book_sound.specs.StatementRules.{is_same_statement, statement_rules}
use Rattle.book_sound.specs.Tests.{is_live}
use Rattle.book_sound.proofs.OwnFrames.{none_of_others, others_again, others_left, others_once, own_again, own_once}
use Rattle.book_sound.proofs.OwnFrames.{sound_with, sound_without}

-- ---- prices

-- The rules of a price but for the one of its pair and day.
pub record IsPrice (commodities : List (ℕ × Commodity)) (price : Price) : Type 0 where
  pub commodity : is_live commodities price.commodity ≡ true
  pub currency : is_currency_of (value_of price.currency commodities) ≡ true
  pub ratio : has_ratio price ≡ true
  pub pair : has_pair price ≡ true

pub prices_put :
    (commodities : List (ℕ × Commodity)) (n : ℕ) (new : Price) (most : ℕ) (prices : List (ℕ × Price))
    → All (λ (e : ℕ × Price). e.0 < n) prices → find (λ (e : ℕ × Price). is_same new e.1) prices ≡ None
    → IsPrice commodities new → length (with_entry n new prices) ≤ most
    → IsSoundTable (price_rules commodities prices) most prices
    → IsSoundTable (price_rules commodities (with_entry n new prices)) most (with_entry n new prices)
prices_put commodities n new most prices below free fit few is =
    let later = with_entry n new prices in
    let own = not_from_false _ (own_once is_same n new prices free) in
    sound_with (price_rules commodities prices) (price_rules commodities later) most n new prices
    (fit.commodity, (fit.currency, (fit.ratio, (fit.pair, (own, tt)))))
    (λ k x other there kept.
    let once = not_from_false _ (others_once is_same n k new x prices below there (not-true _ kept.1.1.1.1.0)) in
    (kept.0, (kept.1.0, (kept.1.1.0, (kept.1.1.1.0, (once, tt))))))
    few is

-- A price of the pair and the day of another.
pub record IsOfPair (old new : Price) : Type 0 where
  pub commodity : new.commodity ≡ old.commodity
  pub currency : new.currency ≡ old.currency
  pub day : new.day ≡ old.day

pair_alike : (old new : Price) → IsOfPair old new → is_same new ≡ is_same old
pair_alike old new is =
    ap (λ (c : ℕ). λ (other : Price). (c == other.commodity) && ((new.currency == other.currency)
    && int_eq new.day other.day)) is.commodity
    ∙ ap (λ (c : ℕ). λ (other : Price). (old.commodity == other.commodity) && ((c == other.currency)
    && int_eq new.day other.day)) is.currency
    ∙ ap (λ (d : ℤ). λ (other : Price). (old.commodity == other.commodity) && ((old.currency == other.currency)
    && int_eq d other.day)) is.day

pair_seen : (old new x : Price) → IsOfPair old new → is_same x new ≡ is_same x old
pair_seen old new x is =
    ap (λ (c : ℕ). (x.commodity == c) && ((x.currency == new.currency) && int_eq x.day new.day)) is.commodity
    ∙ ap (λ (c : ℕ). (x.commodity == old.commodity) && ((x.currency == c) && int_eq x.day new.day)) is.currency
    ∙ ap (λ (d : ℤ). (x.commodity == old.commodity) && ((x.currency == old.currency) && int_eq x.day d)) is.day

pub prices_replaced :
    (commodities : List (ℕ × Commodity)) (n : ℕ) (old new : Price) (most : ℕ) (prices : List (ℕ × Price))
    → value_of n prices ≡ Some old → IsOfPair old new → IsPrice commodities new
    → length (with_entry n new prices) ≤ most
    → IsSoundTable (price_rules commodities prices) most prices
    → IsSoundTable (price_rules commodities (with_entry n new prices)) most (with_entry n new prices)
prices_replaced commodities n old new most prices found same fit few is =
    let later = with_entry n new prices in
    let was = is.keep.each n old found in
    let own = not_from_false _
    (own_again is_same n old new prices (pair_alike old new same) (not-true _ was.1.1.1.1.0)) in
    sound_with (price_rules commodities prices) (price_rules commodities later) most n new prices
    (fit.commodity, (fit.currency, (fit.ratio, (fit.pair, (own, tt)))))
    (λ k x other there kept.
    let once = not_from_false _
    (others_again is_same n k old new x prices (pair_seen old new x same) found (not-true _ kept.1.1.1.1.0)) in
    (kept.0, (kept.1.0, (kept.1.1.0, (kept.1.1.1.0, (once, tt))))))
    few is

pub prices_taken :
    (commodities : List (ℕ × Commodity)) (n most : ℕ) (prices : List (ℕ × Price))
    → IsSoundTable (price_rules commodities prices) most prices
    → IsSoundTable (price_rules commodities (without_entry n prices)) most (without_entry n prices)
prices_taken commodities n most prices =
    sound_without (price_rules commodities prices) (price_rules commodities (without_entry n prices)) most n prices
    (λ k x there kept.
    let once = not_from_false _ (others_left is_same n k x prices (not-true _ kept.1.1.1.1.0)) in
    (kept.0, (kept.1.0, (kept.1.1.0, (kept.1.1.1.0, (once, tt))))))

-- ---- schedules and reconciliations, whose rules look at none of their own

pub schedules_put :
    (commodities : List (ℕ × Commodity)) (accounts : List (ℕ × Account)) (n : ℕ) (new : Schedule) (most : ℕ)
    (schedules : List (ℕ × Schedule)) → AllHold (schedule_rules commodities accounts n new)
    → length (with_entry n new schedules) ≤ most
    → IsSoundTable (schedule_rules commodities accounts) most schedules
    → IsSoundTable (schedule_rules commodities accounts) most (with_entry n new schedules)
schedules_put commodities accounts n new most schedules own few =
    sound_with (schedule_rules commodities accounts) (schedule_rules commodities accounts) most n new schedules own
    (λ k x other there kept. kept) few

pub schedules_taken :
    (commodities : List (ℕ × Commodity)) (accounts : List (ℕ × Account)) (n most : ℕ)
    (schedules : List (ℕ × Schedule)) → IsSoundTable (schedule_rules commodities accounts) most schedules
    → IsSoundTable (schedule_rules commodities accounts) most (without_entry n schedules)
schedules_taken commodities accounts n most schedules =
    sound_without (schedule_rules commodities accounts) (schedule_rules commodities accounts) most n schedules
    (λ k x there kept. kept)

pub reconciliations_put :
    (accounts : List (ℕ × Account)) (n : ℕ) (new : Recon) (most : ℕ) (reconciliations : List (ℕ × Recon))
    → AllHold (reconciliation_rules accounts n new) → length (with_entry n new reconciliations) ≤ most
    → IsSoundTable (reconciliation_rules accounts) most reconciliations
    → IsSoundTable (reconciliation_rules accounts) most (with_entry n new reconciliations)
reconciliations_put accounts n new most reconciliations own few =
    sound_with (reconciliation_rules accounts) (reconciliation_rules accounts) most n new reconciliations own
    (λ k x other there kept. kept) few

-- ---- statements

pub statements_put :
    (accounts : List (ℕ × Account)) (n : ℕ) (new : Held) (most : ℕ) (statements : List (ℕ × Held))
    → All (λ (e : ℕ × Held). e.0 < n) statements
    → find (λ (e : ℕ × Held). is_same_statement new e.1) statements ≡ None
    → is_live accounts new.account ≡ true → length (with_entry n new statements) ≤ most
    → IsSoundTable (statement_rules accounts statements) most statements
    → IsSoundTable (statement_rules accounts (with_entry n new statements)) most (with_entry n new statements)
statements_put accounts n new most statements below free live few is =
    let later = with_entry n new statements in
    let own = not_from_false _ (own_once is_same_statement n new statements free) in
    sound_with (statement_rules accounts statements) (statement_rules accounts later) most n new statements
    (live, (own, tt))
    (λ k x other there kept.
    let once = not_from_false _
    (others_once is_same_statement n k new x statements below there (not-true _ kept.1.0)) in
    (kept.0, (once, tt)))
    few is

-- ---- bindings

pub bindings_put :
    (accounts : List (ℕ × Account)) (n : ℕ) (new : Binding) (most : ℕ) (bindings : List (ℕ × Binding))
    → All (λ (e : ℕ × Binding). e.0 < n) bindings
    → find (λ (e : ℕ × Binding). is_same_binding new e.1) bindings ≡ None
    → takes_splits (value_of new.account accounts) ≡ true → length (with_entry n new bindings) ≤ most
    → IsSoundTable (binding_rules accounts bindings) most bindings
    → IsSoundTable (binding_rules accounts (with_entry n new bindings)) most (with_entry n new bindings)
bindings_put accounts n new most bindings below free takes few is =
    let later = with_entry n new bindings in
    let own = not_from_false _ (own_once is_same_binding n new bindings free) in
    sound_with (binding_rules accounts bindings) (binding_rules accounts later) most n new bindings
    (own, (takes, tt))
    (λ k x other there kept.
    let once = not_from_false _ (others_once is_same_binding n k new x bindings below there (not-true _ kept.0)) in
    (once, kept.1))
    few is

pub bindings_replaced :
    (accounts : List (ℕ × Account)) (n : ℕ) (old new : Binding) (most : ℕ) (bindings : List (ℕ × Binding))
    → value_of n bindings ≡ Some old → new.text ≡ old.text
    → takes_splits (value_of new.account accounts) ≡ true → length (with_entry n new bindings) ≤ most
    → IsSoundTable (binding_rules accounts bindings) most bindings
    → IsSoundTable (binding_rules accounts (with_entry n new bindings)) most (with_entry n new bindings)
bindings_replaced accounts n old new most bindings found same takes few is =
    let later = with_entry n new bindings in
    let was = is.keep.each n old found in
    let alike = ap (λ (text : List ℕ). λ (other : Binding). pointwise nat_eq other.text text) same in
    let own = not_from_false _ (own_again is_same_binding n old new bindings alike (not-true _ was.0)) in
    sound_with (binding_rules accounts bindings) (binding_rules accounts later) most n new bindings
    (own, (takes, tt))
    (λ k x other there kept.
    let seen = ap (λ (text : List ℕ). pointwise nat_eq text x.text) same in
    let once = not_from_false _
    (others_again is_same_binding n k old new x bindings seen found (not-true _ kept.0)) in
    (once, kept.1))
    few is

-- ---- lines

-- an open line shares no split, nor does another share one with it
open_shares_none : (line other : Line) → line.state ≡ Open → shares_split line other ≡ false
open_shares_none line other is =
    ap (λ (state : LineState). is_some (matched_split state)
    && option_eq nat_eq (matched_split other.state) (matched_split state)) is

pub lines_put :
    (accounts : List (ℕ × Account)) (statements : List (ℕ × Held)) (transactions : List (ℕ × Txn)) (n : ℕ)
    (new : Line) (most : ℕ) (lines : List (ℕ × Line))
    → All (λ (e : ℕ × Line). e.0 < n) lines → find (λ (e : ℕ × Line). has_same_key new e.1) lines ≡ None
    → is_live accounts new.account ≡ true → is_live statements new.statement ≡ true
    → is_over_limit new.body.amount ≡ false → new.state ≡ Open
    → length (with_entry n new lines) ≤ most
    → IsSoundTable (line_rules accounts statements transactions lines) most lines
    → IsSoundTable (line_rules accounts statements transactions (with_entry n new lines)) most
    (with_entry n new lines)
lines_put accounts statements transactions n new most lines below free account statement amount is_open few is =
    let later = with_entry n new lines in
    let own = not_from_false _ (own_once has_same_key n new lines free) in
    let fits = ap (fits_in_state transactions new) is_open in
    let unmatched = none_of_others (shares_split new) n later (rises_with n new lines is.rise)
    (λ k x other there. open_shares_none new x is_open) in
    sound_with (line_rules accounts statements transactions lines)
    (line_rules accounts statements transactions later) most n new lines
    (account, (statement, (not_from_false _ amount, (own, (fits, (not_from_false _ unmatched, tt))))))
    (λ k x other there kept.
    let once = not_from_false _ (others_once has_same_key n k new x lines below there (not-true _ kept.1.1.1.0)) in
    let alone = not_from_false _
    (others_once shares_split n k new x lines below there (not-true _ kept.1.1.1.1.1.0)) in
    (kept.0, (kept.1.0, (kept.1.1.0, (once, (kept.1.1.1.1.0, (alone, tt)))))))
    few is

-- sharing goes both ways
both_share :
    (one other : Option ℕ) → (is_some one && option_eq nat_eq other one) ≡ false
    → (is_some other && option_eq nat_eq one other) ≡ false
both_share None None apart = refl
both_share None (Some m) apart = refl
both_share (Some n) None apart = refl
both_share (Some n) (Some m) apart = grind (arith, nat_tests, apart)

-- A line takes another state, as which it fits, and in which no other line is matched with its split.
pub lines_moved :
    (accounts : List (ℕ × Account)) (statements : List (ℕ × Held)) (transactions : List (ℕ × Txn)) (n : ℕ)
    (old : Line) (state : LineState) (most : ℕ) (lines : List (ℕ × Line)) → value_of n lines ≡ Some old
    → fits_in_state transactions old state ≡ true
    → ((k : ℕ) (x : Line) → k ≢ n → value_of k lines ≡ Some x
    → shares_split (record old { state = state }) x ≡ false)
    → IsSoundTable (line_rules accounts statements transactions lines) most lines
    → IsSoundTable
    (line_rules accounts statements transactions (with_entry n (record old { state = state }) lines)) most
    (with_entry n (record old { state = state }) lines)
lines_moved accounts statements transactions n old state most lines found fits apart is =
    let new : Line = record old { state = state } in
    let later = with_entry n new lines in
    let was = is.keep.each n old found in
    let own = not_from_false _ (own_again has_same_key n old new lines refl (not-true _ was.1.1.1.0)) in
    let free = none_before_with (shares_split new) n n new lines (λ before. absurd (omega (arith, before)))
    (none_of_others (shares_split new) n lines is.rise apart) in
    sound_with (line_rules accounts statements transactions lines)
    (line_rules accounts statements transactions later) most n new lines
    (was.0, (was.1.0, (was.1.1.0, (own, (fits, (not_from_false _ free, tt))))))
    (λ k x other there kept.
    let once = not_from_false _
    (others_again has_same_key n k old new x lines refl found (not-true _ kept.1.1.1.0)) in
    let alone = not_from_false _
    (none_before_with (shares_split x) k n new lines
    (λ before. both_share (matched_split state) (matched_split x.state) (apart k x other there))
    (not-true _ kept.1.1.1.1.1.0)) in
    (kept.0, (kept.1.0, (kept.1.1.0, (once, (kept.1.1.1.1.0, (alone, tt)))))))
    (omega (arith, is.few, length_changed n new old lines is.rise found)) is

-- The commands on commodities lead from sound states to sound states: what they put keeps the rules of commodities,
-- since it keeps those of the command.
use Rattle.std.proofs.Common.{◌≡◌, ℕ, ◌+◌, ◌==◌, Bool, true, false, None, subst, arith, if◌then◌else◌}
use Rattle.std.proofs.lemmas.Bool.{not-false}
use Rattle.std.proofs.lemmas.Bool.Decides.{nat_tests}
use Rattle.book_commodity.specs.Rules.{AllKept}
use Rattle.book_commodity.specs.Table.{with_entry}
use Rattle.book_commodity.specs.declared.commodity.Commodity.{Commodity}
use Rattle.book_commodity.proofs.ListLemmas.{mapped_none}
use Rattle.book_commodity.proofs.RuleLemmas.{not-broken}
use Rattle.book_undo.specs.Book.{Book, with_currency, with_thing}
use Rattle.book_step.specs.Commodities.{fraction_shape, name_taken, too_many_commodities, unknown_commodity}
use Rattle.book_step.specs.Commodities.{wrong_currency, book_currency, commodity_add, add_rules, currency_rules}
use Rattle.book_step.specs.Soundness.{IsSoundBook, AreDrawn, IsSound}
use Rattle.book_sound.proofs.BookFrames.{commodity_put, currency_set}
use Rattle.book_sound.proofs.DrawnFrames.{commodity_drawn, currency_drawn, drawn_later}
use Rattle.book_undo.specs.declared.thing.Thing.TheVariants as thing
use Rattle.book_command.specs.declared.answer.Answer.{Answer}
use Rattle.book_command.specs.declared.answer.Answer.TheVariants as answer
use Rattle.book_step.specs.Outcome.{Done, changing, leaving}
use Rattle.book_step.specs.State.{State}
use Rattle.book_step.proofs.SoundOutcome.{changing_done, leaving_done, sound_after}

-- What another currency of the book keeps.
record KeepsCurrency (book : Book) (n : ℕ) : Type 0 where
  pub there : unknown_commodity book.commodities n ≡ None
  pub currency : wrong_currency book.commodities n ≡ None

currency_keeps : (book : Book) (n : ℕ) → AllKept (currency_rules book n) → KeepsCurrency book n
currency_keeps book n kept = record { there = kept.0; currency = kept.1.0 }

-- What a new commodity keeps.
record KeepsAdd (book : Book) (new : Commodity) : Type 0 where
  pub name : name_taken book.commodities new ≡ None
  pub fraction : fraction_shape new ≡ None
  pub few : too_many_commodities book.commodities ≡ None

add_keeps : (book : Book) (new : Commodity) → AllKept (add_rules book new) → KeepsAdd book new
add_keeps book new kept = record { name = kept.0; fraction = kept.1.0; few = kept.1.1.0 }

pub currency_chosen :
    (book : Book) (n : ℕ) → AllKept (currency_rules book n)
    → IsSoundBook book → IsSoundBook (record book { currency = n })
currency_chosen book n kept is =
    currency_set book n (not-false _ (not-broken _ _ (currency_keeps book n kept).currency)) is

pub commodity_added :
    (book : Book) (n : ℕ) (new : Commodity) → AreDrawn book n
    → AllKept (add_rules book new)
    → IsSoundBook book → IsSoundBook (record book { commodities = with_entry n new book.commodities })
commodity_added book n new are kept is =
    let keeps = add_keeps book new kept in
    let few = not-broken _ _ keeps.few in
    commodity_put book n new are (mapped_none _ _ keeps.name) (not-false _ (not-broken _ _ keeps.fraction))
    (grind (arith, nat_tests, few)) is

pub book_currency-sound :
    (state : State) (n : ℕ) (new : State) (answered : Answer) → IsSound state
    → book_currency state n ≡ Done new answered
    → IsSound new
book_currency-sound state n new answered is e =
    let book = state.book in
    let later = with_currency n book in
    let rules = currency_rules book n in
    let Chosen : Bool → Type 0 =
    λ t. (if t then leaving state rules answer.BookCurrency else changing state rules later 0 answer.BookCurrency)
    ≡ Done new answered → IsSound new in
    elim (n == book.currency) as Chosen [
      | true ↦ λ done.
          subst (λ (s : State). IsSound s) (leaving_done state rules answer.BookCurrency new answered done) is
      | false ↦ λ done.
          let change = changing_done state rules later 0 answer.BookCurrency new answered done in
          let drawn = drawn_later book state.next (state.next + 0) (omega arith) is.drawn in
          sound_after state rules later 0 new change (currency_chosen book n change.kept is.book)
          (currency_drawn book n (state.next + 0) drawn)
    ] e

pub commodity_add-sound :
    (state : State) (commodity : Commodity) (new : State) (answered : Answer) → IsSound state
    → commodity_add state commodity ≡ Done new answered
    → IsSound new
commodity_add-sound state commodity new answered is e =
    let book = state.book in
    let later = with_thing state.next (thing.Commodity commodity) book in
    let rules = add_rules book commodity in
    let change = changing_done state rules later 1 (answer.CommodityAdd state.next) new answered e in
    let drawn = drawn_later book state.next (state.next + 1) (omega arith) is.drawn in
    sound_after state rules later 1 new change (commodity_added book state.next commodity is.drawn change.kept is.book)
    (commodity_drawn book state.next (state.next + 1) commodity (omega arith) drawn)

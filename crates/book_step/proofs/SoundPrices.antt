-- Each command on prices leads from a sound state to a sound one.
use Rattle.std.proofs.Common.{◌≡◌, ℕ, ◌+◌, Bool, true, false, not, ◌&&◌, [], ◌∷◌, ◌++◌}
use Rattle.std.proofs.Common.{Option, Some, None, is_none, is_some, refl, arith}
use Rattle.std.proofs.lemmas.Bool.{and_parts}
use Rattle.std.proofs.lemmas.Bool.Decides.{nat_tests}
use Rattle.book_commodity.specs.Rules.{AllKept}
use Rattle.book_commodity.specs.Table.{value_of}
use Rattle.book_commodity.proofs.DrawnLemmas.{drawn_below, length_changed, length_drawn}
use Rattle.book_commodity.proofs.RuleLemmas.{kept_back, kept_front, not-broken}
use Rattle.book_prices.specs.Rate.{is_same}
use Rattle.book_prices.specs.declared.price.Price.{Price}
use Rattle.book_sound.specs.PriceRules.{has_pair, has_ratio}
use Rattle.book_sound.proofs.BookChanges.{price_put, price_replaced, price_taken}
use Rattle.book_sound.proofs.DrawnChanges.{price_drawn, price_left_drawn}
use Rattle.book_sound.proofs.DrawnFrames.{drawn_later}
use Rattle.book_sound.proofs.OwnChanges.{IsPrice}
use Rattle.book_undo.specs.Book.{Book, with_thing, without_thing}
use Rattle.book_undo.specs.declared.thing.Thing.TheVariants as thing
use Rattle.book_undo.specs.declared.thing.ThingKind.TheVariants as kind
use Rattle.book_command.specs.declared.answer.Answer.{Answer}
use Rattle.book_command.specs.declared.answer.Answer.TheVariants as answer
use Rattle.book_step.specs.Commodities.{is_currency_of}
use Rattle.book_step.specs.Outcome.{Done}
use Rattle.book_step.specs.Prices.{has_numbers, price_drop, price_of_day, price_rules, price_set, price_set_at}
use Rattle.book_step.specs.Prices.{too_many_prices, unknown_price}
use Rattle.book_step.specs.Soundness.{IsSound}
use Rattle.book_step.specs.State.{State}
use Rattle.book_command.proofs.RateLemmas.{alike_of}
use Rattle.book_step.proofs.PriceLemmas.{found_there}
use Rattle.book_step.proofs.SoundOutcome.{changing_done, either_sound, sound_after}

not_false : (b : Bool) → not b ≡ false → b ≡ true
not_false true e = refl
not_false false e = absurd cc

some_of : {X : Type 0} (found : Option X) → is_none found ≡ false → is_some found ≡ true
some_of None e = absurd cc
some_of (Some x) e = refl

-- what a price keeps that breaks no rule
price_kept : (book : Book) (price : Price) → AllKept (price_rules book price) → IsPrice book.commodities price
price_kept book price kept =
    let live = not-broken _ _ kept.0 in
    let currency = not-broken _ _ kept.1.1.0 in
    let shape = not-broken _ _ kept.1.1.1.0 in
    let both = and_parts (has_ratio price) (has_pair price) (not_false (has_ratio price && has_pair price) shape) in
    record {
      commodity = some_of (value_of price.commodity book.commodities) live;
      currency = not_false (is_currency_of (value_of price.currency book.commodities)) currency;
      ratio = both.0;
      pair = both.1;
    }

set_at-sound :
    (state : State) (price : Price) (found : Option (ℕ × Price)) (new : State) (answered : Answer)
    → price_of_day state.book.prices price ≡ found → IsSound state
    → price_set_at state price found ≡ Done new answered → IsSound new
set_at-sound state price None new answered there is e =
    let book = state.book in
    let rules = price_rules book price ++ too_many_prices book.prices ∷ [] in
    let later = with_thing state.next (thing.Price price) book in
    let change = changing_done state rules later 1 (answer.PriceSet state.next) new answered e in
    let fit = price_kept book price (kept_front (price_rules book price) (too_many_prices book.prices ∷ []) change.kept) in
    let few = not-broken _ _ (kept_back (price_rules book price) (too_many_prices book.prices ∷ []) change.kept).0 in
    let longer = length_drawn state.next price book.prices is.book.prices.rise is.drawn.prices in
    let drawn = drawn_later book state.next (state.next + 1) (omega arith) is.drawn in
    sound_after state rules later 1 new change
    (price_put book state.next price is.drawn there fit (grind (arith, nat_tests, few, longer)) is.book)
    (price_drawn book state.next (state.next + 1) price (omega arith) drawn)
set_at-sound state price (Some old) new answered there is e =
    let book = state.book in
    let rules = price_rules book price in
    let later = with_thing old.0 (thing.Price price) book in
    let found = found_there (λ entry. is_same price entry.1) book.prices old is.book.prices.rise there in
    let here = found.0 in
    let pair = alike_of price old.1 found.1 in
    let own = drawn_below old.0 state.next old.1 book.prices is.drawn.prices here in
    let drawn = drawn_later book state.next (state.next + 0) (omega arith) is.drawn in
    either_sound (has_numbers old.1 price) state new rules later 0 (answer.PriceSet old.0) (answer.PriceSet old.0)
    answered is
    (λ change.
    sound_after state rules later 0 new change
    (price_replaced book old.0 old.1 price here
    (record { commodity = pair.commodity; currency = pair.currency; day = pair.day })
    (price_kept book price change.kept)
    (omega (arith, is.book.prices.few, length_changed old.0 price old.1 book.prices is.book.prices.rise here)) is.book)
    (price_drawn book old.0 (state.next + 0) price (omega (arith, own)) drawn)) e

pub price_set-sound :
    (state : State) (price : Price) (new : State) (answered : Answer) → IsSound state
    → price_set state price ≡ Done new answered → IsSound new
price_set-sound state price new answered is e =
    set_at-sound state price (price_of_day state.book.prices price) new answered refl is e

pub price_drop-sound :
    (state : State) (n : ℕ) (new : State) (answered : Answer) → IsSound state
    → price_drop state n ≡ Done new answered → IsSound new
price_drop-sound state n new answered is e =
    let book = state.book in
    let rules = unknown_price book.prices n ∷ [] in
    let left = without_thing kind.Price n book in
    let change = changing_done state rules left 0 answer.PriceDrop new answered e in
    let drawn = drawn_later book state.next (state.next + 0) (omega arith) is.drawn in
    sound_after state rules left 0 new change (price_taken book n is.book)
    (price_left_drawn book n (state.next + 0) drawn)

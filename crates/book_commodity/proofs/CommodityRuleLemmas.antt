-- How the rules of commodities stay where a commodity is added, and what of the commodities the rules of other things
-- see.
use Rattle.std.proofs.Common.{◌≡◌, ℕ, ◌<◌, true, All, List, Option, Some, None, find, ap, ◌∙◌, refl}
use Rattle.std.proofs.Common.{arith}
use Rattle.std.proofs.lemmas.Bool.{not-true, not_from_false}
use Rattle.book_commodity.specs.CommodityRules.{commodity_rules, has_fraction, has_same_pair}
use Rattle.book_commodity.specs.Currency.{is_currency_of}
use Rattle.book_commodity.specs.Rules.{EachKeeps}
use Rattle.book_commodity.specs.Table.{with_entry}
use Rattle.book_commodity.specs.declared.commodity.Commodity.{Commodity}
use Rattle.book_commodity.proofs.DrawnLemmas.{drawn_below}
use Rattle.book_commodity.proofs.RuleLemmas.{each_with, none_before, none_before_with}

-- a currency that is there still is
pub currency_stays :
    (found later : Option Commodity) → ((c : Commodity) → found ≡ Some c → later ≡ Some c) → is_currency_of found ≡ true
    → is_currency_of later ≡ true
currency_stays None later same e = absurd cc
currency_stays (Some c) later same e = ap is_currency_of (same c refl) ∙ e

-- a commodity that is added under a drawn number keeps its rules, and the others keep theirs
pub commodities_with :
    (n : ℕ) (new : Commodity) (es : List (ℕ × Commodity)) → All (λ (e : ℕ × Commodity). e.0 < n) es
    → find (λ (e : ℕ × Commodity). has_same_pair new e.1) es ≡ None → has_fraction new ≡ true
    → EachKeeps (commodity_rules es) es → EachKeeps (commodity_rules (with_entry n new es)) (with_entry n new es)
commodities_with n new es below free fraction is =
    let later = with_entry n new es in
    let own = none_before (λ (e : ℕ × Commodity). has_same_pair new e.1) (has_same_pair new) n es
    (λ e before other. other) free in
    each_with (commodity_rules es) (commodity_rules later) n new es (
      not_from_false _ (none_before_with (has_same_pair new) n n new es (λ before. absurd (omega (arith, before)))
          own),
      (fraction, tt),
    )
    (λ k c other there kept.
    let drawn = drawn_below k n c es below there in
    let once = none_before_with (has_same_pair c) k n new es (λ before. absurd (omega (arith, before, drawn)))
    (not-true _ kept.0) in
    (not_from_false _ once, kept.1)) is

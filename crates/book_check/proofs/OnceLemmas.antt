-- The rules of a thing that may stand once, as a walk asks them: those of the thing alone, and then whether it was
-- seen.
use Rattle.std.proofs.Common.{◌≡◌, ℕ, not, Bool, true, false, ◌&&◌, List, [], ◌∷◌, refl, sym, ap, ◌∙◌}
use Rattle.book_commodity.specs.CommodityRules.{commodity_rules, has_fraction, has_same_pair}
use Rattle.book_commodity.specs.Currency.{is_currency_of}
use Rattle.book_commodity.specs.Rules.{stands_before}
use Rattle.book_commodity.specs.Table.{value_of}
use Rattle.book_commodity.specs.declared.commodity.Commodity.{Commodity}
use Rattle.book_accounts.specs.declared.account.Account.{Account}
use Rattle.book_prices.specs.Rate.{is_same}
use Rattle.book_prices.specs.declared.price.Price.{Price}
use Rattle.book_statement.specs.declared.binding.Binding.{Binding}
use Rattle.book_statement.specs.declared.held.Held.{Held}
use Rattle.book_sound.specs.BindingRules.{binding_rules, is_same_binding, takes_splits}
use Rattle.book_sound.specs.PriceRules.{has_pair, has_ratio, price_rules}
use Rattle.book_sound.specs.StatementRules.{is_same_statement, statement_rules}
use Rattle.book_sound.specs.Tests.{is_live}
use Rattle.book_check.specs.FirstUnsound.{all_hold}

first_last : (s a : Bool) → (not s && (a && true)) ≡ (a && not s)
first_last true true = refl
first_last true false = refl
first_last false true = refl
first_last false false = refl

last_alone : (a s : Bool) → (a && (not s && true)) ≡ (a && not s)
last_alone true true = refl
last_alone true false = refl
last_alone false s = refl

last_of_five :
    (a b c d s : Bool)
    → (a && (b && (c && (d && (not s && true))))) ≡ ((a && (b && (c && (d && true)))) && not s)
last_of_five false b c d s = refl
last_of_five true false c d s = refl
last_of_five true true false d s = refl
last_of_five true true true false s = refl
last_of_five true true true true true = refl
last_of_five true true true true false = refl

pub commodity_asked :
    (es : List (ℕ × Commodity)) (n : ℕ) (commodity : Commodity) (kept : Bool) → kept ≡ has_fraction commodity
    → all_hold (commodity_rules es n commodity) ≡ (kept && not (stands_before (has_same_pair commodity) n es))
commodity_asked es n commodity kept is =
    first_last (stands_before (has_same_pair commodity) n es) (has_fraction commodity)
    ∙ ap (λ b. b && not (stands_before (has_same_pair commodity) n es)) (sym is)

pub price_asked :
    (commodities : List (ℕ × Commodity)) (es : List (ℕ × Price)) (n : ℕ) (price : Price) (kept : Bool)
    → kept ≡ all_hold (is_live commodities price.commodity ∷ is_currency_of (value_of price.currency commodities)
    ∷ has_ratio price ∷ has_pair price ∷ [])
    → all_hold (price_rules commodities es n price) ≡ (kept && not (stands_before (is_same price) n es))
price_asked commodities es n price kept is =
    last_of_five (is_live commodities price.commodity) (is_currency_of (value_of price.currency commodities))
    (has_ratio price) (has_pair price) (stands_before (is_same price) n es)
    ∙ ap (λ b. b && not (stands_before (is_same price) n es)) (sym is)

pub statement_asked :
    (accounts : List (ℕ × Account)) (es : List (ℕ × Held)) (n : ℕ) (statement : Held) (kept : Bool)
    → kept ≡ is_live accounts statement.account
    → all_hold (statement_rules accounts es n statement)
    ≡ (kept && not (stands_before (is_same_statement statement) n es))
statement_asked accounts es n statement kept is =
    last_alone (is_live accounts statement.account) (stands_before (is_same_statement statement) n es)
    ∙ ap (λ b. b && not (stands_before (is_same_statement statement) n es)) (sym is)

pub binding_asked :
    (accounts : List (ℕ × Account)) (es : List (ℕ × Binding)) (n : ℕ) (binding : Binding) (kept : Bool)
    → kept ≡ takes_splits (value_of binding.account accounts)
    → all_hold (binding_rules accounts es n binding) ≡ (kept && not (stands_before (is_same_binding binding) n es))
binding_asked accounts es n binding kept is =
    first_last (stands_before (is_same_binding binding) n es) (takes_splits (value_of binding.account accounts))
    ∙ ap (λ b. b && not (stands_before (is_same_binding binding) n es)) (sym is)

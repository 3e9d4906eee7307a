use Rattle.std.proofs.Common.{ℕ, List, [], ◌∷◌, ◌++◌, ap, map, ◌∙◌}
use Rattle.book_prices.specs.declared.price.Price.{Price}
use Rattle.book_listings.specs.Commodities.{price_row}
use Rattle.book_listings.proofs.commodities.price_rows.Goals as goal

pub returns : goal.returns
returns c =
    c.in_ok-add_prices.ensures
    ∙ ap (λ (prices : List (ℕ × Price)). c.push.new.self ++ map (price_row c.args.book.now) prices) c.prices.ensures
    ∙ ap (λ (rows : List (List (List ℕ))). rows ++ map (price_row c.args.book.now) c.args.book.now.prices)
    (c.in_ok-push.ensures.added
    ∙ ap (λ (rows : List (List (List ℕ))). rows ++ c.in_ok-row_of.field-0 ∷ []) c.new-rows.ensures
    ∙ ap (λ (row : List (List ℕ)). row ∷ []) c.in_ok-row_of.ensures)

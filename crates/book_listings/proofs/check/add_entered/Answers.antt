use Rattle.std.proofs.Common.{◌≡◌, ℕ, ◌∙◌, append-nil, ap, codes, length, sym}
use Rattle.book_splits.specs.Balance.{splits_of}
use Rattle.book_undo.specs.Book.{Book}
use Rattle.book_listings.specs.Check.{count_row}
use Rattle.book_listings.proofs.RowLemmas.{put}
use Rattle.book_listings.proofs.check.add_entered.Goals as goal

-- each row is that of the book
pub returns : goal.returns
returns c =
    let is = c.plain-plain.ensures in
    let accounts_row : c.in_ok-count_row.field-0 ≡ count_row (length c.args.book.now.accounts) (codes "accounts") =
    c.in_ok-count_row.ensures ∙ ap (λ (n : ℕ). count_row n (codes "accounts")) (c.len.ensures.len ∙ ap (λ (b : Book). length b.accounts) is) in
    let to_accounts = put c.args.rows.now _ _ _ _ _ (sym (append-nil c.args.rows.now)) accounts_row c.in_ok-push.ensures.added in
    let commodities_row : c.in_ok-count_row-2.field-0 ≡ count_row (length c.args.book.now.commodities) (codes "commodities") =
    c.in_ok-count_row-2.ensures ∙ ap (λ (n : ℕ). count_row n (codes "commodities")) (c.len-2.ensures.len ∙ ap (λ (b : Book). length b.commodities) is) in
    let to_commodities = put c.args.rows.now _ _ _ _ _ to_accounts commodities_row c.in_ok-push-2.ensures.added in
    let transactions_row : c.in_ok-count_row-3.field-0 ≡ count_row (length c.args.book.now.transactions) (codes "transactions") =
    c.in_ok-count_row-3.ensures ∙ ap (λ (n : ℕ). count_row n (codes "transactions")) (c.len-3.ensures.len ∙ ap (λ (b : Book). length b.transactions) is) in
    let to_transactions = put c.args.rows.now _ _ _ _ _ to_commodities transactions_row c.in_ok-push-3.ensures.added in
    let splits_row : c.in_ok-count_row-4.field-0 ≡ count_row (length (splits_of c.args.book.now.transactions)) (codes "splits") =
    c.in_ok-count_row-4.ensures ∙ ap (λ (n : ℕ). count_row n (codes "splits")) (c.split_count-splits.ensures) in
    let to_splits = put c.args.rows.now _ _ _ _ _ to_transactions splits_row c.in_ok-push-4.ensures.added in
    let prices_row : c.in_ok-count_row-5.field-0 ≡ count_row (length c.args.book.now.prices) (codes "prices") =
    c.in_ok-count_row-5.ensures ∙ ap (λ (n : ℕ). count_row n (codes "prices")) (c.len-4.ensures.len ∙ ap (λ (b : Book). length b.prices) is) in
    let to_prices = put c.args.rows.now _ _ _ _ _ to_splits prices_row c.in_ok-push-5.ensures.added in
    let schedules_row : c.in_ok-count_row-6.field-0 ≡ count_row (length c.args.book.now.schedules) (codes "schedules") =
    c.in_ok-count_row-6.ensures ∙ ap (λ (n : ℕ). count_row n (codes "schedules")) (c.len-5.ensures.len ∙ ap (λ (b : Book). length b.schedules) is) in
    put c.args.rows.now _ _ _ _ _ to_prices schedules_row c.in_ok-push-6.ensures.added

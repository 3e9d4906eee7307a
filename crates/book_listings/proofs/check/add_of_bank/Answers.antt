use Rattle.std.proofs.Common.{◌≡◌, ℕ, ◌∙◌, append-nil, ap, codes, length, sym}
use Rattle.book_undo.specs.Book.{Book}
use Rattle.book_listings.specs.Check.{count_row}
use Rattle.book_listings.proofs.RowLemmas.{put}
use Rattle.book_listings.proofs.check.add_of_bank.Goals as goal

-- each row is that of the book
pub returns : goal.returns
returns c =
    let is = c.plain-plain.ensures in
    let statements_row : c.in_ok-count_row.field-0 ≡ count_row (length c.args.book.now.statements) (codes "statements") =
    c.in_ok-count_row.ensures ∙ ap (λ (n : ℕ). count_row n (codes "statements")) (c.len.ensures.len ∙ ap (λ (b : Book). length b.statements) is) in
    let to_statements = put c.args.rows.now _ _ _ _ _ (sym (append-nil c.args.rows.now)) statements_row c.in_ok-push.ensures.added in
    let lines_row : c.in_ok-count_row-2.field-0 ≡ count_row (length c.args.book.now.lines) (codes "lines of statements") =
    c.in_ok-count_row-2.ensures ∙ ap (λ (n : ℕ). count_row n (codes "lines of statements")) (c.len-2.ensures.len ∙ ap (λ (b : Book). length b.lines) is) in
    let to_lines = put c.args.rows.now _ _ _ _ _ to_statements lines_row c.in_ok-push-2.ensures.added in
    let bindings_row : c.in_ok-count_row-3.field-0 ≡ count_row (length c.args.book.now.bindings) (codes "bindings") =
    c.in_ok-count_row-3.ensures ∙ ap (λ (n : ℕ). count_row n (codes "bindings")) (c.len-3.ensures.len ∙ ap (λ (b : Book). length b.bindings) is) in
    let to_bindings = put c.args.rows.now _ _ _ _ _ to_lines bindings_row c.in_ok-push-3.ensures.added in
    let reconciliations_row : c.in_ok-count_row-4.field-0 ≡ count_row (length c.args.book.now.reconciliations) (codes "reconciliations") =
    c.in_ok-count_row-4.ensures ∙ ap (λ (n : ℕ). count_row n (codes "reconciliations")) (c.len-4.ensures.len ∙ ap (λ (b : Book). length b.reconciliations) is) in
    put c.args.rows.now _ _ _ _ _ to_bindings reconciliations_row c.in_ok-push-4.ensures.added

use Rattle.std.proofs.Common.{◌≡◌, ℕ, List, [], ◌∷◌, ◌++◌, ap, ◌∙◌, subst}
use Rattle.std.proofs.lemmas.Result.{IfOk-weaker}
use Rattle.book_undo.specs.declared.schedule.Schedule.{Schedule}
use Rattle.book_listings.specs.Schedules.{AreRows, columns, sides}
use Rattle.book_table.specs.Columns.{table_text}
use Rattle.book_listings.proofs.schedules.schedules_text.Goals as goal

-- the rows are those that were added behind the names of the columns
pub returns : goal.returns
returns c =
    let form = c.args.form in
    let it = c.in_ok-add_schedules.ensures in
    let head = c.in_ok-push.ensures.added
    ∙ ap (λ (l : List (List (List ℕ))). l ++ c.in_ok-columns.field-0 ∷ []) c.new-rows.ensures
    ∙ ap (λ (row : List (List ℕ)). row ∷ []) c.in_ok-columns.ensures in
    let all : c.as_slice.result.now ≡ columns form ∷ it.0 =
    c.as_slice.ensures ∙ it.1 ∙ ap (λ (l : List (List (List ℕ))). l ++ it.0) head in
    IfOk-weaker c.table_text.result _ _
    (λ text is. record {
      rows = it.0;
      of_all = subst (λ (s : List (ℕ × Schedule)). AreRows form c.args.book.now s it.0) c.schedules.ensures.schedules it.2;
      are = is ∙ ap (table_text form sides) all;
    }) c.table_text.ensures

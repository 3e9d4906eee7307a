use Rattle.std.proofs.Common.{◌≡◌, ℕ, ◌||◌, Bool, List, false, ap, sym, ◌∙◌}
use Rattle.std.specs.List.{list_any}
use Rattle.std.proofs.lemmas.Result.{IfOk-weaker}
use Rattle.book_splits.specs.declared.split.Split.{Split}
use Rattle.book_listings.specs.Find.{folded, has_reason, holds}
use Rattle.book_listings.proofs.find.has_part.Goals as goal

-- neither the num nor the description nor the reason has the part
pub returns : goal.returns
returns c =
    let part = c.args.part.now in
    let transaction = c.args.transaction.now in
    let in_text : List ℕ → Bool = λ text. holds part (folded text) in
    let in_memos : List Split → Bool = λ splits. list_any (λ split. holds part (folded split.memo)) splits in
    let not_num : in_text transaction.num ≡ false =
    ap in_text (sym c.as_str.ensures) ∙ sym c.in_ok-holds.ensures ∙ c.if-branch.false in
    let not_described : in_text transaction.description ≡ false =
    ap in_text (sym c.as_str-2.ensures) ∙ sym c.in_ok-holds-2.ensures ∙ c.if-branch-2.false in
    let no_reason : has_reason part transaction.voided ≡ false =
    sym c.in_ok-has_reason.ensures ∙ c.if-branch-3.false in
    IfOk-weaker c.has_memo.result _ _
    (λ has is. is ∙ ap in_memos c.as_slice.ensures
    ∙ sym (ap (λ (t : Bool). t || (in_text transaction.description
    || (has_reason part transaction.voided || in_memos transaction.splits))) not_num
    ∙ ap (λ (t : Bool). t || (has_reason part transaction.voided || in_memos transaction.splits)) not_described
    ∙ ap (λ (t : Bool). t || in_memos transaction.splits) no_reason))
    c.has_memo.ensures

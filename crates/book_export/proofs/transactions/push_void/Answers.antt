use Rattle.std.proofs.Common.{ℕ, ◌++◌, List, [], ◌∷◌, codes, append_assoc, ap, sym, ◌∙◌, Option}
use Rattle.book_splits.specs.declared.void.Void.{Void}
use Rattle.book_export.specs.Entries.{void_line}
use Rattle.book_export.specs.Texts.{shown}
use Rattle.book_export.specs.declared.texts.Place.TheVariants.{Memo}
use Rattle.book_export.proofs.transactions.push_void.Goals as goal

pub returns : goal.returns
unfolding void_line
returns c =
    let old = c.args.out.now.items in
    let start = codes "    ; voided : " in
    let reason = shown Memo c.in-Some.void.reason in
    let said = c.as_bytes.ensures.value ∙ c.as_str.ensures in
    c.in_ok-push.ensures.items
    ∙ ap (λ (l : List ℕ). l ++ 10 ∷ [])
    (c.in_ok-push_shown.ensures
    ∙ ap (λ (l : List ℕ). l ++ shown Memo c.as_bytes.result.now) c.in_ok-extend_from_slice.ensures.items
    ∙ ap (λ (text : List ℕ). (old ++ start) ++ shown Memo text) said)
    ∙ append_assoc (old ++ start) reason (10 ∷ []) ∙ append_assoc old start (reason ++ 10 ∷ [])
    ∙ ap (λ (voided : Option Void). old ++ void_line voided) (sym c.in-Some.is)

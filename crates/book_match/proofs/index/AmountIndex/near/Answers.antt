use Rattle.std.proofs.Common.{◌≡◌, FitsSigned, ℤ, List, filter, rules, ap, ◌∙◌, to_z, of_z, w64}
use Rattle.std.proofs.lemmas.Int.{to_z-of_z}
use Rattle.std.proofs.lemmas.Result.{IfOk-weaker}
use Rattle.book_match.specs.AmountIndex.{Index}
use Rattle.book_match.specs.Bounds.{is_near}
use Rattle.book_match.specs.declared.free.Free.{Free}
use Rattle.book_match.proofs.IndexLemmas.{near-is, near-within, parted-past_days, parted-under_days}
use Rattle.book_match.proofs.index.AmountIndex.near.Goals as goal

pub cut-start-requires : goal.cut-start-requires
cut-start-requires c =
    parted-under_days c.args.account (to_z w64 (of_z w64 c.args.amount)) c.args.day c.args.window
    c.self.inside.entries.list c.self.invariant

pub cut-end-requires : goal.cut-end-requires
cut-end-requires c =
    parted-past_days c.args.account (to_z w64 (of_z w64 c.args.amount)) c.args.day c.args.window
    c.self.inside.entries.list c.self.invariant

pub copied-requires-clause-order : goal.copied-requires-clause-order
copied-requires-clause-order c =
    near-within c.args.account (to_z w64 (of_z w64 c.args.amount)) c.args.day c.args.window c.self.inside.entries.list
    c.cut-start.result c.cut-end.result c.cut-start.ensures.cut c.cut-end.ensures.cut

pub returns : goal.returns
returns c =
    let es : List Free = c.self.inside.entries.list in
    let seen : es ≡ c.args.self.now.entries = ap (λ (i : Index). i.entries) c.self.view_is in
    let fits : FitsSigned w64 c.args.amount = search rules in
    let same : to_z w64 (of_z w64 c.args.amount) ≡ c.args.amount = to_z-of_z w64 c.args.amount fits in
    IfOk-weaker c.copied.result _ _
    (λ v is. is ∙ near-is c.args.account (to_z w64 (of_z w64 c.args.amount)) c.args.day c.args.window es c.cut-start.result
    c.cut-end.result c.cut-start.ensures.cut c.cut-end.ensures.cut ∙ ap (λ (z : ℤ). filter (is_near c.args.account z c.args.day c.args.window) es) same
    ∙ ap (filter (is_near c.args.account c.args.amount c.args.day c.args.window)) seen) c.copied.ensures

use Rattle.std.proofs.Common.{◌≡◌, [], ◌∷◌, ◌++◌, sym, ap, ◌∙◌}
use Rattle.book_statement.specs.Lists.{on_last}
use Rattle.qif_read.specs.Steps.{with_memo}
use Rattle.qif_read.specs.declared.split.SplitSaid.{SplitSaid}
use Rattle.qif_read.proofs.PushLemmas.{on_last_push}
use Rattle.qif_read.proofs.splits.Splits.add_memo.Goals as goal

pub returns : goal.returns
returns c =
    let was : c.args.self.now ≡ c.pop.new.self.items ++ c.in-Some.split ∷ [] = sym c.self.view_is
    ∙ c.in-Some.ensures.items in
    let is : c.push.new.self.items ≡ c.pop.new.self.items ++ c.in_ok-with_memo.field-0 ∷
    [] = c.in_ok-push.ensures.items in
    is
    ∙ ap (λ (s : SplitSaid). c.pop.new.self.items ++ s ∷ []) c.in_ok-with_memo.ensures
    ∙ sym (ap (on_last (with_memo c.args.text.now)) was
    ∙ on_last_push (with_memo c.args.text.now) c.pop.new.self.items c.in-Some.split)

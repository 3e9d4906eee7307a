use Rattle.std.proofs.Common.{◌≡◌, [], ◌∷◌, ◌++◌, sym, ap, ◌∙◌, arith, to_z, of_z, w64}
use Rattle.std.proofs.lemmas.Int.{ints}
use Rattle.book_statement.specs.Lists.{on_last}
use Rattle.qif_read.specs.Steps.{with_amount}
use Rattle.qif_read.specs.declared.split.SplitSaid.{SplitSaid}
use Rattle.qif_read.proofs.PushLemmas.{on_last_push}
use Rattle.qif_read.proofs.splits.Splits.add_amount.Goals as goal

pub returns : goal.returns
returns c =
    let was : c.args.self.now ≡ c.pop.new.self.items ++ c.in-Some.split ∷ [] = sym c.self.view_is
    ∙ c.in-Some.ensures.items in
    let is : c.push.new.self.items ≡ c.pop.new.self.items ++ c.with_amount.result ∷ [] = c.in_ok-push.ensures.items in
    let back : to_z w64 (of_z w64 c.args.amount) ≡ c.args.amount = omega (arith, ints) in
    is
    ∙ ap (λ (s : SplitSaid). c.pop.new.self.items ++ s ∷ [])
    (c.with_amount.ensures ∙ ap (λ amount. with_amount amount c.in-Some.split) back)
    ∙ sym (ap (on_last (with_amount c.args.amount)) was
    ∙ on_last_push (with_amount c.args.amount) c.pop.new.self.items c.in-Some.split)

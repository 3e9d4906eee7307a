use Rattle.std.proofs.Common.{◌≡◌, ℕ, ◌+ℤ◌, [], ◌∷◌, ◌+◌, ℤ, take, sym, ap, subst, ◌∙◌, arith, rules}
use Rattle.std.proofs.lemmas.List.{length-take-le, take_all}
use Rattle.std.proofs.lemmas.List.Elements.{All-take}
use Rattle.book_commodity.proofs.ListLemmas.{take-item}
use Rattle.book_sound.proofs.SoundFacts.{IsAtMost}
use Rattle.book_splits.specs.Balance.{quantity_on}
use Rattle.book_splits.specs.Check.{HasAmounts}
use Rattle.book_balances.specs.Balances.{largest_move, moved}
use Rattle.book_balances.proofs.MoveLemmas.{given_small, moved_more}
use Rattle.book_balances.proofs.moves.Moves.of.Goals as goal

pub add_split-requires : goal.add_split-requires
add_split-requires c =
    let splits = c.args.splits.now in
    let i = c.loop-split.split-index in
    let account = c.split-item.result.account in
    subst (λ (z : ℤ). IsAtMost largest_move z) (sym (c.loop-split.invariant account))
    (given_small account (take i splits) (All-take HasAmounts i splits c.requires.small)
    (omega (arith, length-take-le i splits (omega (arith, c.loop-split-test.true)), c.requires.few, c.loop-split-test.true)))

pub loop-split-preserved : goal.loop-split-preserved
loop-split-preserved c =
    let splits = c.args.splits.now in
    let i = c.loop-split.split-index in
    let more : (a : ℕ) → moved a c.add_split.new.self.sums.entries
    ≡ moved a c.loop-split.moves.sums.entries +ℤ quantity_on a (c.split-item.result ∷ []) = search rules in
    moved_more (take i splits) c.split-item.result (take (i + 1) splits) c.loop-split.moves.sums.entries
    c.add_split.new.self.sums.entries (take-item splits i c.split-item.result c.loop-split-test.true c.split-item.is)
    c.loop-split.invariant more

pub returns : goal.returns
returns c = λ account.
    c.loop-split.invariant account
    ∙ ap (quantity_on account) (take_all c.loop-split.split-index c.args.splits.now c.loop-split-test.false)

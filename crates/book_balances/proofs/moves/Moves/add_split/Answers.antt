use Rattle.std.proofs.Common.{◌≡◌, true, false, sym, ◌∙◌, arith, rules}
use Rattle.std.proofs.lemmas.Bool.{not-false, not-true}
use Rattle.std.proofs.lemmas.Bool.Decides.{nat_tests}
use Rattle.book_balances.specs.Balances.{IsMoved, moved}
use Rattle.book_balances.proofs.MoveLemmas.{split_adds, voided_adds}
use Rattle.book_balances.proofs.moves.Moves.add_split.Goals as goal

pub returns-then-not-counts : goal.returns-then-not-counts
returns-then-not-counts c = λ account.
    let no : c.counts.result ≡ false = (let test = c.if-not-counts.true in grind (arith, nat_tests, test)) in
    voided_adds account c.args.split.now (moved account c.args.self.now.sums.entries)
    (not-false _ (sym c.counts.ensures ∙ no))

pub returns : goal.returns
returns c = λ account.
    let yes : c.counts.result ≡ true = (let test = c.if-not-counts.false in grind (arith, nat_tests, test)) in
    let more : IsMoved c.args.split.now.account c.args.split.now.quantity c.args.self.now.sums.entries
    c.add.new.self.sums.entries = search rules in
    split_adds account c.args.split.now c.args.self.now.sums.entries c.add.new.self.sums.entries
    (not-true _ (sym c.counts.ensures ∙ yes)) more

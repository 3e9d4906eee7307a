use Rattle.std.proofs.Common.{◌≡◌, ℤ, ◌+ℤ◌, ◌-ℤ◌, ◌++◌, ◌∷◌, [], FitsSigned, sym, ap, subst, ◌∙◌, rules}
use Rattle.std.specs.Option.{option_copied}
use mir.Syntax.{w128}
use Rattle.std.proofs.lemmas.Int.{to_z-of_z}
use Rattle.book_commodity.specs.Table.{with_entry}
use Rattle.book_sound.proofs.SoundFacts.{IsAtMost, sums_are_small, tables_rise}
use Rattle.book_splits.specs.Balance.{counts_on, quantity_on, splits_of}
use Rattle.book_splits.specs.declared.split.Split.{Split}
use Rattle.book_undo.specs.Book.{book_of}
use Rattle.book_limits.specs.Limits.{largest_sum}
use Rattle.book_balances.specs.Balances.{given, largest_move}
use Rattle.book_balances.proofs.MoveLemmas.{balance_moved, balances_more, form_small, given_small, old_form}
use Rattle.book_balances.proofs.balances.balances_after.Goals as goal

pub given_by-requires : goal.given_by-requires
given_by-requires c =
    old_form (book_of c.args.plain.now) c.args.number (option_copied c.find.result) c.requires.sound c.find.ensures

pub moved_balance-requires-clause-balance : goal.moved_balance-requires-clause-balance
moved_balance-requires-clause-balance c =
    let book = book_of c.args.plain.now in
    let account = c.split-item.result.account in
    let fits : FitsSigned w128 c.balance-balance.result = search rules in
    subst (λ (z : ℤ). IsAtMost largest_sum z)
    (sym (to_z-of_z w128 c.balance-balance.result fits ∙ c.balance-balance.ensures book c.requires.kept))
    (sums_are_small book (counts_on account) c.requires.sound)

pub moved_balance-requires-clause-lost : goal.moved_balance-requires-clause-lost
moved_balance-requires-clause-lost c =
    let book = book_of c.args.plain.now in
    let account = c.split-item.result.account in
    let old = option_copied c.find.result in
    let fits : FitsSigned w128 c.to.result = search rules in
    subst (λ (z : ℤ). IsAtMost largest_move z)
    (sym (to_z-of_z w128 c.to.result fits ∙ c.to.ensures ∙ c.in_ok-lost.ensures account))
    (form_small account old (old_form book c.args.number old c.requires.sound c.find.ensures))

pub moved_balance-requires-clause-gained : goal.moved_balance-requires-clause-gained
moved_balance-requires-clause-gained c =
    let account = c.split-item.result.account in
    let fits : FitsSigned w128 c.to-in-loop-split.result = search rules in
    subst (λ (z : ℤ). IsAtMost largest_move z)
    (sym (to_z-of_z w128 c.to-in-loop-split.result fits ∙ c.to-in-loop-split.ensures ∙ c.in_ok-gained.ensures account
    ∙ ap (quantity_on account) c.as_slice-splits.ensures))
    (given_small account c.args.transaction.now.splits c.requires.form.amounts c.requires.form.few)

pub loop-split-preserved : goal.loop-split-preserved
loop-split-preserved c =
    let book = book_of c.args.plain.now in
    let account = c.split-item.result.account in
    let later = with_entry c.args.number c.args.transaction.now book.transactions in
    let value : c.moved_balance.result ≡ (c.balance-balance.result -ℤ c.to.result) +ℤ c.to-in-loop-split.result = search rules in
    let pushed : c.push.new.self.items ≡ c.loop-split.balances.items ++ c.moved_balance.result ∷ [] = search rules in
    pushed
    ∙ balances_more (λ (s : Split). quantity_on s.account (splits_of later)) c.loop-split.balances.items
    c.moved_balance.result _ c.loop-split.split-index c.split-item.result c.loop-split.invariant
    (value
    ∙ balance_moved account c.args.number c.args.transaction.now book.transactions c.balance-balance.result c.to.result
    c.to-in-loop-split.result (tables_rise book c.requires.sound).transactions (c.balance-balance.ensures book c.requires.kept)
    (c.to.ensures ∙ c.in_ok-lost.ensures account ∙ ap (given account) c.find.ensures)
    (c.to-in-loop-split.ensures ∙ c.in_ok-gained.ensures account
    ∙ ap (quantity_on account) c.as_slice-splits.ensures))
    c.loop-split-test.true c.split-item.is

use Rattle.std.proofs.Common.{◌≡◌, rules, Some}
use Rattle.book_splits.specs.Check.{txn_rules}
use Rattle.book_commodity.specs.Rules.{ReportsFirst, first_broken}
use Rattle.book_splits.proofs.CheckLemmas.{first-of_txn, reports-balance, sound-kept}
use Rattle.book_splits.proofs.check.check_txn.Goals as goal

pub returns-in_err-check_splits-clause-first_rule :
    goal.returns-in_err-check_splits-clause-first_rule
returns-in_err-check_splits-clause-first_rule c =
    let first : first_broken (txn_rules c.args.commodities.now.entries c.args.accounts.now.entries c.args.txn.now)
    ≡ Some c.in_err-check_splits.field-0.0 =
    first-of_txn c.args.commodities.now.entries c.args.accounts.now.entries c.args.txn.now
    c.as_slice-splits.result.now c.in_err-check_splits.field-0.0
    c.as_slice-splits.ensures c.in_ok-check_count.ensures c.in_ok-check_currency.ensures
    c.in_err-check_splits.ensures in
    search rules

reported : (c : goal.After-check_balance)
    → ReportsFirst (txn_rules c.args.commodities.now.entries c.args.accounts.now.entries c.args.txn.now)
    c.check_balance.result
reported c =
    reports-balance c.args.commodities.now.entries c.args.accounts.now.entries c.args.txn.now
    c.as_slice-splits.result.now c.check_balance.result
    c.as_slice-splits.ensures c.in_ok-check_count.ensures c.in_ok-check_currency.ensures
    c.in_ok-check_splits.ensures c.check_balance.ensures

pub returns-clause-first_rule : goal.returns-clause-first_rule
returns-clause-first_rule c = reported c

pub returns-clause-sound : goal.returns-clause-sound
returns-clause-sound c = sound-kept c.args.commodities.now.entries c.args.accounts.now.entries c.args.txn.now
    c.check_balance.result (reported c)

-- An account that is kept alone is kept where its key was not seen.
use Rattle.std.proofs.Common.{◌&&◌, Bool, not, false, refl, sym, ap, ◌∙◌}
use Rattle.book_commodity.specs.Rules.{stands_before}
use Rattle.book_accounts.specs.AccountRules.{account_rules, has_same_name}
use Rattle.book_check.specs.Keys.{account_keys}
use Rattle.book_check.proofs.AccountLemmas.{account_asked}
use Rattle.book_check.proofs.KeyLemmas.{account_ties}
use Rattle.book_check.proofs.SeenLemmas.{kept_alone, once}
use Rattle.book_check.proofs.accounts.AccountWalkChecked.keeps.Goals as goal

pub returns-then-not-keeps_rules-clause-kept : goal.returns-then-not-keeps_rules-clause-kept
returns-then-not-keeps_rules-clause-kept c =
    let commodities = c.args.self.now.commodities.now.entries in
    let accounts = c.args.self.now.accounts.now.entries in
    let account = c.value_at-account.result.now in
    kept_alone (account_rules commodities accounts) accounts c.args.place account false c.value_at-account.ensures
    (λ n there. sym (account_asked commodities accounts c.args.place n c.number_at-number.result account
    c.keeps_rules.result c.keeps_rules.ensures c.number_at-number.ensures there
    ∙ ap (λ (b : Bool). b && not (stands_before (has_same_name account) n accounts)) c.if-not-keeps_rules.true))

pub returns : goal.returns
returns c =
    let commodities = c.args.self.now.commodities.now.entries in
    let accounts = c.args.self.now.accounts.now.entries in
    let account = c.value_at-account.result.now in
    let kept = once account_keys account_ties (account_rules commodities accounts) accounts c.args.place account
    c.key_of.result c.args.self.now.keys c.insert.new.self c.keeps_rules.result c.in_ok-is_taken.is_taken
    c.requires.rises c.value_at-account.ensures c.key_of.ensures c.requires.known c.if-not-keeps_rules.false
    (λ n there. account_asked commodities accounts c.args.place n c.number_at-number.result account c.keeps_rules.result
    c.keeps_rules.ensures c.number_at-number.ensures there)
    c.in_ok-is_taken.ensures.before c.in_ok-is_taken.ensures.adds in
    record { kept = kept.0; known = kept.1; same_entries = refl; same_rules = refl }

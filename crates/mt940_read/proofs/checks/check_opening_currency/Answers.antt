use Rattle.std.proofs.Common.{◌≡◌, Some, is_some, sym, ap, ◌∙◌, arith, to_z, of_z, w64}
use Rattle.std.specs.Prelude.{unwrap_or}
use Rattle.std.proofs.lemmas.Int.{ints}
use Rattle.book_statement.specs.Checks.{first_bad}
use Rattle.book_statement.specs.Currencies.{fraction_of}
use Rattle.mt940_read.specs.Amounts.{amount_checks}
use Rattle.mt940_read.specs.Balances.{balance, balance_amount, balance_currency}
use Rattle.mt940_read.specs.Entries.{fraction_in}
use Rattle.mt940_read.proofs.CheckedLemmas.{opening_unknown, opening_amount, opening_tells, page_at}
use Rattle.mt940_read.proofs.checks.check_opening_currency.Goals as goal

pub returns-in-None : goal.returns-in-None
returns-in-None c =
    opening_unknown c.args.known.now.entries c.args.page.now c.args.statements c.args.message.now c.args.goes_on
    c.args.text.now
    (ap (λ code. is_some (fraction_of code c.args.known.now.entries)) (sym c.balance_currency-currency.ensures)
    ∙ ap is_some (sym c.given_fraction.ensures ∙ c.in-None.is))

pub returns-in-Err : goal.returns-in-Err
returns-in-Err c =
    let entries = c.args.known.now.entries in
    let text = c.args.text.now in
    let found : fraction_of (balance_currency text) entries ≡ Some c.in-Some.fraction =
    ap (λ code. fraction_of code entries) (sym c.balance_currency-currency.ensures)
    ∙ sym c.given_fraction.ensures ∙ c.in-Some.is in
    let fraction : fraction_in entries (balance_currency text) ≡ c.in-Some.fraction = ap (λ o. unwrap_or o 1) found in
    opening_amount entries c.args.page.now c.args.statements c.args.message.now c.args.goes_on text c.in-Err.bad
    (ap is_some found) (ap (λ f. first_bad (amount_checks f (balance_amount text))) fraction ∙ c.in-Err.ensures)

pub returns-in-Ok : goal.returns-in-Ok
returns-in-Ok c =
    let entries = c.args.known.now.entries in
    let text = c.args.text.now in
    let found : fraction_of (balance_currency text) entries ≡ Some c.in-Some.fraction =
    ap (λ code. fraction_of code entries) (sym c.balance_currency-currency.ensures)
    ∙ sym c.given_fraction.ensures ∙ c.in-Some.is in
    let fraction : fraction_in entries (balance_currency text) ≡ c.in-Some.fraction = ap (λ o. unwrap_or o 1) found in
    let given : to_z w64 (of_z w64 c.in-Ok.opening) ≡ balance c.in-Some.fraction text = omega
    (arith, ints, c.in-Ok.ensures.1) in
    opening_tells entries c.args.page.now c.args.statements c.args.message.now c.args.goes_on text
    (balance (fraction_in entries (balance_currency text)) text) c.check_page.result
    (ap is_some found)
    (ap (λ f. first_bad (amount_checks f (balance_amount text))) fraction ∙ c.in-Ok.ensures.0)
    (page_at c.args.page.now c.args.statements c.args.message.now c.args.goes_on
    c.balance_currency-currency.result.now (balance_currency text)
    (to_z w64 (of_z w64 c.in-Ok.opening)) (balance (fraction_in entries (balance_currency text)) text)
    c.check_page.result
    c.balance_currency-currency.ensures (given ∙ ap (λ f. balance f text) (sym fraction)) c.check_page.ensures)

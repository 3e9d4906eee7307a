use Rattle.std.proofs.Common.{◌≡◌, List, ℕ, sym, ap, subst, ◌∙◌}
use Rattle.std.specs.Str.{IsAscii}
use Rattle.mt940_read.specs.Balances.{balance_currency}
use Rattle.mt940_read.proofs.FormLemmas.{balance_parts}
use Rattle.mt940_read.proofs.message.Message.open.Goals as goal

pub ascii_text-requires : goal.ascii_text-requires
ascii_text-requires c =
    let same : balance_currency c.args.text.now ≡ c.balance_currency-currency.result.now =
    ap balance_currency (sym c.as_bytes.ensures.value) ∙ sym c.balance_currency-currency.ensures in
    let P : List ℕ → Type 0 = λ l. IsAscii l in
    subst P same (balance_parts c.args.text.now c.requires.fits).code

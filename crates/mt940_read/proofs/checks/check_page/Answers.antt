use Rattle.std.proofs.Common.{◌≡◌, sym, ap, ◌∙◌, arith, to_z, of_z, w64}
use Rattle.std.specs.Prelude.{not, ◌||◌}
use Rattle.std.proofs.lemmas.Int.{ints}
use Rattle.mt940_read.specs.Pages.{joins_page, agrees}
use Rattle.mt940_read.proofs.CheckedLemmas.{page_wrong, page_many, page_right}
use Rattle.mt940_read.proofs.checks.check_page.Goals as goal

pub returns-then-not-fits_page : goal.returns-then-not-fits_page
returns-then-not-fits_page c =
    let same : c.args.opening ≡ to_z w64 (of_z w64 c.args.opening) = omega (arith, ints) in
    page_wrong c.args.page.now c.args.statements c.args.message.now c.args.goes_on c.args.currency.now c.args.opening
    (ap (λ z. not (joins_page c.args.page.now c.args.message.now.account c.args.goes_on) || agrees c.args.page.now
    c.args.currency.now z c.args.goes_on) same
    ∙ sym c.fits_page.ensures ∙ c.if-not-fits_page.true)

pub returns-then-not-has_room_for_statement : goal.returns-then-not-has_room_for_statement
returns-then-not-has_room_for_statement c =
    let same : c.args.opening ≡ to_z w64 (of_z w64 c.args.opening) = omega (arith, ints) in
    page_many c.args.page.now c.args.statements c.args.message.now c.args.goes_on c.args.currency.now c.args.opening
    (ap (λ z. not (joins_page c.args.page.now c.args.message.now.account c.args.goes_on) || agrees c.args.page.now
    c.args.currency.now z c.args.goes_on) same
    ∙ sym c.fits_page.ensures ∙ c.if-not-fits_page.false)
    (sym c.has_room_for_statement.ensures ∙ c.if-not-has_room_for_statement.true)

pub returns : goal.returns
returns c =
    let same : c.args.opening ≡ to_z w64 (of_z w64 c.args.opening) = omega (arith, ints) in (
      page_right c.args.page.now c.args.statements c.args.message.now c.args.goes_on c.args.currency.now c.args.opening
          (ap (λ z. not (joins_page c.args.page.now c.args.message.now.account c.args.goes_on) || agrees
          c.args.page.now c.args.currency.now z c.args.goes_on) same
          ∙ sym c.fits_page.ensures ∙ c.if-not-fits_page.false)
          (sym c.has_room_for_statement.ensures ∙ c.if-not-has_room_for_statement.false),
      omega (arith, ints),
    )

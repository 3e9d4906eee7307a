use Rattle.std.proofs.Common.{◌≡◌, ap, ◌∙◌}
use Rattle.statement_texts.specs.Usual.{usual, whole, with_cents, with_codes, with_mils}
use Rattle.statement_texts.proofs.currencies.Currencies.usual.Goals as goal

-- those with cents, then those without decimals, then those with three
pub returns : goal.returns
unfolding usual
returns c = c.in_ok-add_all-3.ensures
    ∙ ap (with_codes 1000 with_mils) (c.in_ok-add_all-2.ensures
    ∙ ap (with_codes 1 whole) (c.in_ok-add_all.ensures ∙ ap (with_codes 100 with_cents) c.new-known.ensures))

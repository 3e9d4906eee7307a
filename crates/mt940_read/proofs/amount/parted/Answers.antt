use Rattle.std.proofs.Common.{◌≡◌, refl, sym, ◌∙◌, Some, position}
use Rattle.mt940_read.specs.Amounts.{is_comma}
use Rattle.mt940_read.proofs.AmountLemmas.{parted_at}
use Rattle.mt940_read.proofs.amount.parted.Goals as goal

pub returns-in-Some : goal.returns-in-Some
returns-in-Some c =
    let found : position is_comma c.args.text.now ≡ Some c.in-Some.place = sym c.comma.ensures ∙ c.in-Some.is in
    parted_at c.args.text.now _ _ c.in-Some.place found refl refl

use Rattle.std.proofs.Common.{◌≡◌, Some, position, sym, ap, ◌∙◌, arith}
use Rattle.std.specs.Prelude.{◌==◌}
use Rattle.std.proofs.lemmas.List.Quantifiers.{position-Some}
use Rattle.std.proofs.lemmas.Bool.{eqb-true}
use Rattle.mt940_read.proofs.message.number_part.Goals as goal

pub text_before-requires-clause-ascii : goal.text_before-requires-clause-ascii
text_before-requires-clause-ascii c =
    let found : position (λ byte. byte == 47) c.args.text.now ≡ Some c.in-Some.place =
    ap (λ l. position (λ byte. byte == 47) l) (sym c.as_bytes.ensures.value) ∙ sym c.slash.ensures ∙ c.in-Some.is in
    let at = position-Some (λ byte. byte == 47) c.args.text.now c.in-Some.place 0 found in
    omega (arith, eqb-true _ 47 at.1)

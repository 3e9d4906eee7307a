use Rattle.std.proofs.Common.{rules, ◌≡◌, nat_eq, ◌∙◌}
use Rattle.std.specs.Prelude.{◌||◌, codes}
use lib.Pointwise.{pointwise}
use Rattle.mt940_read.proofs.FormLemmas.{taken_by}
use Rattle.mt940_read.proofs.line_field.takes.Goals as goal

pub returns-then-eq : goal.returns-then-eq
returns-then-eq c text same =
    let mark = c.args.mark.now in
    let own : c.eq.result ≡ (pointwise nat_eq mark (codes "D") || pointwise nat_eq mark (codes "RC")) = search rules in
    own ∙ taken_by mark text same

pub returns-else-eq : goal.returns-else-eq
returns-else-eq c text same =
    let mark = c.args.mark.now in
    let own : c.eq-else-eq.result
    ≡ (pointwise nat_eq mark (codes "D") || pointwise nat_eq mark (codes "RC")) = search rules in
    own ∙ taken_by mark text same

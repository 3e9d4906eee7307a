use Rattle.std.proofs.Common.{◌≡◌, ◌<◌, ℕ, List, ap, sym, subst, ◌∙◌, arith}
use Rattle.bai2_read.specs.Fields.{after_fields}
use Rattle.bai2_read.specs.Summaries.{width}
use Rattle.bai2_read.proofs.SummaryLemmas.{Behind, behind_item}
use Rattle.bai2_read.proofs.summaries.behind.Goals as goal

pub returns : goal.returns
returns c =
    let item = c.args.item.now in
    let wide : 0 < width item = omega (arith, c.width.ensures.value) in
    let rest : after_fields (width item) item ≡ c.after_fields.result.now =
    ap (λ (n : ℕ). after_fields n item) (sym c.width.ensures.value) ∙ sym c.after_fields.ensures in
    let known : Behind item c.after_fields.result.now =
    subst (λ (l : List ℕ). Behind item l) rest (behind_item item c.requires.some c.requires.comma wide) in
    record { rest = known.items; shorter = known.shorter; comma = known.begins }

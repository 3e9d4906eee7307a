use Rattle.std.proofs.Common.{◌≡◌, ◌+◌, ◌≤◌, ℕ, length, ap, sym, subst, ◌∙◌, inl, inr, ◌⊎◌}
use Rattle.std.proofs.lemmas.Bool.{eqb-true}
use Rattle.bai2_read.specs.Extent.{HasExtent}
use Rattle.bai2_read.specs.Fields.{field_count}
use Rattle.bai2_read.proofs.ExtentLemmas.{grown_extent}
use Rattle.bai2_read.proofs.extent.Extent.grown.Goals as goal
use Rattle.bai2_read.proofs.extent.Extent.grown.Goals.{else-self-lt4-via-then-self-lt4+else-not-is_empty}
use Rattle.bai2_read.proofs.extent.Extent.grown.Goals.{else-self-lt4-via-else-self-lt4}

pub returns : goal.returns
returns c =
    let enough : (4 ≤ c.args.self.fields) ⊎ (length c.args.more.now ≡ 0) =
    elim c.else-self-lt4.branch [
      | else-self-lt4-via-then-self-lt4+else-not-is_empty w ↦
          inr (eqb-true (length c.args.more.now) 0 (sym w.is_empty.ensures ∙ w.if-not-is_empty.false))
      | else-self-lt4-via-else-self-lt4 w ↦ inl w.if-self-lt4.false
    ] in
    let sum : c.in_ok-count_on.field-0 ≡ c.args.self.fields + field_count c.args.more.now =
    c.in_ok-count_on.ensures.sum ∙ ap (λ (n : ℕ). c.args.self.fields + n) c.field_count.ensures in
    λ old is begins known.
    subst (λ (n : ℕ). HasExtent c.args.kind c.args.body.now n c.args.self.full) (sym sum)
    (grown_extent c.args.kind old c.args.body.now c.args.more.now c.args.self.fields c.args.self.full is begins known
    enough)

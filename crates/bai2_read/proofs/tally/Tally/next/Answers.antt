use Rattle.std.proofs.Common.{◌≡◌, cond, ℕ, List, Bool, ap, ◌∙◌, to_z, of_z, arith}
use mir.Syntax.{w128}
use Rattle.std.proofs.lemmas.Int.{ints}
use Rattle.bai2_read.specs.Kept.{sums_in}
use Rattle.bai2_read.specs.Kinds.{counts_anew}
use Rattle.bai2_read.specs.Said.{amount_in, part_in}
use Rattle.bai2_read.specs.declared.kind.Kind.{Kind}
use Rattle.bai2_read.proofs.After.{no_sums}
use Rattle.bai2_read.proofs.KeptLemmas.{emptied, tally_next}
use Rattle.bai2_read.proofs.tally.Tally.next.Goals as goal

pub returns : goal.returns
returns c =
    let level = c.args.level in
    let r = c.args.entry.now in
    let kind : c.kind-kind.result ≡ r.kind = c.kind-kind.ensures in
    let body : c.as_bytes.result.now ≡ r.body = cc (c.as_bytes.ensures.value, c.body.ensures) in
    let value : to_z w128 (of_z w128 c.amount_in-total.result) ≡ c.amount_in-total.result = omega (arith, ints) in
    let total : to_z w128 (of_z w128 c.amount_in-total.result) ≡ amount_in level r.kind r.body =
    value
    ∙ c.amount_in-total.ensures
    ∙ ap (λ (k : Kind). amount_in level k c.as_bytes.result.now) kind
    ∙ ap (λ (b : List ℕ). amount_in level r.kind b) body in
    let parts : c.part_in.result ≡ part_in level r.kind =
    c.part_in.ensures ∙ ap (λ (k : Kind). part_in level k) kind in
    let start : sums_in c.empty_if-start.result ≡ cond (counts_anew level r.kind) no_sums (sums_in c.args.self) =
    emptied c.args.self c.empty_if-start.result c.counts_anew.result c.empty_if-start.ensures
    ∙ ap (λ (anew : Bool). cond anew no_sums (sums_in c.args.self))
    (c.counts_anew.ensures ∙ ap (λ (k : Kind). counts_anew level k) kind) in
    tally_next level c.args.self c.empty_if-start.result r (to_z w128 (of_z w128 c.amount_in-total.result))
    c.part_in.result c.lines.result c.with.result c.with.ensures start total parts c.lines.ensures

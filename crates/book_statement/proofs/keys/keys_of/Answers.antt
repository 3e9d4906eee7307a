use Rattle.std.proofs.Common.{take, unwrap_or, ap, ◌∙◌, arith, refl}
use Rattle.std.proofs.lemmas.List.{take_all, length-take}
use Rattle.std.proofs.lemmas.List.Sums.{count_by-le-length}
use Rattle.std.specs.BTreeMap.{is_at}
use Rattle.std.specs.Map.{lookup}
use Rattle.book_statement.specs.Keys.{keys_of}
use Rattle.book_statement.proofs.KeyLemmas.{keys_of-next}
use Rattle.book_statement.proofs.TwinLemmas.{has_twin, IsTwinOf, count-own, twins-next, twin_cmp}
use Rattle.book_statement.proofs.keys.keys_of.Goals as goal

pub loop-line-init : goal.loop-line-init
unfolding keys_of
loop-line-init c =
    (c.new-keys.ensures, λ q. ap (λ es. unwrap_or (lookup (is_at (twin_cmp q)) es) 0) c.new-seen.ensures.empty)

pub overflow_add-ordinal : goal.overflow_add-ordinal
overflow_add-ordinal c =
    let ordinal_is =
    c.unwrap_or-ordinal.ensures ∙ ap (λ o. unwrap_or o 0) (c.copied.ensures ∙ c.get.ensures.value)
    ∙ c.loop-line.invariant.1 c.twin.result in
    omega (
      arith,
      ordinal_is,
      count_by-le-length (has_twin c.twin.result) (take c.loop-line.line-index c.as_slice-lines.result.now),
      length-take c.loop-line.line-index c.as_slice-lines.result.now,
    )

pub loop-line-preserved : goal.loop-line-preserved
loop-line-preserved c =
    let of : IsTwinOf c.twin.result c.line-item.result = record {
      day = c.twin.ensures.day;
      amount = c.twin.ensures.amount;
      kind = c.twin.ensures.kind;
      own = c.twin.ensures.own;
      bank = c.twin.ensures.bank;
      text = c.twin.ensures.text;
    } in
    let put : IsTwinOf c.twin-in-loop-line.result c.line-item.result = record {
      day = c.twin-in-loop-line.ensures.day;
      amount = c.twin-in-loop-line.ensures.amount;
      kind =
          c.twin-in-loop-line.ensures.kind;
      own = c.twin-in-loop-line.ensures.own;
      bank = c.twin-in-loop-line.ensures.bank;
      text =
          c.twin-in-loop-line.ensures.text;
    } in
    let ordinal_is =
    c.unwrap_or-ordinal.ensures ∙ ap (λ o. unwrap_or o 0) (c.copied.ensures ∙ c.get.ensures.value)
    ∙ c.loop-line.invariant.1 c.twin.result
    ∙ count-own c.twin.result c.line-item.result (take c.loop-line.line-index c.as_slice-lines.result.now) of in (
      keys_of-next c.args.account c.as_slice-lines.result.now c.as_slice-lines.result.now c.loop-line.line-index
          c.unwrap_or-ordinal.result
          c.line-item.result c.loop-line.keys c.push.new.self c.in_ok-key.field-0
          refl c.loop-line-test.true c.line-item.is c.loop-line.invariant.0
          ordinal_is c.in_ok-key.ensures c.in_ok-push.ensures.added,
      λ q. twins-next q c.twin-in-loop-line.result c.line-item.result c.as_slice-lines.result.now
          c.loop-line.line-index c.unwrap_or-ordinal.result
          c.loop-line.seen c.insert.new.self put c.loop-line-test.true c.line-item.is (c.loop-line.invariant.1 q)
          ordinal_is
          (c.in_ok-insert.ensures.updates.0 q),
    )

pub returns : goal.returns
returns c =
    c.loop-line.invariant.0
    ∙ ap (keys_of c.args.account) (take_all c.loop-line.line-index c.as_slice-lines.result.now (omega arith)
    ∙ c.as_slice-lines.ensures)

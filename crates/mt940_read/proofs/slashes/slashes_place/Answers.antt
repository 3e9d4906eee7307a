use Rattle.std.proofs.Common.{◌≡◌, ◌+◌, ◌++◌, ◌∷◌, [], take, drop, get_or, nat_eq, codes, true, false, sym, ap, ◌∙◌}
use Rattle.std.specs.List.{starts_with}
use Rattle.std.proofs.lemmas.List.{append-nil, append_assoc, drop-drop, drop_more, take_more, take_rest}
use Rattle.mt940_read.specs.LineField.{before_slashes}
use Rattle.mt940_read.proofs.SlashLemmas.{slashes_here, other_front}
use Rattle.mt940_read.proofs.slashes.slashes_place.Goals as goal

pub loop-place-preserved : goal.loop-place-preserved
loop-place-preserved c =
    let text = c.args.text.now in
    let place = c.loop-place.place in
    let none : starts_with nat_eq (drop place text) (codes "//") ≡ false =
    ap (λ l. starts_with nat_eq l (codes "//")) (sym (take_rest text place)) ∙ sym c.starts_with.ensures.value
    ∙ c.if-starts_with.false in
    let other = other_front (drop place text) (get_or text place 0) (drop (place + 1) text)
    (drop_more text place 0 c.loop-place-test.true) none in (
      ap (λ l. l ++ before_slashes (drop (place + 1) text)) (take_more text place 0 c.loop-place-test.true)
          ∙ append_assoc (take place text) (get_or text place 0 ∷ []) (before_slashes (drop (place + 1) text))
          ∙ ap (λ l. take place text ++ l) (sym other.0) ∙ c.loop-place.invariant.0,
      sym other.1 ∙ c.loop-place.invariant.1,
    )

pub returns-then-starts_with-clause-before : goal.returns-then-starts_with-clause-before
returns-then-starts_with-clause-before c =
    let text = c.args.text.now in
    let place = c.loop-place.place in
    let front : starts_with nat_eq (drop place text) (codes "//") ≡ true =
    ap (λ l. starts_with nat_eq l (codes "//")) (sym (take_rest text place)) ∙ sym c.starts_with.ensures.value
    ∙ c.if-starts_with.true in
    let here = slashes_here (drop place text) front in
    sym (append-nil (take place text)) ∙ ap (λ l. take place text ++ l) (sym here.before) ∙ c.loop-place.invariant.0

pub returns-then-starts_with-clause-behind : goal.returns-then-starts_with-clause-behind
returns-then-starts_with-clause-behind c =
    let text = c.args.text.now in
    let place = c.loop-place.place in
    let front : starts_with nat_eq (drop place text) (codes "//") ≡ true =
    ap (λ l. starts_with nat_eq l (codes "//")) (sym (take_rest text place)) ∙ sym c.starts_with.ensures.value
    ∙ c.if-starts_with.true in
    let here = slashes_here (drop place text) front in
    λ _. sym (drop-drop 2 place text) ∙ sym here.behind ∙ c.loop-place.invariant.1

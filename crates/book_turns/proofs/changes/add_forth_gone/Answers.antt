-- One step forth more is deleted.
use Rattle.std.proofs.Common.{◌≡◌, ◌<◌, ◌+◌, ◌-◌, ℕ, suc, List, [], ◌∷◌, ◌++◌, ap, ◌∙◌, arith}
use Rattle.std.proofs.lemmas.Bool.Decides.{nat_tests}
use Rattle.std.proofs.lemmas.List.{append_assoc}
use Rattle.book_keeper.specs.declared.row.Change.{Change}
use Rattle.book_opening.specs.Changes.{GoneForth, step_change}
use Rattle.book_turns.proofs.changes.add_forth_gone.Invariants.{gone}
use Rattle.book_turns.proofs.changes.add_forth_gone.Goals as goal

pub loop-number-preserved : goal.loop-number-preserved
loop-number-preserved c =
    let number = c.loop-number.number in
    let end = c.args.first + c.args.count in
    let test = c.loop-number-test.true in
    let below : number < end = grind (arith, nat_tests, test) in
    let behind = gone (number + 1) (end - (number + 1)) in
    let more : suc (end - (number + 1)) ≡ end - number = omega (arith, below) in
    let next : number + 1 ≡ suc number = omega arith in
    let here : Change = step_change (GoneForth number) in
    record {
      below = omega (arith, below);
      ends = c.loop-number.invariant.ends;
      added = ap (λ (l : List Change). l ++ behind)
          (c.in_ok-push.ensures.added ∙ ap (λ (x : Change). c.loop-number.changes ++ x ∷ []) c.forth_gone.ensures)
          ∙ append_assoc c.loop-number.changes (here ∷ []) behind
          ∙ ap (λ (n : ℕ). c.loop-number.changes ++ here ∷ gone n (end - (number + 1))) next
          ∙ ap (λ (n : ℕ). c.loop-number.changes ++ gone number n) more
          ∙ c.loop-number.invariant.added;
    }

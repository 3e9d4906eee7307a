use Rattle.std.proofs.Common.{length, List, [], ◌∷◌, ◌++◌, map, sym, ap, ◌∙◌}
use Rattle.std.proofs.lemmas.List.{map-append, map-id}
use Rattle.std.proofs.lemmas.Iterator.Adapters.{YieldsList-from_vec}
use Rattle.std.proofs.lemmas.Iterator.Consumers.{YieldsList-end}
use Rattle.book_splits.specs.declared.split.Split.{Split}
use Rattle.book_command.specs.declared.command.GivenSplit.{GivenSplit}
use Rattle.book_step.specs.Posting.{new_split}
use Rattle.book_step.proofs.schedules.template_splits.Goals as goal

pub loop-split-preserved : goal.loop-split-preserved
loop-split-preserved c =
    let before : List Split = map (new_split 0) c.loop-split.yielded in
    c.in_ok-push.ensures.items
    ∙ ap (λ (splits : List Split). splits ++ c.new_split.result ∷ []) c.loop-split.invariant
    ∙ ap (λ (split : Split). before ++ split ∷ []) c.new_split.ensures
    ∙ sym (map-append (new_split 0) c.loop-split.yielded (c.in-Some.split ∷ []))

pub returns : goal.returns
returns c =
    let given : List GivenSplit = c.args.given in
    let start = c.into_iter-split-iterator.ensures.into_iter_gives in
    let all = YieldsList-from_vec given (start.0 ∙ c.into_vec-split-items.ensures)
    (start.1 ∙ c.into_vec-split-items.result.ok.0 ∙ ap length c.into_vec-split-items.ensures) in
    let whole = YieldsList-end all c.loop-split.yielded c.loop-split.split-iterator c.loop-split.yielded_by
    c.next.result c.next.new.self c.in-None.is c.next.ensures.steps in
    c.of.ensures ∙ c.loop-split.invariant ∙ ap (map (new_split 0)) (sym (map-id c.loop-split.yielded) ∙ whole.0)

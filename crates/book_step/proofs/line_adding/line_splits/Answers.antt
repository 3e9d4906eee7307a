use Rattle.std.proofs.Common.{◌≡◌, ◌+◌, length, List, [], ◌∷◌, ◌++◌, sym, ap, ◌∙◌}
use Rattle.std.proofs.lemmas.List.{map-id}
use Rattle.std.proofs.lemmas.Iterator.Adapters.{YieldsList-from_vec}
use Rattle.std.proofs.lemmas.Iterator.Consumers.{YieldsList-end}
use Rattle.book_splits.specs.declared.split.Split.{Split}
use Rattle.book_command.specs.declared.command.GivenOther.{GivenOther}
use Rattle.book_step.specs.LineAdding.{line_splits}
use Rattle.book_step.specs.Posting.{new_split}
use Rattle.book_step.proofs.LineAddingLemmas.{line_splits-push}
use Rattle.book_step.proofs.line_adding.line_splits.Goals as goal

pub loop-other-preserved : goal.loop-other-preserved
loop-other-preserved c =
    let before : List Split = line_splits c.args.number c.args.line.now c.loop-other.yielded in
    let count : c.len.result ≡ length before =
    c.len.ensures ∙ c.loop-other.splits.ok.0 ∙ ap (λ (splits : List Split). length splits) c.loop-other.invariant in
    let made = c.new_split.ensures
    ∙ ap (λ n. new_split (c.args.number + n) c.given_split-given.result) count
    ∙ ap (λ given. new_split (c.args.number + length before) given) c.given_split-given.ensures in
    c.in_ok-push-2.ensures.items
    ∙ ap (λ (splits : List Split). splits ++ c.new_split.result ∷ []) c.loop-other.invariant
    ∙ ap (λ (split : Split). before ++ split ∷ []) made
    ∙ sym (line_splits-push c.args.number c.args.line.now c.loop-other.yielded c.in-Some.other)

pub returns : goal.returns
returns c =
    let others : List GivenOther = c.args.others in
    let start = c.into_iter-other-iterator.ensures.into_iter_gives in
    let all = YieldsList-from_vec others (start.0 ∙ c.into_vec-other-items.ensures)
    (start.1 ∙ c.into_vec-other-items.result.ok.0 ∙ ap length c.into_vec-other-items.ensures) in
    let whole = YieldsList-end all c.loop-other.yielded c.loop-other.other-iterator c.loop-other.yielded_by
    c.next.result c.next.new.self c.in-None.is c.next.ensures.steps in
    c.of.ensures ∙ c.loop-other.invariant
    ∙ ap (line_splits c.args.number c.args.line.now) (sym (map-id c.loop-other.yielded) ∙ whole.0)

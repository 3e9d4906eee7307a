use Rattle.std.proofs.Common.{◌≡◌, ℕ, ◌+◌, length, List, [], ◌∷◌, ◌++◌, Option, sym, ap, subst, ◌≤◌, ◌∙◌, arith}
use Rattle.std.proofs.Math.ListN.{length-append}
use Rattle.std.proofs.lemmas.List.{map-id}
use Rattle.std.proofs.lemmas.Iterator.Adapters.{YieldsList-from_vec}
use Rattle.std.proofs.lemmas.Iterator.Consumers.{YieldsList-end}
use Rattle.book_splits.specs.declared.split.Split.{Split}
use Rattle.book_step.specs.Editing.{drawn_by, drawn_for, edited_split, edited_splits, kept_by}
use Rattle.book_command.specs.declared.command.GivenSplit.{GivenSplit}
use Rattle.book_step.proofs.EditedSplitLemmas.{drawn_by-push, drawn-one, edited_splits-push}
use Rattle.book_step.proofs.edited_splits.edited_splits.Goals as goal

pub loop-split-preserved : goal.loop-split-preserved
loop-split-preserved c =
    let old : List Split = c.args.old.now in
    let given : List GivenSplit = c.loop-split.yielded in
    let split : GivenSplit = c.in-Some.split in
    let before : List Split = edited_splits old c.args.next given in
    let draws : c.drawn_for-drawn.result ≡ drawn_for (kept_by old split) =
    c.drawn_for-drawn.ensures ∙ ap drawn_for c.kept_by-kept.ensures in
    let number : ℕ = c.args.next + c.loop-split.drawn in
    let one = drawn-one (kept_by old split) in
    let longer = ap (λ (splits : List Split). length splits) c.in_ok-push.ensures.items
    ∙ length-append c.loop-split.splits.items (c.edited_split.result ∷ []) in
    record {
      made = c.in_ok-push.ensures.items
          ∙ ap (λ (splits : List Split). splits ++ c.edited_split.result ∷ []) c.loop-split.invariant.made
          ∙ ap (λ (split : Split). before ++ split ∷ [])
          (c.edited_split.ensures
          ∙ ap (λ (kept : Option Split). edited_split number split kept) c.kept_by-kept.ensures
          ∙ ap (λ (n : ℕ). edited_split (c.args.next + n) split (kept_by old split)) c.loop-split.invariant.count)
          ∙ sym (edited_splits-push old c.args.next given split);
      count = ap (λ (n : ℕ). n + c.drawn_for-drawn.result) c.loop-split.invariant.count
          ∙ ap (λ (k : ℕ). drawn_by old given + k) draws
          ∙ sym (drawn_by-push old given split);
      few = omega (arith, draws, one, longer, c.loop-split.invariant.few);
    }

pub returns : goal.returns
returns c =
    let given : List GivenSplit = c.args.given in
    let start = c.into_iter-split-iterator.ensures.into_iter_gives in
    let all = YieldsList-from_vec given (start.0 ∙ c.into_vec-split-items.ensures)
    (start.1 ∙ c.into_vec-split-items.result.ok.0 ∙ ap length c.into_vec-split-items.ensures) in
    let whole = YieldsList-end all c.loop-split.yielded c.loop-split.split-iterator c.loop-split.yielded_by
    c.next.result c.next.new.self c.in-None.is c.next.ensures.steps in
    let each = sym (map-id c.loop-split.yielded) ∙ whole.0 in
    record {
      splits = c.of.ensures ∙ c.loop-split.invariant.made
          ∙ ap (λ (l : List GivenSplit). edited_splits c.args.old.now c.args.next l) each;
      drawn = c.loop-split.invariant.count ∙ ap (λ (l : List GivenSplit). drawn_by c.args.old.now l) each;
      few = subst (λ (l : List Split). c.loop-split.drawn ≤ length l) (sym c.of.ensures) c.loop-split.invariant.few;
    }

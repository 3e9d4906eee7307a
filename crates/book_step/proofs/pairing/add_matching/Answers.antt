-- What is in the map is what the pairs say; and the lines of the pairs are all that take a split.
use mathlib.Core.Path.{fun_ext}
use Rattle.std.proofs.Common.{◌≡◌, ℕ, List, ◌++◌, Option, ap, subst, ◌∙◌}
use Rattle.std.specs.BTreeMap.{get}
use Rattle.std.specs.Ordering.{nat_cmp}
use Rattle.std.proofs.lemmas.Result.{IfOk-weaker}
use Rattle.book_statement.specs.declared.line.Line.{Line}
use Rattle.book_undo.specs.declared.edit.Edit.{Edit}
use Rattle.book_step.specs.AutoMatching.{pairing_one, split_of}
use Rattle.book_step.specs.Soundness.{IsSound}
use Rattle.book_step.specs.State.{State}
use Rattle.book_step.specs.UnderNumbers.{made_under}
use Rattle.book_step.proofs.NearLemmas.{lines-under}
use Rattle.book_step.proofs.pairing.add_matching.Goals as goal

pub returns : goal.returns
returns c =
    let pairs = c.args.pairs.now in
    let before : List Edit = c.args.edits.now.items in
    let lines : List (ℕ × Line) = c.args.present.now.book.lines in
    let numbers : List ℕ = c.in_ok-numbers.numbers.items in
    let in_map : ℕ → Option ℕ = get nat_cmp c.in_ok-takes.takes in
    let takes : in_map ≡ split_of pairs = fun_ext c.in_ok-takes.ensures in
    let sound = subst (λ (s : State). IsSound s) c.present.view_is c.present.invariant in
    IfOk-weaker c.add_lines.result _ _
    (λ done made.
    made
    ∙ ap (λ (ns : List ℕ). before ++ made_under (pairing_one in_map) lines ns) c.as_slice.ensures.value
    ∙ ap (λ (of : ℕ → Option ℕ). before ++ made_under (pairing_one of) lines numbers) takes
    ∙ ap (λ (l : List Edit). before ++ l)
    (lines-under (split_of pairs) lines numbers sound.book.lines.rise c.in_ok-numbers.ensures.rises
    c.in_ok-numbers.ensures.has))
    c.add_lines.ensures

-- The moves of the splits that were seen, table by table.
use Rattle.std.proofs.Common.{ℕ, ap, ◌∙◌}
use Rattle.std.proofs.lemmas.Result.{IfOk-weaker}
use Rattle.book_free.specs.FreeSplits.{open_at}
use Rattle.book_free.specs.Seen.{Seen, move_seen, moves_seen, noted}
use Rattle.book_free.specs.declared.moves.Move.{Move}
use Rattle.book_free.proofs.kept.FreeSplits.moves_of.Goals as goal

pub returns : goal.returns
returns c =
    let seen = c.args.seen.now in
    let becomes : ℕ → Move = λ number.
    move_seen seen c.args.self.now.matched.entries (open_at number c.args.transactions.now.entries) number in
    let one = c.in_ok-add_all.ensures
    ∙ ap (λ xs. noted (moves_seen becomes xs) c.new-splits.result.entries)
    (c.as_slice.ensures ∙ ap (λ (s : Seen). s.before) c.seen.view_is)
    ∙ ap (noted (moves_seen becomes seen.before)) c.new-splits.ensures in
    let two = c.in_ok-add_all-2.ensures
    ∙ ap (λ xs. noted (moves_seen becomes xs) c.add_all.new.splits.entries)
    (c.as_slice-2.ensures ∙ ap (λ (s : Seen). s.after) c.seen.view_is)
    ∙ ap (noted (moves_seen becomes seen.after)) one in
    let three = c.in_ok-add_all-3.ensures
    ∙ ap (λ xs. noted (moves_seen becomes xs) c.add_all-2.new.splits.entries)
    (c.as_slice-3.ensures ∙ ap (λ (s : Seen). s.lost) c.seen.view_is)
    ∙ ap (noted (moves_seen becomes seen.lost)) two in
    let four = c.in_ok-add_all-4.ensures
    ∙ ap (λ xs. noted (moves_seen becomes xs) c.add_all-3.new.splits.entries)
    (c.as_slice-4.ensures ∙ ap (λ (s : Seen). s.gained) c.seen.view_is)
    ∙ ap (noted (moves_seen becomes seen.gained)) three in
    IfOk-weaker c.of.result _ _ (λ moves made. made ∙ four) c.of.ensures

use Rattle.std.proofs.Common.{sym}
use Rattle.std.proofs.lemmas.Result.{IfOk-weaker}
use Rattle.book_opening.specs.State.{state_of}
use Rattle.book_state_check.proofs.StateLemmas.{kept_head, none_weaker, readable_sound}
use Rattle.book_broken.proofs.first.first_broken_rule.Goals as goal

pub returns-clause-sound : goal.returns-clause-sound
returns-clause-sound c =
    let state = state_of c.args.state.now in
    let head = kept_head state (sym c.if-not-keeps_head.ensures) in
    let sound = c.in_ok-key.ensures.sound c.in_default.is in
    IfOk-weaker c.first_broken_step.result _ _
    (λ found none. none_weaker found _ _
    (λ steps. readable_sound state c.requires c.rising.ensures.back c.rising.ensures.forth head.0 head.1 sound.0 sound.1
    steps.back steps.forth)
    none)
    c.first_broken_step.ensures.sound

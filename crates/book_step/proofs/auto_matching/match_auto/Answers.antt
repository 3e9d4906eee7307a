use Rattle.std.proofs.Common.{◌≡◌, List, Ok, sym, ap, subst, ◌∙◌}
use Rattle.book_match.specs.declared.views.Matched.{Matched}
use Rattle.book_undo.specs.Edit.{edited, is_nothing}
use Rattle.book_undo.specs.Exact.{IsExact}
use Rattle.book_undo.specs.declared.edit.Edit.{Edit}
use Rattle.book_sound.proofs.SoundFacts.{tables_rise}
use Rattle.book_command.specs.declared.answer.Answer.TheVariants as answer
use Rattle.book_step.specs.AutoMatching.{match_rules, matches, pairing_edit}
use Rattle.book_step.proofs.MatchStepLemmas.{match-changed, match-left, matching-exact, matching-something}
use Rattle.book_step.proofs.PairedEdits.{pairing_leads}
use Rattle.book_step.proofs.auto_matching.match_auto.Goals as goal

pub returns-then-is_empty : goal.returns-then-is_empty
returns-then-is_empty c =
    let state = c.args.present.now in
    let pairs = matches state.book c.args.account c.args.window in
    let are : c.in_ok-pairs.pairs ≡ pairs =
    c.in_ok-pairs.ensures.pairs ∙ ap (matches state.book c.args.account) c.in_ok-days.ensures.days in
    match-left state (match_rules state.book c.args.account c.args.window) pairs (Ok c.leaving.result)
    c.in_ok-days.ensures.rules (sym are ∙ c.is_empty.ensures.0 c.if-is_empty.true)
    (c.leaving.ensures (answer.MatchAuto pairs) (ap (λ (ps : List Matched). answer.MatchAuto ps) (sym are)))

pub changing-requires-clause-changes : goal.changing-requires-clause-changes
changing-requires-clause-changes c =
    let state = c.args.present.now in
    let pairs = matches state.book c.args.account c.args.window in
    let are : c.in_ok-pairs.pairs ≡ pairs =
    c.in_ok-pairs.ensures.pairs ∙ ap (matches state.book c.args.account) c.in_ok-days.ensures.days in
    let made : c.in_ok-edit.edit ≡ pairing_edit pairs state.book =
    c.in_ok-edit.ensures ∙ ap (λ (ps : List Matched). pairing_edit ps state.book) (c.as_slice.ensures ∙ are) in
    ap is_nothing made
    ∙ matching-something state.book c.args.account c.args.window c.in_ok-pairs.ensures.sound
    (λ none. absurd (let empty = c.is_empty.ensures.1 (are ∙ none) in let some = c.if-is_empty.false in cc))

pub changing-requires-clause-exact : goal.changing-requires-clause-exact
changing-requires-clause-exact c sound =
    let state = c.args.present.now in
    let pairs = matches state.book c.args.account c.args.window in
    let are : c.in_ok-pairs.pairs ≡ pairs =
    c.in_ok-pairs.ensures.pairs ∙ ap (matches state.book c.args.account) c.in_ok-days.ensures.days in
    let made : c.in_ok-edit.edit ≡ pairing_edit pairs state.book =
    c.in_ok-edit.ensures ∙ ap (λ (ps : List Matched). pairing_edit ps state.book) (c.as_slice.ensures ∙ are) in
    subst (λ (e : Edit). IsExact state.book e) (sym made)
    (matching-exact state.book c.args.account c.args.window sound.book)

pub returns : goal.returns
returns c =
    let state = c.args.present.now in
    let pairs = matches state.book c.args.account c.args.window in
    let are : c.in_ok-pairs.pairs ≡ pairs =
    c.in_ok-pairs.ensures.pairs ∙ ap (matches state.book c.args.account) c.in_ok-days.ensures.days in
    let made : c.in_ok-edit.edit ≡ pairing_edit pairs state.book =
    c.in_ok-edit.ensures ∙ ap (λ (ps : List Matched). pairing_edit ps state.book) (c.as_slice.ensures ∙ are) in
    match-changed state (match_rules state.book c.args.account c.args.window) pairs c.in_ok-edit.edit c.changing.result
    c.in_ok-days.ensures.rules
    (λ none. absurd (let empty = c.is_empty.ensures.1 (are ∙ none) in let some = c.if-is_empty.false in cc))
    (ap (λ (e : Edit). edited e state.book) made
    ∙ pairing_leads pairs state.book (tables_rise state.book c.in_ok-pairs.ensures.sound))
    (c.changing.ensures (answer.MatchAuto pairs) (ap (λ (ps : List Matched). answer.MatchAuto ps) (sym are)))

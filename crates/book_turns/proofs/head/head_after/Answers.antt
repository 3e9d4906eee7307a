use Rattle.std.proofs.Common.{◌≡◌, ℕ, ◌+◌, ◌-◌, min, sym, ap, ◌∙◌, arith}
use Rattle.std.proofs.lemmas.Bool.Decides.{nat_tests}
use Rattle.book_rows.specs.declared.head.Head.{Head}
use Rattle.book_opening.specs.State.{head_of, state_of}
use Rattle.book_turns.specs.Turned.{moved}
use Rattle.book_turns.specs.declared.turn.Way.{Way}
use Rattle.book_turns.proofs.CurrencyLemmas.{edited_currency}
use Rattle.book_turns.proofs.head.head_after.Goals as goal

pub returns-in-Change : goal.returns-in-Change
returns-in-Change c inverse =
    let edit = c.args.edit.now in
    let state = state_of c.args.state.now in
    let Of : ℕ → ℕ → Head = λ past currency. record {
      next = c.args.next;
      version = state.version + 1;
      position = state.position + 1;
      past = past;
      later = 0;
      currency = currency;
    } in
    let least : c.min.result ≡ min (state.past + 1) 256 =
    (let is = c.min.ensures in grind (arith, nat_tests, is)) in
    ap (λ (past : ℕ). Of past c.currency_after-currency.result) least
    ∙ ap (Of (min (state.past + 1) 256))
    (c.currency_after-currency.ensures ∙ sym (edited_currency edit state.book))
    ∙ sym (ap (λ (way : Way). head_of (moved way edit inverse c.args.next state)) c.in-Change.is)

pub returns-in-Undo : goal.returns-in-Undo
returns-in-Undo c inverse =
    let edit = c.args.edit.now in
    let state = state_of c.args.state.now in
    let Of : ℕ → Head = λ currency. record {
      next = state.next;
      version = state.version + 1;
      position = state.position - 1;
      past = state.past - 1;
      later = state.later + 1;
      currency = currency;
    } in
    ap Of (c.currency_after-currency.ensures ∙ sym (edited_currency edit state.book))
    ∙ sym (ap (λ (way : Way). head_of (moved way edit inverse c.args.next state)) c.in-Undo.is)

pub returns-in-Redo : goal.returns-in-Redo
returns-in-Redo c inverse =
    let edit = c.args.edit.now in
    let state = state_of c.args.state.now in
    let Of : ℕ → Head = λ currency. record {
      next = state.next;
      version = state.version + 1;
      position = state.position + 1;
      past = state.past + 1;
      later = state.later - 1;
      currency = currency;
    } in
    ap Of (c.currency_after-currency.ensures ∙ sym (edited_currency edit state.book))
    ∙ sym (ap (λ (way : Way). head_of (moved way edit inverse c.args.next state)) c.in-Redo.is)

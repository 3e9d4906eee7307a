-- Each command on bindings and on lines of bank statements leads from a sound state to a sound one.
use Rattle.std.proofs.Common.{◌≡◌, ◌≢◌, ℕ, ◌+◌, ◌==◌, not, true, false, List, [], ◌∷◌, Option, Some, None}
use Rattle.std.proofs.Common.{is_none, refl, sym, ap, arith}
use Rattle.std.proofs.lemmas.Bool.Decides.{nat_tests}
use Rattle.std.specs.Cmp.Lexicographic as texts
use Rattle.book_commodity.specs.Rules.{AllKept}
use Rattle.book_commodity.specs.Table.{value_of}
use Rattle.book_commodity.proofs.DrawnLemmas.{drawn_below, length_changed, length_drawn}
use Rattle.book_commodity.proofs.RuleLemmas.{kept_back, kept_front, not-broken}
use Rattle.book_accounts.specs.declared.account.Account.{Account}
use Rattle.book_statement.specs.Keys.{same_text}
use Rattle.book_statement.specs.declared.binding.Binding.{Binding}
use Rattle.book_statement.specs.declared.line.Line.{Line}
use Rattle.book_statement.specs.declared.line_state.LineState.{LineState}
use Rattle.book_statement.specs.declared.line_state.LineState.TheVariants.{Open, Dismissed}
use Rattle.book_sound.specs.BindingRules.{takes_splits}
use Rattle.book_sound.specs.LineRules.{fits_in_state, shares_split}
use Rattle.book_sound.proofs.BookChanges.{binding_put, binding_replaced, line_moved}
use Rattle.book_sound.proofs.DrawnChanges.{binding_drawn, line_drawn}
use Rattle.book_sound.proofs.DrawnFrames.{drawn_later}
use Rattle.book_undo.specs.Book.{with_thing}
use Rattle.book_undo.specs.declared.thing.Thing.TheVariants as thing
use Rattle.book_command.specs.declared.answer.Answer.{Answer}
use Rattle.book_command.specs.declared.answer.Answer.TheVariants as answer
use Rattle.book_command.specs.declared.rule.Rule.{Rule}
use Rattle.book_step.specs.BankLines.{in_state, is_open, line_dismiss, line_dismiss_at, line_reopen, line_reopen_at}
use Rattle.book_step.specs.BankLines.{line_taken}
use Rattle.book_step.specs.Bindings.{account_rules, bind, bind_at, binding_of, is_placeholder, new_rules}
use Rattle.book_step.specs.Bindings.{too_many_bindings}
use Rattle.book_step.specs.Outcome.{Done}
use Rattle.book_step.specs.Soundness.{IsSound}
use Rattle.book_step.specs.State.{State}
use Rattle.book_step.proofs.BindingLemmas.{found_there}
use Rattle.book_step.proofs.SoundOutcome.{IsChange, changing_done, either_sound, sound_after}

-- ---- bindings

takes : (found : Option Account) → is_none found ≡ false → is_placeholder found ≡ false → takes_splits found ≡ true
takes None there e = absurd cc
takes (Some account) there e = ap not e

-- the account of a binding that breaks no rule takes splits
account_kept :
    (accounts : List (ℕ × Account)) (n : ℕ) → AllKept (account_rules accounts n)
    → takes_splits (value_of n accounts) ≡ true
account_kept accounts n kept =
    takes (value_of n accounts) (not-broken _ _ kept.0) (not-broken _ _ kept.1.0)

bind_at-sound :
    (state : State) (binding : Binding) (found : Option (ℕ × Binding)) (new : State) (answered : Answer)
    → binding_of binding.text state.book.bindings ≡ found → IsSound state
    → bind_at state binding found ≡ Done new answered → IsSound new
bind_at-sound state binding None new answered there is e =
    let book = state.book in
    let first = account_rules book.accounts binding.account in
    let last = too_many_bindings book.bindings ∷ [] in
    let rules = new_rules book binding.account in
    let later = with_thing state.next (thing.Binding binding) book in
    let change = changing_done state rules later 1 answer.Bind new answered e in
    let few = not-broken _ _ (kept_back first last change.kept).0 in
    let longer = length_drawn state.next binding book.bindings is.book.bindings.rise is.drawn.bindings in
    let drawn = drawn_later book state.next (state.next + 1) (omega arith) is.drawn in
    sound_after state rules later 1 new change
    (binding_put book state.next binding is.drawn there
    (account_kept book.accounts binding.account (kept_front first last change.kept))
    (grind (arith, nat_tests, few, longer)) is.book)
    (binding_drawn book state.next (state.next + 1) binding (omega arith) drawn)
bind_at-sound state binding (Some old) new answered there is e =
    let book = state.book in
    let rules = account_rules book.accounts binding.account in
    let later = with_thing old.0 (thing.Binding binding) book in
    let found = found_there (λ (e : ℕ × Binding). same_text e.1.text binding.text) book.bindings old
    is.book.bindings.rise there in
    let own = drawn_below old.0 state.next old.1 book.bindings is.drawn.bindings found.0 in
    let drawn = drawn_later book state.next (state.next + 0) (omega arith) is.drawn in
    either_sound (old.1.account == binding.account) state new rules later 0 answer.Bind answer.Bind answered is
    (λ change.
    sound_after state rules later 0 new change
    (binding_replaced book old.0 old.1 binding found.0
    (sym (texts.same_text old.1.text binding.text (sym found.1)))
    (account_kept book.accounts binding.account change.kept)
    (omega (
      arith,
      is.book.bindings.few,
      length_changed old.0 binding old.1 book.bindings is.book.bindings.rise found.0,
    ))
    is.book)
    (binding_drawn book old.0 (state.next + 0) binding (omega (arith, own)) drawn))
    e

pub bind-sound :
    (state : State) (binding : Binding) (new : State) (answered : Answer) → IsSound state
    → bind state binding ≡ Done new answered → IsSound new
bind-sound state binding new answered is e =
    bind_at-sound state binding (binding_of binding.text state.book.bindings) new answered refl is e

-- ---- lines

-- a line in another state, in which it is matched with no split, leaves the book sound
moved-sound :
    (state : State) (n : ℕ) (line : Line) (to : LineState) (rules : List (Option Rule)) (new : State)
    → value_of n state.book.lines ≡ Some line → fits_in_state state.book.transactions line to ≡ true
    → ((k : ℕ) (x : Line) → k ≢ n → value_of k state.book.lines ≡ Some x
    → shares_split (in_state line to) x ≡ false)
    → IsSound state → IsChange state rules (with_thing n (thing.Line (in_state line to)) state.book) 0 new
    → IsSound new
moved-sound state n line to rules new there fits apart is change =
    let book = state.book in
    let later = with_thing n (thing.Line (in_state line to)) book in
    let own = drawn_below n state.next line book.lines is.drawn.lines there in
    let drawn = drawn_later book state.next (state.next + 0) (omega arith) is.drawn in
    sound_after state rules later 0 new change (line_moved book n line to there fits apart is.book)
    (line_drawn book n (state.next + 0) (in_state line to) (omega (arith, own)) drawn)

dismiss_at-sound :
    (state : State) (n : ℕ) (found : Option Line) (new : State) (answered : Answer)
    → value_of n state.book.lines ≡ found → IsSound state → line_dismiss_at state n found ≡ Done new answered
    → IsSound new
dismiss_at-sound state n None new answered there is e = absurd cc
dismiss_at-sound state n (Some line) new answered there is e =
    let rules = line_taken n line ∷ [] in
    let later = with_thing n (thing.Line (in_state line Dismissed)) state.book in
    moved-sound state n line Dismissed rules new there refl (λ k x other at. refl) is
    (changing_done state rules later 0 answer.LineDismiss new answered e)

pub line_dismiss-sound :
    (state : State) (n : ℕ) (new : State) (answered : Answer) → IsSound state
    → line_dismiss state n ≡ Done new answered → IsSound new
line_dismiss-sound state n new answered is e =
    dismiss_at-sound state n (value_of n state.book.lines) new answered refl is e

reopen_at-sound :
    (state : State) (n : ℕ) (found : Option Line) (new : State) (answered : Answer)
    → value_of n state.book.lines ≡ found → IsSound state → line_reopen_at state n found ≡ Done new answered
    → IsSound new
reopen_at-sound state n None new answered there is e = absurd cc
reopen_at-sound state n (Some line) new answered there is e =
    let later = with_thing n (thing.Line (in_state line Open)) state.book in
    either_sound (is_open line.state) state new [] later 0 answer.LineReopen answer.LineReopen answered is
    (λ change. moved-sound state n line Open [] new there refl (λ k x other at. refl) is change) e

pub line_reopen-sound :
    (state : State) (n : ℕ) (new : State) (answered : Answer) → IsSound state
    → line_reopen state n ≡ Done new answered → IsSound new
line_reopen-sound state n new answered is e =
    reopen_at-sound state n (value_of n state.book.lines) new answered refl is e

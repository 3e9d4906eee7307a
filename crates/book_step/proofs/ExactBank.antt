-- The edits of the commands on bindings and on lines of bank statements are exact for a sound book.
use Rattle.std.proofs.Common.{◌≡◌, ◌≢◌, ℕ, ◌==◌, true, false, Option, Some, None, option_map, sym, ap, ◌∙◌, arith}
use Rattle.std.proofs.lemmas.Bool.Decides.{nat_tests}
use Rattle.book_commodity.specs.Table.{value_of}
use Rattle.book_commodity.proofs.DrawnLemmas.{drawn_free}
use Rattle.book_statement.specs.declared.binding.Binding.{Binding}
use Rattle.book_statement.specs.declared.line.Line.{Line}
use Rattle.book_statement.specs.declared.line_state.LineState.{LineState}
use Rattle.book_undo.specs.Exact.{IsExact}
use Rattle.book_undo.specs.declared.edit.Edit.{Put}
use Rattle.book_undo.specs.declared.thing.Thing.TheVariants as thing
use Rattle.book_undo.proofs.ExactLaws.{exact_put}
use Rattle.book_sound.proofs.SoundFacts.{tables_rise}
use Rattle.book_step.specs.BankLines.{in_state, is_open}
use Rattle.book_step.specs.Soundness.{IsSound}
use Rattle.book_step.specs.State.{State}

none_some : {X Y : Type 0} (of : X → Y) (found : Option X) (y : Y) → found ≡ None → option_map of found ≢ Some y
none_some of None y none same = absurd cc
none_some of (Some x) y none same = absurd cc

-- a binding under the next number is new
pub new_binding :
    (state : State) (binding : Binding) → IsSound state → IsExact state.book (Put state.next (thing.Binding binding))
new_binding state binding is =
    let free = drawn_free state.next state.book.bindings is.drawn.bindings in
    exact_put state.book state.next (thing.Binding binding) (tables_rise state.book is.book)
    (none_some (λ b. thing.Binding b) (value_of state.next state.book.bindings) (thing.Binding binding) free)

one_binding : (old new : Binding) → Some (thing.Binding old) ≡ Some (thing.Binding new) → new ≡ old
one_binding old new same = cc

-- one that stands for another account is another
pub other_binding :
    (state : State) (n : ℕ) (old new : Binding) → IsSound state → value_of n state.book.bindings ≡ Some old
    → (old.account == new.account) ≡ false → IsExact state.book (Put n (thing.Binding new))
other_binding state n old new is there differs =
    exact_put state.book n (thing.Binding new) (tables_rise state.book is.book)
    (λ same.
    let one = one_binding old new (sym (ap (option_map (λ (b : Binding). thing.Binding b)) there) ∙ same) in
    let account = ap (λ (b : Binding). b.account) one in
    let equal : (old.account == new.account) ≡ true = grind (arith, nat_tests, account) in
    absurd (let no = sym equal ∙ differs in cc))

one_line : (old new : Line) → Some (thing.Line old) ≡ Some (thing.Line new) → new ≡ old
one_line old new same = cc

-- a line that is open and one that isn't are different
pub other_state :
    (state : State) (n : ℕ) (line : Line) (to : LineState) → IsSound state → value_of n state.book.lines ≡ Some line
    → is_open to ≢ is_open line.state → IsExact state.book (Put n (thing.Line (in_state line to)))
other_state state n line to is there differs =
    exact_put state.book n (thing.Line (in_state line to)) (tables_rise state.book is.book)
    (λ same.
    let one = one_line line (in_state line to) (sym (ap (option_map (λ (l : Line). thing.Line l)) there) ∙ same) in
    differs (ap (λ (l : Line). is_open l.state) one))

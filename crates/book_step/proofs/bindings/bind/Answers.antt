use Rattle.std.proofs.Common.{◌≡◌, ℕ, List, Option, None, Some, option_map, sym, ap, subst, ◌∙◌}
use Rattle.book_commodity.specs.Table.{value_of}
use Rattle.book_commodity.proofs.ListLemmas.{mapped_none}
use Rattle.book_statement.specs.declared.binding.Binding.{Binding}
use Rattle.book_step.specs.Bindings.{bind_at, binding_of, binding_to}
use Rattle.book_step.specs.Outcome.{StepsTo}
use Rattle.book_step.specs.State.{State}
use Rattle.book_step.proofs.BindingLemmas.{bound_as, said_of}
use Rattle.book_step.proofs.bindings.bind.Goals as goal

pub returns-in-None : goal.returns-in-None
returns-in-None c =
    let state = c.args.present.now in
    let text = c.args.binding.text in
    let bindings = c.present.inside.plain.now.bindings.entries in
    let said : option_map said_of (binding_of text bindings) ≡ None =
    ap (λ (t : List ℕ). option_map said_of (binding_of t bindings)) (sym c.as_str.ensures) ∙ sym c.binding_of.ensures
    ∙ c.in-None.is in
    let none = mapped_none said_of (binding_of text bindings) said in
    subst (λ (found : Option (ℕ × Binding)). StepsTo state (bind_at state c.args.binding found) c.new_binding.result)
    (sym (subst (λ (s : State). binding_of text s.book.bindings ≡ None) c.present.view_is none))
    c.new_binding.ensures

pub bind_again-requires : goal.bind_again-requires
bind_again-requires c =
    let text = c.args.binding.text in
    let bindings = c.present.inside.plain.now.bindings.entries in
    let pair : ℕ × ℕ = (c.in-Some.number, c.in-Some.account) in
    let said : Some pair ≡ option_map said_of (binding_of text bindings) =
    sym c.in-Some.is ∙ c.binding_of.ensures
    ∙ ap (λ (t : List ℕ). option_map said_of (binding_of t bindings)) c.as_str.ensures in
    let found = bound_as text bindings c.in-Some.number c.in-Some.account c.present.invariant.book.bindings.rise said in
    subst (λ (s : State). value_of c.in-Some.number s.book.bindings ≡ Some (binding_to text c.in-Some.account))
    c.present.view_is found.1

pub returns-in-Some : goal.returns-in-Some
returns-in-Some c =
    let state = c.args.present.now in
    let text = c.args.binding.text in
    let bindings = c.present.inside.plain.now.bindings.entries in
    let pair : ℕ × ℕ = (c.in-Some.number, c.in-Some.account) in
    let said : Some pair ≡ option_map said_of (binding_of text bindings) =
    sym c.in-Some.is ∙ c.binding_of.ensures
    ∙ ap (λ (t : List ℕ). option_map said_of (binding_of t bindings)) c.as_str.ensures in
    let found = bound_as text bindings c.in-Some.number c.in-Some.account c.present.invariant.book.bindings.rise said in
    let entry : ℕ × Binding = (c.in-Some.number, binding_to text c.in-Some.account) in
    subst (λ (f : Option (ℕ × Binding)). StepsTo state (bind_at state c.args.binding f) c.bind_again.result)
    (sym (subst (λ (s : State). binding_of text s.book.bindings ≡ Some entry) c.present.view_is found.0))
    c.bind_again.ensures

-- A binding whose account takes splits is kept where its text was not seen.
use Rattle.std.proofs.Common.{refl}
use Rattle.book_sound.specs.BindingRules.{binding_rules}
use Rattle.book_check.specs.Keys.{binding_keys}
use Rattle.book_check.proofs.KeyLemmas.{binding_ties}
use Rattle.book_check.proofs.OnceLemmas.{binding_asked}
use Rattle.book_check.proofs.SeenLemmas.{once}
use Rattle.book_check.proofs.bindings.BindingWalkChecked.keeps.Goals as goal

pub returns : goal.returns
returns c =
    let accounts = c.args.self.now.accounts.now.entries in
    let bindings = c.args.self.now.bindings.now.entries in
    let binding = c.value_at-binding.result.now in
    let kept = once binding_keys binding_ties (binding_rules accounts bindings) bindings c.args.place binding
    c.as_str.result c.args.self.now.texts c.insert.new.self c.takes_splits.result c.in_ok-is_taken.is_taken
    c.requires.rises c.value_at-binding.ensures c.as_str.ensures c.requires.known c.if-not-takes_splits.false
    (λ n there. binding_asked accounts bindings n binding c.takes_splits.result c.takes_splits.ensures)
    c.in_ok-is_taken.ensures.before c.in_ok-is_taken.ensures.adds in
    record { kept = kept.0; known = kept.1; same_entries = refl; same_rules = refl }

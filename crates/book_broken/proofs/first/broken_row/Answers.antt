-- A rule is named there.
use Rattle.std.proofs.Common.{◌≡◌, is_some, true, false, sym, ap, ◌∙◌}
use Rattle.book_opening.specs.State.{state_of}
use Rattle.book_broken.proofs.Named.{rule_there}
use Rattle.book_broken.proofs.first.broken_row.Goals as goal

pub unreachable-requires : goal.unreachable-requires
unreachable-requires c =
    let there = rule_there (state_of c.args.state.now) c.args.key c.requires in
    let none = ap is_some (sym c.in_ok-rule.ensures ∙ c.in_default.is) in
    let never : true ≡ false = sym there ∙ none in
    absurd cc

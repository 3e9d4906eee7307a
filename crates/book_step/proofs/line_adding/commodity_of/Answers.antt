use Rattle.std.proofs.Common.{◌≡◌, Option, None, is_some, sym, ap, subst, ◌∙◌}
use Rattle.std.specs.Option.{option_copied}
use Rattle.book_commodity.specs.Table.{value_of}
use Rattle.book_accounts.specs.declared.account.Account.{Account}
use Rattle.book_step.specs.Soundness.{IsSound}
use Rattle.book_step.specs.State.{State}
use Rattle.book_step.proofs.line_adding.commodity_of.Goals as goal

pub unreachable-requires : goal.unreachable-requires
unreachable-requires c =
    let state = c.args.present.now in
    let account = c.args.line.now.account in
    let sound = subst (λ (s : State). IsSound s) c.present.view_is c.present.invariant in
    let live = (sound.book.lines.keep.each c.args.number c.args.line.now c.requires).0 in
    let sought = c.find.ensures ∙ ap (λ (s : State). value_of account s.book.accounts) c.present.view_is in
    let gone : value_of account state.book.accounts ≡ None =
    sym sought ∙ ap (λ found. option_copied found) c.in_default.is in
    absurd (let there = sym live ∙ ap (λ (found : Option Account). is_some found) gone in cc)

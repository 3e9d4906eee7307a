use Rattle.std.proofs.Common.{[], ◌∷◌, ◌∙◌}
use Rattle.book_commodity.proofs.RuleLemmas.{first-past, reports-past}
use Rattle.book_step.specs.Accounts.{becomes_placeholder, moved_rule, placeholder_rules, root_stays}
use Rattle.book_step.specs.Accounts.{unknown_given_account}
use Rattle.book_step.proofs.account_edit.check_edit.Goals as goal

pub returns : goal.returns
returns c =
    let book = c.args.present.now.book in
    let old = c.args.old.now in
    let new = c.args.new.now in
    let parent = unknown_given_account book.accounts c.args.parent ∷ [] in
    let root = root_stays old ∷ [] in
    let moved = moved_rule book.accounts c.args.number new new.parent ∷ [] in
    reports-past (unknown_given_account book.accounts c.args.parent ∷ root_stays old ∷ moved)
    (placeholder_rules (becomes_placeholder old new) book c.args.number) c.check_placeholder.result
    (first-past parent (root_stays old ∷ moved) c.in_ok-check_given.ensures
    ∙ first-past root moved c.in_ok-check_not_root.ensures ∙ c.in_ok-check_moved.ensures)
    c.check_placeholder.ensures

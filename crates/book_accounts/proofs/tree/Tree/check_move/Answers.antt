use Rattle.std.proofs.Common.{rules}
use Rattle.book_accounts.specs.Rules.{Reports, move_rule}
use Rattle.book_accounts.proofs.KeptLemmas.{kept_moved, on_kept}
use Rattle.book_accounts.proofs.tree.Tree.check_move.Goals as goal

pub returns-clause-keeps : goal.returns-clause-keeps
returns-clause-keeps c =
    let tree = c.args.self.now.entries in
    let rule = move_rule tree c.args.number c.args.name.now c.args.parent in
    let first : Reports rule c.check_kind.result = search rules in
    on_kept _ rule c.check_kind.result first
    (kept_moved tree c.args.number c.args.name.now c.args.parent c.in_ok-above.ensures.rises)

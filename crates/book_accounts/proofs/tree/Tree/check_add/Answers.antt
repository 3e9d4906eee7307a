use Rattle.std.proofs.Common.{rules}
use Rattle.book_accounts.specs.Rules.{Reports, add_rule}
use Rattle.book_accounts.proofs.KeptLemmas.{kept_added, on_kept}
use Rattle.book_accounts.proofs.tree.Tree.check_add.Goals as goal

pub returns-clause-keeps : goal.returns-clause-keeps
returns-clause-keeps c =
    let tree = c.args.self.now.entries in
    let first : Reports (add_rule tree c.args.account.now) c.check_kind.result = search rules in
    on_kept _ (add_rule tree c.args.account.now) c.check_kind.result first
    (kept_added tree c.args.account.now c.in_ok-above.ensures.rises)

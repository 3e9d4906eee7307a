use Rattle.std.proofs.Common.{◌≡◌, drop, map}
use Rattle.book_commodity.specs.Rules.{first_broken}
use Rattle.book_step.specs.Accounts.{unknown_account}
use Rattle.book_step.proofs.line_adding.check_accounts.Given as goal

abbrev pub invariant-loop-other : goal.invariant-loop-other
invariant-loop-other l =
    first_broken (map (λ other. unknown_account l.present.book.accounts other.account) l.others)
    ≡ first_broken (map (λ other. unknown_account l.present.book.accounts other.account) (drop l.other-index l.others))

use Rattle.std.proofs.Common.{ℕ, ◌≤◌, List, Result, Ok, Err, IfOk, length, arith}
use Rattle.book_accounts.specs.Order.{ListsEachOnce}
use Rattle.book_accounts.specs.declared.account.Account.{Account}
use Rattle.book_sound.proofs.SoundFacts.{accounts_are_rooted}
use Rattle.book_undo.specs.Book.{book_of}
use Rattle.book_reports.proofs.LineLemmas.{few_in_order}
use Rattle.book_reports.proofs.view.View.order.Goals as goal

pub order-requires : goal.order-requires
order-requires c = accounts_are_rooted (book_of c.self.inside.plain.now) c.self.invariant.0

few_of :
    {E : Type 0} (tree : List (ℕ × Account)) (result : Result (List ℕ) E) → length tree ≤ 10000
    → IfOk result (ListsEachOnce tree) → IfOk result (λ order. length order ≤ 10000)
few_of tree (Ok order) few each = omega (arith, few_in_order tree order each, few)
few_of tree (Err error) few each = tt

pub returns-clause-few : goal.returns-clause-few
returns-clause-few c =
    few_of c.self.inside.plain.now.accounts.entries c.order.result c.self.invariant.0.accounts.few
    c.order.ensures.each_once

-- A book that is known to be sound is not unsound.
use Rattle.std.proofs.Common.{◌≡◌, false, subst}
use Rattle.book_undo.specs.Book.{Book}
use Rattle.book_history.specs.Steps.{is_unsound}
use Rattle.book_history.proofs.FaultLaws.{known_sound}
use Rattle.book_history.proofs.walk.leads_on.Goals as goal

pub returns-then-branch-clause-told : goal.returns-then-branch-clause-told
returns-then-branch-clause-told c =
    let is = c.in_ok-pass.ensures.known c.if-branch.true in
    subst (λ (book : Book). is_unsound c.args.next book ≡ false) c.in_ok-pass.ensures.book
    (known_sound c.args.next _ is.0 is.1)

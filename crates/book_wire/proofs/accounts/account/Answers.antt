use Rattle.std.proofs.Common.{rules}
use Rattle.book_wire.specs.Accounts.{account}
use Rattle.book_wire.proofs.StepLemmas.{stop}
use Rattle.book_wire.proofs.accounts.account.Goals as goal

pub returns-in_err-placeholder : goal.returns-in_err-placeholder
unfolding account
returns-in_err-placeholder c =
    rw (
      c.in_ok-name.ensures,
      c.in_ok-kind.ensures,
      c.in_ok-commodity.ensures,
      c.in_ok-parent.ensures,
      c.in_ok-code.ensures,
      c.in_ok-note.ensures,
      c.in_ok-hidden.ensures,
    )
    (stop _ _ _ _ _ _ c.in_err-placeholder.ensures (search rules))

pub returns-in_err-basis : goal.returns-in_err-basis
unfolding account
returns-in_err-basis c =
    rw (
      c.in_ok-name.ensures,
      c.in_ok-kind.ensures,
      c.in_ok-commodity.ensures,
      c.in_ok-parent.ensures,
      c.in_ok-code.ensures,
      c.in_ok-note.ensures,
      c.in_ok-hidden.ensures,
      c.in_ok-placeholder.ensures,
    )
    (stop _ _ _ _ _ _ c.in_err-basis.ensures (search rules))

pub returns : goal.returns
unfolding account
returns c =
    rw (
      c.in_ok-name.ensures,
      c.in_ok-kind.ensures,
      c.in_ok-commodity.ensures,
      c.in_ok-parent.ensures,
      c.in_ok-code.ensures,
      c.in_ok-note.ensures,
      c.in_ok-hidden.ensures,
      c.in_ok-placeholder.ensures,
    )
    (search rules)

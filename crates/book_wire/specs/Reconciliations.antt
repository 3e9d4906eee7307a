-- The members of the commands that reconcile an account, in the order in which they are read.
use Rattle.std.specs.Prelude.{codes}
use Rattle.book_json.specs.Members.{Reader, needed, gives, ◌>>=◌}
use Rattle.book_json.specs.Forms.{whole, whole_signed, day_form}
use Rattle.book_command.specs.declared.command.Update.TheVariants as update
use Rattle.book_command.specs.declared.command.What.{What}
use Rattle.book_command.specs.declared.command.What.TheVariants as what

-- The account that is reconciled, the day and the closing balance.
abbrev pub reconcile : Reader What
reconcile = do
  account ← needed whole (codes "account")
  day ← needed day_form (codes "day")
  closing ← needed whole_signed (codes "closing")
  gives (what.Update (update.Reconcile account day closing))

-- The statement whose account, day and closing balance are those of the reconciliation.
abbrev pub reconcile_statement : Reader What
reconcile_statement = do
  statement ← needed whole (codes "statement")
  gives (what.Update (update.ReconcileStatement statement))

-- The account whose reconciliations are asked for.
abbrev pub recons : Reader What
recons = do
  account ← needed whole (codes "account")
  gives (what.Recons account)

-- The members of the commands on transactions, in the order in which they are read.
use Rattle.std.specs.Prelude.{None, codes, unwrap_or}
use Rattle.std.specs.Prelude.{ℕ, Bool, false, true, List, [], ◌∷◌}
use Rattle.book_json.specs.Members.{Form, Reader, needed, optional, text, flag, gives, ◌>>=◌}
use Rattle.book_json.specs.Forms.{whole, whole_signed, day_form, text_form, list, inner, among}
use Rattle.book_command.specs.declared.command.GivenSplit.{GivenSplit}
use Rattle.book_command.specs.declared.command.GivenTxn.{GivenTxn}
use Rattle.book_command.specs.declared.command.Update.{Update}
use Rattle.book_command.specs.declared.command.Update.TheVariants as update
use Rattle.book_command.specs.declared.command.What.{What}
use Rattle.book_command.specs.declared.command.What.TheVariants as what

-- A split without a number; where it gives no quantity, its quantity is its value.
unfoldable pub split : Reader GivenSplit
split = do
  account ← needed whole (codes "account")
  value ← needed whole_signed (codes "value")
  quantity ← optional whole_signed (codes "quantity")
  memo ← text (codes "memo")
  action ← text (codes "action")
  gives (record {
    account = account;
    value = value;
    quantity = unwrap_or quantity value;
    memo = memo;
    action = action;
    id = None;
  })

-- A split of a transaction that is edited: it has the number of a split that is kept, where it gives one.
unfoldable pub edited_split : Reader GivenSplit
edited_split = do
  given ← split
  id ← optional whole (codes "id")
  gives (record given { id = id })

-- A transaction, but for its day, with its splits read so.
unfoldable pub transaction : Reader GivenSplit → Reader GivenTxn
transaction split = do
  currency ← needed whole (codes "currency")
  num ← text (codes "num")
  description ← text (codes "description")
  splits ← needed (list (inner split)) (codes "splits")
  gives (record { currency = currency; num = num; description = description; splits = splits })

-- The words for the marks that are set by hand, new and cleared, and whether the split is cleared. That a split is
-- reconciled is no such mark (a rule of this project).
abbrev pub marks : List (List ℕ × Bool)
marks = (codes "n", false) ∷ (codes "c", true) ∷ []

-- The text of such a word.
unfoldable pub mark_form : Form Bool
mark_form = among marks

-- A new transaction on a day.
abbrev pub post : Reader Update
post = do
  day ← needed day_form (codes "day")
  given ← transaction split
  gives (update.Post day given)

-- A transaction with what it is to be from now on, on a day. Only an edit gives numbers of splits. An absent `force`
-- is false.
abbrev pub edit : Reader Update
edit = do
  number ← needed whole (codes "transaction")
  force ← flag (codes "force")
  day ← needed day_form (codes "day")
  given ← transaction edited_split
  gives (update.Edit number force day given)

-- The transaction that is deleted. An absent `force` is false.
abbrev pub drop_transaction : Reader Update
drop_transaction = do
  number ← needed whole (codes "transaction")
  force ← flag (codes "force")
  gives (update.Drop number force)

-- The transaction that is voided, and why. An absent `force` is false.
abbrev pub void : Reader Update
void = do
  number ← needed whole (codes "transaction")
  reason ← needed text_form (codes "reason")
  force ← flag (codes "force")
  gives (update.Void number reason force)

-- The voided transaction that is brought back.
abbrev pub unvoid : Reader Update
unvoid = do
  number ← needed whole (codes "transaction")
  gives (update.Unvoid number)

-- The account whose splits of voided transactions are asked for.
abbrev pub voided : Reader What
voided = do
  account ← needed whole (codes "account")
  gives (what.Voided account)

-- The split that is marked. An absent `force` is false.
abbrev pub mark : Reader Update
mark = do
  number ← needed whole (codes "split")
  cleared ← needed mark_form (codes "state")
  force ← flag (codes "force")
  gives (update.Mark number cleared force)

-- The members of the commands on accounts, in the order in which they are read.
use Rattle.std.specs.Prelude.{Some, codes}
use Rattle.book_accounts.specs.declared.account.Account.{Account}
use Rattle.book_json.specs.Members.{Reader, needed, optional, text, flag, gives, ◌>>=◌}
use Rattle.book_json.specs.Forms.{whole, flag_form, text_form, filled}
use Rattle.book_command.specs.declared.command.Update.{Update}
use Rattle.book_command.specs.declared.command.Update.TheVariants as update
use Rattle.book_wire.specs.Kinds.{kind_form}

-- A new account; its parent must be given.
unfoldable pub account : Reader Account
account = do
  name ← needed filled (codes "name")
  kind ← needed kind_form (codes "kind")
  commodity ← needed whole (codes "commodity")
  parent ← needed whole (codes "parent")
  code ← text (codes "code")
  note ← text (codes "note")
  hidden ← flag (codes "hidden")
  placeholder ← flag (codes "placeholder")
  basis ← optional whole (codes "basis")
  gives (record {
    name = name;
    kind = kind;
    commodity = commodity;
    parent = Some parent;
    code = code;
    note = note;
    hidden = hidden;
    placeholder = placeholder;
    basis = basis;
  })

-- The account that is added.
abbrev pub account_add : Reader Update
account_add = do
  given ← account
  gives (update.AccountAdd given)

-- An account with what it is to have from now on.
abbrev pub account_edit : Reader Update
account_edit = do
  account ← needed whole (codes "account")
  name ← optional filled (codes "name")
  parent ← optional whole (codes "parent")
  code ← optional text_form (codes "code")
  note ← optional text_form (codes "note")
  hidden ← optional flag_form (codes "hidden")
  placeholder ← optional flag_form (codes "placeholder")
  gives (update.AccountEdit account
      (record {
        name = name;
        parent = parent;
        code = code;
        note = note;
        hidden = hidden;
        placeholder = placeholder;
      }))

-- The account that is deleted.
abbrev pub account_drop : Reader Update
account_drop = do
  account ← needed whole (codes "account")
  gives (update.AccountDrop account)

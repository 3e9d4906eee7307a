-- The members of the commands on bank statements and their lines, in the order in which they are read.
use Rattle.std.specs.Prelude.{codes}
use Rattle.book_json.specs.Members.{Reader, needed, optional, text, gives, ◌>>=◌}
use Rattle.book_json.specs.Forms.{whole, whole_signed, text_form, list, inner}
use Rattle.book_command.specs.declared.command.GivenOther.{GivenOther}
use Rattle.book_command.specs.declared.command.Update.TheVariants as update
use Rattle.book_command.specs.declared.command.What.{What}
use Rattle.book_command.specs.declared.command.What.TheVariants as what
use Rattle.book_wire.specs.Formats.{format, format_form}

-- What stands against a line in the transaction that is posted for it.
unfoldable pub other : Reader GivenOther
other = do
  account ← needed whole (codes "account")
  value ← needed whole_signed (codes "value")
  memo ← text (codes "memo")
  gives (record { account = account; value = value; memo = memo })

-- An account text with the account that it stands for.
abbrev pub bind : Reader What
bind = do
  words ← needed text_form (codes "text")
  account ← needed whole (codes "account")
  gives (what.Update (update.Bind (record { text = words; account = account })))

-- A statement file, whose currency is read after its other members.
abbrev pub import : Reader What
import = do
  word ← needed format_form (codes "format")
  file ← needed text_form (codes "text")
  account ← optional whole (codes "account")
  named ← format word
  gives (what.Update (update.Import named file account))

-- The line that is matched with the split.
abbrev pub line_match : Reader What
line_match = do
  line ← needed whole (codes "line")
  split ← needed whole (codes "split")
  gives (what.Update (update.LineMatch line split))

-- The line for which a transaction is posted, where an absent description is none and an empty one stays empty.
abbrev pub line_add : Reader What
line_add = do
  line ← needed whole (codes "line")
  others ← needed (list (inner other)) (codes "others")
  description ← optional text_form (codes "description")
  gives (what.Update (update.LineAdd line others description))

-- The line that is dismissed.
abbrev pub line_dismiss : Reader What
line_dismiss = do
  line ← needed whole (codes "line")
  gives (what.Update (update.LineDismiss line))

-- The line that is open again.
abbrev pub line_reopen : Reader What
line_reopen = do
  line ← needed whole (codes "line")
  gives (what.Update (update.LineReopen line))

-- The account whose open lines are matched, and how many days a split may be away.
abbrev pub match_auto : Reader What
match_auto = do
  account ← needed whole (codes "account")
  window ← needed whole (codes "window")
  gives (what.Update (update.MatchAuto account window))

-- The account whose lines are asked for.
abbrev pub lines : Reader What
lines = do
  account ← needed whole (codes "account")
  gives (what.Lines account)

-- The account whose statements are asked for.
abbrev pub listed_statements : Reader What
listed_statements = do
  account ← needed whole (codes "account")
  gives (what.Statements account)
